use Rattle.std.proofs.Common.{rules}
use Rattle.ast_equal.proofs.Branches.{case_item_comes}
use Rattle.ast_equal.proofs.equal_commands.compare_case_item.Goals as goal

pub returns : goal.returns
returns c = case_item_comes c.args.left.now c.args.right.now _ _ _ _ _ c.in_ok-push.ensures c.in_ok-push-2.ensures (search rules) (λ e. search rules) (λ e. search rules) (λ e. search rules) (λ e. search rules)
