use Rattle.std.proofs.Common.{rules, sym, ◌∙◌}
use Rattle.tree_build.proofs.Defining.{reads_member_group}
use Rattle.tree_build.proofs.Onto.{member_body_on, group_on}
use Rattle.tree_build.specs.Frame.{Group}
use Rattle.tree_build.proofs.Moving.{one_for_one}
use Rattle.tree_moves.specs.Tags as tag
use Rattle.tree_build.proofs.functions.open_member_body.Goals as goal

pub returns-clause-grows : goal.returns-clause-grows
returns-clause-grows c =
    reads_member_group c.args.sign c.args.bytes.now _ _ _ (search rules)
    (sym c.frames.view_is ∙ member_body_on c.frames.inside.opened c.pop.new.self _ (search rules))
    (group_on c.push_after.new.self c.pop.new.self _ c.args.sign.line (search rules))

pub returns-clause-moves : goal.returns-clause-moves
returns-clause-moves c =
    λ k. one_for_one tag.MemberBody tag.Group _ (Group c.args.sign.line) _ _ _ (λ p. tt)
    (sym c.frames.view_is ∙ member_body_on c.frames.inside.opened c.pop.new.self _ (search rules))
    (group_on c.push_after.new.self c.pop.new.self _ c.args.sign.line (search rules))
