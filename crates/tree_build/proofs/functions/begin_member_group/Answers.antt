use Rattle.std.proofs.Common.{[], ◌∷◌}
use Rattle.tree_moves.specs.Tags as tag
use Rattle.tree_build.proofs.MovingS.{then_on_top}
use Rattle.tree_build.proofs.functions.begin_member_group.Goals as goal

pub returns-clause-moves : goal.returns-clause-moves
returns-clause-moves c = λ k. then_on_top (tag.MemberBody ∷ []) tag.Group tag.Lines _ _ _ _ (c.in_ok-open_member_body.ensures.moves k) c.open_list.ensures.moves
