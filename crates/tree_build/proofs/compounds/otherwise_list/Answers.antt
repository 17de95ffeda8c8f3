use Rattle.std.proofs.Common.{[], ◌∷◌}
use Rattle.tree_build.proofs.MovingP.{then_lines}
use Rattle.tree_moves.specs.Tags as tag
use Rattle.tree_build.proofs.compounds.otherwise_list.Goals as goal

pub returns-clause-moves : goal.returns-clause-moves
returns-clause-moves c = λ k. then_lines (tag.Listed ∷ tag.Then ∷ []) (tag.Else ∷ []) _ _ _ _ (c.in_ok-end_last_arm.ensures.moves k) c.open_list.ensures.moves
