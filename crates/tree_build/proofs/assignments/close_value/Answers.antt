use Rattle.std.proofs.Common.{[], ◌∷◌}
use Rattle.tree_moves.specs.Tags as tag
use Rattle.tree_build.proofs.MovingQ.{then_gives}
use Rattle.tree_build.proofs.assignments.close_value.Goals as goal

pub returns-clause-moves_simple : goal.returns-clause-moves_simple
returns-clause-moves_simple c = λ k. then_gives tag.Value tag.Assigning tag.Assigned tag.Simple (tag.Simple ∷ []) _ _ _ _ (c.in_ok-end_value.ensures.moves k) c.give_assignment.ensures.moves_simple

pub returns-clause-moves_value : goal.returns-clause-moves_value
returns-clause-moves_value c = λ k. then_gives tag.Value tag.Assigning tag.Assigned tag.Value (tag.Value ∷ []) _ _ _ _ (c.in_ok-end_value.ensures.moves k) c.give_assignment.ensures.moves_value
