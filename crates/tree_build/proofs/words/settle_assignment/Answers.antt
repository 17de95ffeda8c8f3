use Rattle.std.proofs.Common.{[], ◌∷◌}
use Rattle.tree_moves.specs.Tags as tag
use Rattle.tree_build.proofs.MovingQ.{then_settles}
use Rattle.tree_build.proofs.words.settle_assignment.Goals as goal

pub returns-clause-moves_simple : goal.returns-clause-moves_simple
returns-clause-moves_simple c = then_settles tag.WholeAssignment tag.Given tag.Simple (tag.Simple ∷ []) _ _ _ _ c.in_ok-assign_word.ensures.moves c.give_settled.ensures.moves_simple

pub returns-clause-moves_value : goal.returns-clause-moves_value
returns-clause-moves_value c = then_settles tag.WholeAssignment tag.Given tag.Value (tag.Value ∷ []) _ _ _ _ c.in_ok-assign_word.ensures.moves c.give_settled.ensures.moves_value
