use Rattle.std.proofs.Common.{[], ◌∷◌}
use Rattle.tree_build.proofs.MovingP.{then_terms}
use Rattle.tree_moves.specs.Tags as tag
use Rattle.tree_build.proofs.conditions.begin_nested.Goals as goal

pub returns-clause-moves : goal.returns-clause-moves
returns-clause-moves c = λ k. then_terms [] (tag.Nested ∷ []) _ _ _ _ (c.in_ok-open_parenthesis.ensures.moves k) c.open_terms.ensures.moves
