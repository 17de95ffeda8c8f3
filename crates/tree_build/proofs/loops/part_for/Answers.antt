use Rattle.std.proofs.Common.{[], ◌∷◌}
use Rattle.tree_moves.specs.Tags as tag
use Rattle.tree_build.proofs.MovingS.{then_on_top}
use Rattle.tree_build.proofs.loops.part_for.Goals as goal

pub returns-clause-moves_first : goal.returns-clause-moves_first
returns-clause-moves_first c = λ k. then_on_top (tag.Text ∷ tag.ForArithmeticNone ∷ []) tag.ForArithmeticOne tag.Text _ _ _ _ (c.in_ok-close_for_part.ensures.moves_first k) c.open_text.ensures.moves

pub returns-clause-moves_second : goal.returns-clause-moves_second
returns-clause-moves_second c = λ k. then_on_top (tag.Text ∷ tag.ForArithmeticOne ∷ []) tag.ForArithmeticTwo tag.Text _ _ _ _ (c.in_ok-close_for_part.ensures.moves_second k) c.open_text.ensures.moves
