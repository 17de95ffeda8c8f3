use Rattle.std.proofs.Common.{[], ◌∷◌}
use Rattle.tree_moves.specs.Tags as tag
use Rattle.tree_build.proofs.MovingS.{then_on_top}
use Rattle.tree_build.proofs.loops.do_for.Goals as goal

pub returns-clause-moves_name : goal.returns-clause-moves_name
returns-clause-moves_name c = λ k. then_on_top (tag.ForName ∷ []) tag.ForBody tag.Lines _ _ _ _ (c.in_ok-end_for_words.ensures.moves_name k) c.open_list.ensures.moves

pub returns-clause-moves_words : goal.returns-clause-moves_words
returns-clause-moves_words c = λ k. then_on_top (tag.ForReady ∷ []) tag.ForBody tag.Lines _ _ _ _ (c.in_ok-end_for_words.ensures.moves_words k) c.open_list.ensures.moves

pub returns-clause-moves_parts : goal.returns-clause-moves_parts
returns-clause-moves_parts c = λ k. then_on_top (tag.ForArithmeticThree ∷ []) tag.ForArithmeticBody tag.Lines _ _ _ _ (c.in_ok-end_for_words.ensures.moves_parts k) c.open_list.ensures.moves
