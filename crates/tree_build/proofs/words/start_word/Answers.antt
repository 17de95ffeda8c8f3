use Rattle.std.proofs.Common.{[]}
use Rattle.tree_moves.specs.Tags as tag
use Rattle.tree_build.proofs.MovingS.{then_on_top}
use Rattle.tree_build.proofs.words.start_word.Goals as goal

pub returns-clause-moves_plain : goal.returns-clause-moves_plain
returns-clause-moves_plain c = λ k. then_on_top [] tag.WordStart tag.Text _ _ _ _ (c.in_ok-open_word.ensures.moves_plain k) c.open_text.ensures.moves

pub returns-clause-moves_assignment : goal.returns-clause-moves_assignment
returns-clause-moves_assignment c = λ k. then_on_top [] tag.AssignmentStart tag.Text _ _ _ _ (c.in_ok-open_word.ensures.moves_assignment k) c.open_text.ensures.moves
