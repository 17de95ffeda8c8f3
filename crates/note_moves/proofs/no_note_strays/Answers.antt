use Rattle.note_moves.proofs.Theorem.{notes_move}
use Rattle.note_moves.proofs.no_note_strays.Goals as goal

pub returns : goal.returns
returns c = notes_move
