use Rattle.note_moves.proofs.Leading.{leading}
use Rattle.note_moves.proofs.what_is_left_leads.Goals as goal

pub returns : goal.returns
returns c = leading
