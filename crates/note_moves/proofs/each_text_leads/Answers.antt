use Rattle.note_moves.proofs.Theorem.{notes_lead}
use Rattle.note_moves.proofs.each_text_leads.Goals as goal

pub returns : goal.returns
returns c = notes_lead
