-- The notes of a script can be heard.
use Rattle.std.specs.Prelude.{ℕ, List}
use Rattle.script_notes.specs.declared.note.Notes.{Notes}
use Rattle.script_notes.specs.Noted.{IsNoted}
use Rattle.note_moves.specs.Heard.{NotesLead}
use Rattle.note_signs.specs.Signs.{NotesAreLexed, NotesFit}
use Rattle.ksh_parser.specs.Going.{CanBeHeard}

pub can_be_heard : (text : List ℕ) (notes : Notes) → IsNoted text notes → NotesFit → NotesAreLexed → NotesLead → CanBeHeard text notes.texts
can_be_heard text notes n fit lexed lead = record { fit = fit text notes n; lead = lead text notes n (lexed text notes n) }
