-- What is heard of a script's notes moves the tags of a builder's frames.
use Rattle.std.specs.Prelude.{◌≡◌, ℕ, zero, suc, true, List, [], ◌∷◌, Option, Some, None, option_and_then, if◌then◌else◌}
use Rattle.std.specs.List.{list_all}
use Rattle.ksh_syntax.specs.Sentences.{Took, Marked}
use Rattle.ksh_scan.specs.Scan.{ends_text}
use Rattle.script_notes.specs.declared.cursor.Event.{Event}
use Rattle.script_notes.specs.declared.cursor.Event.TheVariants as event
use Rattle.script_notes.specs.declared.note.Note.{Note}
use Rattle.script_notes.specs.declared.note.Note.TheVariants as note
use Rattle.script_notes.specs.declared.note.Notes.{Notes}
use Rattle.script_notes.specs.Arranged.{IsHeard, text_at}
use Rattle.script_notes.specs.Noted.{IsNoted}
use Rattle.tree_moves.specs.Tags.{Tag}
use Rattle.tree_moves.specs.Tags as tag
use Rattle.tree_moves.specs.Moves.{body_begins, body_ends, by_rows, moves}
use Rattle.tree_moves.specs.Turns.{is_lexed}

-- the tags behind what is heard; the end of a script changes nothing
abbrev pub moved_event : Event → List Tag → Option (List Tag)
moved_event (event.Token s) ts = if ends_text s.kind then Some ts else moves (Took (s.mode, s.kind)) ts
moved_event (event.Mark k m) ts = moves (Marked k) ts
moved_event event.BodyBegins ts = by_rows body_begins ts
moved_event event.BodyEnds ts = by_rows body_ends ts

abbrev pub moved_events : List Event → List Tag → Option (List Tag)
moved_events [] ts = Some ts
moved_events (e ∷ es) ts = option_and_then (moved_events es) (moved_event e ts)

-- where each token is one that a lexer gives in its mode, a builder has a step for each event that is heard of a script's notes, and
-- makes one list of all
abbrev pub NotesMove : Type 0
NotesMove = (text : List ℕ) (notes : Notes) (events : List Event) (n : IsNoted text notes) → list_all is_lexed n.front ≡ true → IsHeard notes.texts events
    → moved_events events (tag.Lines ∷ []) ≡ Some (tag.Listed ∷ [])

-- behind the word of a here-document the tags of its body come and go
abbrev pub body_heard : List Tag → Option (List Tag)
body_heard ts = option_and_then (by_rows body_ends) (by_rows body_begins ts)

-- the tags behind a note; no body has the script's number
abbrev pub moved_note : Note → List Tag → Option (List Tag)
moved_note (note.Token s) ts = if ends_text s.kind then Some ts else moves (Took (s.mode, s.kind)) ts
moved_note (note.Mark k m) ts = moves (Marked k) ts
moved_note (note.Body zero) ts = None
moved_note (note.Body (suc n)) ts = body_heard ts

abbrev pub moved_notes : List Note → List Tag → Option (List Tag)
moved_notes [] ts = Some ts
moved_notes (n ∷ ns) ts = option_and_then (moved_notes ns) (moved_note n ts)

-- each text but the script's leads from no pieces to pieces, as one that is empty does
abbrev pub Good : List (List Note) → Type 0
Good texts = (n : ℕ) → moved_notes (text_at (suc n) texts) (tag.Text ∷ []) ≡ Some (tag.Text ∷ [])

-- and the script's from no command to one list
pub record Lead (texts : List (List Note)) : Type 0 where
  pub own : moved_notes (text_at 0 texts) (tag.Lines ∷ []) ≡ Some (tag.Listed ∷ [])
  pub bodies : Good texts

-- the same note by note: a builder has a step for each, in whatever order bodies are heard
abbrev pub NotesLead : Type 0
NotesLead = (text : List ℕ) (notes : Notes) (n : IsNoted text notes) → list_all is_lexed n.front ≡ true → Lead notes.texts
