-- Each token that is noted of a script fits, with its bytes.
use Rattle.std.specs.Prelude.{◌≡◌, ℕ, true, List, [], ◌∷◌, Contains}
use Rattle.std.specs.List.{list_all}
use Rattle.ksh_scan.specs.Seeing.{slice}
use Rattle.script_notes.specs.Arranged.{IsHeard, text_at}
use Rattle.script_notes.specs.Noted.{IsNoted}
use Rattle.script_notes.specs.declared.cursor.Event.{Event}
use Rattle.script_notes.specs.declared.cursor.Event.TheVariants as event
use Rattle.script_notes.specs.declared.note.Note.TheVariants as note
use Rattle.script_notes.specs.declared.note.Notes.{Notes}
use Rattle.tree_parts.specs.declared.sign.Sign.{Sign}
use Rattle.tree_moves.specs.Turns.{is_lexed}
use Rattle.tree_build.specs.Fitting.{Fitting}

-- a token fits, with its bytes from the script
abbrev pub SignFits : List ℕ → Sign → Type 0
SignFits text s = Fitting s (slice text s.from s.to)

-- each token of each text of a script: its own, and the bodies of here-documents
abbrev pub NotesFit : Type 0
NotesFit = (text : List ℕ) (notes : Notes) → IsNoted text notes → (number : ℕ) (s : Sign) → Contains (text_at number notes.texts) (note.Token s) → SignFits text s

abbrev pub EventFits : List ℕ → Event → Type 0
EventFits text (event.Token s) = SignFits text s
EventFits text _ = Unit {0}

-- each token among the events
abbrev pub AllFit : List ℕ → List Event → Type 0
AllFit text [] = Unit {0}
AllFit text (e ∷ events) = EventFits text e × AllFit text events

-- each token that is heard
abbrev pub HeardFit : Type 0
HeardFit = (text : List ℕ) (notes : Notes) → IsNoted text notes → (events : List Event) → IsHeard notes.texts events → AllFit text events

-- no front of an assignment in patterns and conditions
abbrev pub NotesAreLexed : Type 0
NotesAreLexed = (text : List ℕ) (notes : Notes) (n : IsNoted text notes) → list_all is_lexed n.front ≡ true
