-- The tags of the frames while a script's notes are heard.
use Rattle.std.specs.Prelude.{◌≡◌, ℕ, List, [], ◌∷◌, Contains, Option, Some, Result, Ok, Err}
use Rattle.script_notes.specs.declared.cursor.Event.{Event}
use Rattle.script_notes.specs.declared.note.Note.{Note}
use Rattle.script_notes.specs.declared.note.Note.TheVariants as note
use Rattle.script_notes.specs.Arranged.{text_at}
use Rattle.note_moves.specs.Heard.{Lead, moved_event}
use Rattle.note_signs.specs.Signs.{EventFits, SignFits}
use Rattle.tree_build.specs.Fits.{Fits}
use Rattle.tree_build.specs.Frame.{Frame}
use Rattle.tree_build.specs.declared.unbuilt.Unbuilt.{Unbuilt}
use Rattle.tree_build.specs.declared.unbuilt.Unbuilt.TheVariants as unbuilt
use Rattle.tree_moves.specs.Tags.{Tag}
use Rattle.tree_parts.specs.declared.sign.Sign.{Sign}

-- a step from frames of these tags to frames of those, which never strays
abbrev pub Goes : {A : Type 0} → List Tag → List Tag → List Frame → List Frame → Result A Unbuilt → Type 0
Goes ts us old new (Ok a) = Fits ts old → Fits us new
Goes ts us old new (Err unbuilt.Stray) = Fits ts old → ⊥
Goes ts us old new (Err unbuilt.Memory) = Unit {0}

-- an event that fits moves the tags as the table says
abbrev pub EventGoes : {A : Type 0} → List ℕ → Event → List Frame → List Frame → Result A Unbuilt → Type 0
EventGoes script e old new result = (ts us : List Tag) → EventFits script e → moved_event e ts ≡ Some us → Goes ts us old new result

-- each token that is noted fits, and the notes lead to one list
pub record CanBeHeard (script : List ℕ) (texts : List (List Note)) : Type 0 where
  pub fit : (number : ℕ) (s : Sign) → Contains (text_at number texts) (note.Token s) → SignFits script s
  pub lead : Lead texts
