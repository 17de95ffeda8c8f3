-- The tree of a script's text.
use Rattle.std.specs.Prelude.{◌≡◌, ℕ, List, [], Result, Ok, Err}
use Rattle.ksh_ast.specs.declared.tree.Item.{Item}
use Rattle.script_notes.specs.declared.cursor.Event.{Event}
use Rattle.script_notes.specs.declared.note.Notes.{Notes}
use Rattle.script_notes.specs.Arranged.{IsHeard}
use Rattle.script_notes.specs.Noted.{IsNoted}
use Rattle.tree_build.specs.Frame.{Frame}
use Rattle.tree_build.specs.Frame.{Listed}
use Rattle.tree_build.specs.declared.unbuilt.Unbuilt.{Unbuilt}
use Rattle.tree_build.specs.Frames.{Stands}
use Rattle.tree_build.specs.Reads.{Reads}
use Rattle.ksh_parser.specs.Heard.{heard, heard_before}
use Rattle.tree_build.specs.Heard.{Heard}

-- what is heard of the notes, each body of a here-document at its operator, is read as this list
pub record IsBuilt (text : List ℕ) (notes : Notes) (tree : List Item) : Type 0 where
  pub events : List Event
  pub in_order : IsHeard notes.texts events
  pub read : Reads text (heard text events) [] (Listed tree)

-- the text is a script
abbrev pub IsScriptText : List ℕ → Type 0
IsScriptText text = (notes : Notes) × IsNoted text notes

-- the text is a script, and this is its tree
pub record IsTree (text : List ℕ) (tree : List Item) : Type 0 where
  pub notes : Notes
  pub noted : IsNoted text notes
  pub built : IsBuilt text notes tree

-- the frames have read what is heard of one more event
abbrev pub Follows : {A : Type 0} → List ℕ → Event → List Frame → List Frame → Result A Unbuilt → Type 0
Follows script e old new (Ok a) = (from to : List Heard) → Stands script from old (heard_before script e to) → Stands script from new to
Follows script e old new (Err f) = Unit {0}
