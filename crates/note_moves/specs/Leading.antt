-- What is left to hear at places in the notes leads tags to one list.
use Rattle.std.specs.Prelude.{◌≡◌, List, [], ◌∷◌, Option, Some, None}
use Rattle.script_notes.specs.declared.cursor.Event.{Event}
use Rattle.script_notes.specs.declared.cursor.NotePlace.{NotePlace}
use Rattle.script_notes.specs.declared.note.Note.{Note}
use Rattle.script_notes.specs.Arranged.{HearsEnd, HearsNote, StepsOn, place, rest_of}
use Rattle.tree_moves.specs.Tags.{Tag}
use Rattle.tree_moves.specs.Tags as tag
use Rattle.tree_moves.specs.Moves.{body_ends, by_rows}
use Rattle.note_moves.specs.Heard.{Good, Lead, moved_event, moved_notes}

-- what is left outside a body, where that ends with these tags
abbrev pub LeadsOut : List (List Note) → List NotePlace → List Tag → Type 0
LeadsOut texts [] ts = ts ≡ tag.Listed ∷ []
LeadsOut texts (p ∷ outer) ts = (us vs : List Tag) × (by_rows body_ends ts ≡ Some us) × (moved_notes (rest_of texts p) us ≡ Some vs) × LeadsOut texts outer vs

-- what is left at these places, the innermost first
abbrev pub LeadsOn : List (List Note) → List NotePlace → List Tag → Type 0
LeadsOn texts [] ts = ⊥
LeadsOn texts (p ∷ outer) ts = (us : List Tag) × (moved_notes (rest_of texts p) ts ≡ Some us) × LeadsOut texts outer us

-- the event moves the tags, and what is left leads on from there
pub record Led (texts : List (List Note)) (e : Event) (places : List NotePlace) (ts : List Tag) : Type 0 where
  pub tags : List Tag
  pub moved : moved_event e ts ≡ Some tags
  pub leads : LeadsOn texts places tags

-- all of the notes leads from no command to one list; what is heard next moves the tags on that way; and where nothing is left, they are those of one list
pub record Leading : Type 0 where
  pub begins : (texts : List (List Note)) → Lead texts → LeadsOn texts (place 0 0 ∷ []) (tag.Lines ∷ [])
  pub note : (texts : List (List Note)) → Lead texts → (e : Event) (old new : List NotePlace) (ts : List Tag) → HearsNote texts e old new → LeadsOn texts old ts → Led texts e new ts
  pub end : (texts : List (List Note)) (e : Event) (old new : List NotePlace) (ts : List Tag) → HearsEnd texts e old new → LeadsOn texts old ts → Led texts e new ts
  pub over : (texts : List (List Note)) (old new : List NotePlace) (ts : List Tag) → StepsOn texts (let none : Option Event = None in none) old new → LeadsOn texts old ts → ts ≡ tag.Listed ∷ []
