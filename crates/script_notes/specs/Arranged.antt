-- The order in which notes are heard.
use Rattle.std.specs.Prelude.{◌≡◌, ◌⊎◌, ℕ, ◌+◌, List, [], ◌∷◌, drop, slice_get, Option, Some, None}
use Rattle.ksh_syntax.specs.declared.part.Mark.{Mark}
use Rattle.tree_parts.specs.declared.sign.Sign.{Sign}
use Rattle.tree_parts.specs.declared.sign.Moment.{Moment}
use Rattle.script_notes.specs.declared.cursor.Event.{Event}
use Rattle.script_notes.specs.declared.cursor.Event.TheVariants as event
use Rattle.script_notes.specs.declared.cursor.NotePlace.{NotePlace}
use Rattle.script_notes.specs.declared.note.Note.{Note}
use Rattle.script_notes.specs.declared.note.Note.TheVariants as note

abbrev pub notes_or_none : Option (List Note) → List Note
notes_or_none (Some notes) = notes
notes_or_none None = []

-- the notes of the text of that number
abbrev pub text_at : ℕ → List (List Note) → List Note
text_at number texts = notes_or_none (slice_get texts number)

-- Where the events `from` are left to be heard before the notes, and `to` behind them, what stands between is heard of the notes.
-- The notes of a body are heard where its number stands.
pub data Arranged (texts : List (List Note)) : List Note → List Event → List Event → Type 0 where
  nothing : {to : List Event} → Arranged texts [] to to
  token : {notes : List Note} {from to : List Event} (s : Sign) → Arranged texts notes from to → Arranged texts (note.Token s ∷ notes) (event.Token s ∷ from) to
  mark : {notes : List Note} {from to : List Event} (k : Mark) (m : Moment) → Arranged texts notes from to → Arranged texts (note.Mark k m ∷ notes) (event.Mark k m ∷ from) to
  body : {notes : List Note} {from middle to : List Event} (number : ℕ) → Arranged texts (text_at number texts) from (event.BodyEnds ∷ middle) → Arranged texts notes middle to
      → Arranged texts (note.Body number ∷ notes) (event.BodyBegins ∷ from) to

-- these events are heard of a script with these notes
abbrev pub IsHeard : List (List Note) → List Event → Type 0
IsHeard texts events = Arranged texts (text_at 0 texts) events []

-- the notes behind a place
abbrev pub rest_of : List (List Note) → NotePlace → List Note
rest_of texts p = drop p.index (text_at p.text texts)

-- what is left to hear outside a body that ends there
abbrev pub Outside : List (List Note) → List NotePlace → List Event → Type 0
Outside texts [] events = events ≡ []
Outside texts (p ∷ outer) events = (more middle : List Event) × (events ≡ event.BodyEnds ∷ more) × Arranged texts (rest_of texts p) more middle × Outside texts outer middle

-- what is left to hear at these places, the innermost first
abbrev pub Rest : List (List Note) → List NotePlace → List Event → Type 0
Rest texts [] events = events ≡ []
Rest texts (p ∷ outer) events = (middle : List Event) × Arranged texts (rest_of texts p) events middle × Outside texts outer middle

-- one event is heard; or nothing is left
abbrev pub Hears : List (List Note) → Option Event → List NotePlace → List NotePlace → Type 0
Hears texts (Some e) old new = (events : List Event) → Rest texts new events → Rest texts old (e ∷ events)
Hears texts None old new = Rest texts old []

-- what is heard of a note itself
abbrev pub told : Note → Event
told (note.Token s) = event.Token s
told (note.Mark k m) = event.Mark k m
told (note.Body number) = event.BodyBegins

abbrev pub place : ℕ → ℕ → NotePlace
place text index = record { text = text; index = index }

-- where hearing goes on behind it
abbrev pub into : Note → List NotePlace → List NotePlace
into (note.Body number) places = place number 0 ∷ places
into _ places = places

abbrev pub next_place : NotePlace → NotePlace
next_place p = place p.text (p.index + 1)

-- the note behind a place is heard
pub record HearsNote (texts : List (List Note)) (e : Event) (old new : List NotePlace) : Type 0 where
  pub place : NotePlace
  pub outer : List NotePlace
  pub note : Note
  pub at : old ≡ place ∷ outer
  pub behind : rest_of texts place ≡ note ∷ rest_of texts (next_place place)
  pub event : e ≡ told note
  pub goes : new ≡ into note (next_place place ∷ outer)

-- the body of a here-document ends, and its text goes on outside it
pub record HearsEnd (texts : List (List Note)) (e : Event) (old new : List NotePlace) : Type 0 where
  pub place : NotePlace
  pub at : old ≡ place ∷ new
  pub over : rest_of texts place ≡ []
  pub outside : new ≡ [] → ⊥
  pub event : e ≡ event.BodyEnds

-- one event is heard at the places; or the script's own text is over
abbrev pub StepsOn : List (List Note) → Option Event → List NotePlace → List NotePlace → Type 0
StepsOn texts (Some e) old new = HearsNote texts e old new ⊎ HearsEnd texts e old new
StepsOn texts None old new = (old ≡ []) ⊎ ((p : NotePlace) × (old ≡ p ∷ []) × (rest_of texts p ≡ []))
