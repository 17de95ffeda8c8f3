-- What is left to hear, by what is heard first.
use Rattle.std.specs.Prelude.{◌≡◌, ◌<◌, ◌≤◌, ◌+◌, List, [], ◌∷◌, drop, get_or, length, Some, None}
use Rattle.std.proofs.Common.{refl, sym, subst}
use Rattle.std.proofs.lemmas.List.{drop_all, drop_more}
use Rattle.script_notes.specs.declared.cursor.Event.{Event}
use Rattle.script_notes.specs.declared.cursor.Event.TheVariants as event
use Rattle.script_notes.specs.declared.cursor.NotePlace.{NotePlace}
use Rattle.script_notes.specs.declared.note.Note.{Note}
use Rattle.script_notes.specs.declared.note.Note.TheVariants as note
use Rattle.script_notes.specs.Arranged.{body, into, mark, next_place, nothing, place, rest_of, text_at, token, told, Arranged, Hears, IsHeard, Outside, Rest}

-- at the front of the script's notes all of it is left
pub at_front : (places : List NotePlace) → places ≡ place 0 0 ∷ [] → (texts : List (List Note)) (events : List Event) → Rest texts places events → IsHeard texts events
at_front places e texts events rest =
    let whole : Rest texts (place 0 0 ∷ []) events = subst (λ p. Rest texts p events) e rest in
    subst (λ to. Arranged texts (text_at 0 texts) events to) whole.2 whole.1

-- no place is left
pub nothing_left : (texts : List (List Note)) (old new : List NotePlace) → old ≡ [] → Hears texts None old new
nothing_left texts old new e = subst (λ p. Rest texts p []) (sym e) refl

ends : (texts : List (List Note)) (p : NotePlace) (text : List Note) → text ≡ text_at p.text texts → length text ≤ p.index → (events : List Event) → Arranged texts (rest_of texts p) events events
ends texts p text e past events =
    let none : rest_of texts p ≡ [] = subst (λ ns. drop p.index ns ≡ []) e (drop_all p.index text past) in
    subst (λ ns. Arranged texts ns events events) (sym none) nothing

-- the script ends
pub script_ends : (texts : List (List Note)) (p : NotePlace) (text : List Note) (old outer new : List NotePlace) → old ≡ p ∷ outer → outer ≡ [] → text ≡ text_at p.text texts → length text ≤ p.index
    → Hears texts None old new
script_ends texts p text old outer new e none is past =
    subst (λ ps. Rest texts ps []) (sym e) (subst (λ os. Rest texts (p ∷ os) []) (sym none) ([], ends texts p text is past [], refl))

outside : (texts : List (List Note)) (places : List NotePlace) (events : List Event) → (places ≡ [] → ⊥) → Rest texts places events → Outside texts places (event.BodyEnds ∷ events)
outside texts [] events some rest = absurd (some refl)
outside texts (p ∷ outer) events some rest = (events, rest.0, refl, rest.1, rest.2)

-- a body ends
pub body_ends : (texts : List (List Note)) (p : NotePlace) (text : List Note) (old outer : List NotePlace) → old ≡ p ∷ outer → (outer ≡ [] → ⊥) → text ≡ text_at p.text texts → length text ≤ p.index
    → Hears texts (Some event.BodyEnds) old outer
body_ends texts p text old outer e some is past events rest =
    subst (λ ps. Rest texts ps (event.BodyEnds ∷ events)) (sym e) (event.BodyEnds ∷ events, ends texts p text is past (event.BodyEnds ∷ events), outside texts outer events some rest)

-- the note behind a place
pub note_behind : (texts : List (List Note)) (p : NotePlace) (text : List Note) (n : Note) → text ≡ text_at p.text texts → p.index < length text
    → rest_of texts p ≡ get_or text p.index n ∷ rest_of texts (next_place p)
note_behind texts p text n e within = subst (λ ns. drop p.index ns ≡ get_or text p.index n ∷ drop (p.index + 1) ns) e (drop_more text p.index n within)

-- it is heard
first : (texts : List (List Note)) (n : Note) (p : NotePlace) (outer : List NotePlace) → rest_of texts p ≡ n ∷ rest_of texts (next_place p) → (events : List Event)
    → Rest texts (into n (next_place p ∷ outer)) events → Rest texts (p ∷ outer) (told n ∷ events)
first texts (note.Token s) p outer more events rest = (rest.0, subst (λ ns. Arranged texts ns (event.Token s ∷ events) rest.0) (sym more) (token s rest.1), rest.2)
first texts (note.Mark k m) p outer more events rest = (rest.0, subst (λ ns. Arranged texts ns (event.Mark k m ∷ events) rest.0) (sym more) (mark k m rest.1), rest.2)
first texts (note.Body number) p outer more events rest =
    let behind : Outside texts (next_place p ∷ outer) rest.0 = rest.2 in
    let within : Arranged texts (text_at number texts) events (event.BodyEnds ∷ behind.0) = subst (λ to. Arranged texts (text_at number texts) events to) behind.2 rest.1 in
    (behind.1, subst (λ ns. Arranged texts ns (event.BodyBegins ∷ events) behind.1) (sym more) (body number within behind.3), behind.4)

pub note_heard : (texts : List (List Note)) (n : Note) (p : NotePlace) (old outer pushed new : List NotePlace) (e : Event) → old ≡ p ∷ outer → rest_of texts p ≡ n ∷ rest_of texts (next_place p)
    → pushed ≡ next_place p ∷ outer → e ≡ told n → new ≡ into n pushed → Hears texts (Some e) old new
note_heard texts n p old outer pushed new e is_old more is_pushed is_told is_new events rest =
    let at : new ≡ into n (next_place p ∷ outer) = subst (λ ps. new ≡ into n ps) is_pushed is_new in
    subst (λ ps. Rest texts ps (e ∷ events)) (sym is_old)
    (subst (λ v. Rest texts (p ∷ outer) (v ∷ events)) (sym is_told) (first texts n p outer more events (subst (λ ps. Rest texts ps events) at rest)))
