-- What is left to hear at places in the notes leads tags to one list.
use Rattle.std.specs.Prelude.{◌≡◌, ◌⊎◌, ℕ, zero, suc, List, [], ◌∷◌, Option, Some, None, option_and_then}
use Rattle.std.proofs.Common.{inl, inr, refl, sym, ◌∙◌, ap, subst}
use Rattle.script_notes.specs.declared.cursor.Event.{Event}
use Rattle.script_notes.specs.declared.cursor.Event.TheVariants as event
use Rattle.script_notes.specs.declared.cursor.NotePlace.{NotePlace}
use Rattle.script_notes.specs.declared.note.Note.{Note}
use Rattle.script_notes.specs.declared.note.Note.TheVariants as note
use Rattle.script_notes.specs.Arranged.{HearsEnd, HearsNote, StepsOn, into, next_place, place, rest_of, text_at, told}
use Rattle.tree_moves.specs.Tags.{Tag}
use Rattle.tree_moves.specs.Tags as tag
use Rattle.tree_moves.specs.Moves.{body_begins, body_ends, by_rows}
use Rattle.tree_moves.proofs.Words.{then_goes}
use Rattle.note_moves.specs.Heard.{Good, Lead, body_heard, moved_event, moved_note, moved_notes}
use Rattle.note_moves.specs.Leading.{Leading, LeadsOn, LeadsOut, Led}
use Rattle.note_moves.proofs.Notes.{begun, notes_more}

-- the first of notes moves the tags
note_first : (texts : List (List Note)) (n : Note) (p : NotePlace) (outer : List NotePlace) (ts : List Tag) → Good texts → rest_of texts p ≡ n ∷ rest_of texts (next_place p) → LeadsOn texts (p ∷ outer) ts
    → Led texts (told n) (into n (next_place p ∷ outer)) ts
note_first texts (note.Token s) p outer ts good more l =
    let k = then_goes (moved_notes (rest_of texts (next_place p))) (moved_note (note.Token s) ts) l.0 (sym (ap (λ ns. moved_notes ns ts) more) ∙ l.1) in
    record { tags = k.x; moved = k.some; leads = (l.0, k.goes, l.2) }
note_first texts (note.Mark m w) p outer ts good more l =
    let k = then_goes (moved_notes (rest_of texts (next_place p))) (moved_note (note.Mark m w) ts) l.0 (sym (ap (λ ns. moved_notes ns ts) more) ∙ l.1) in
    record { tags = k.x; moved = k.some; leads = (l.0, k.goes, l.2) }
note_first texts (note.Body zero) p outer ts good more l =
    let k = then_goes (moved_notes (rest_of texts (next_place p))) (moved_note (note.Body zero) ts) l.0 (sym (ap (λ ns. moved_notes ns ts) more) ∙ l.1) in
    let none : None ≡ Some k.x = k.some in
    absurd cc
note_first texts (note.Body (suc n)) p outer ts good more l =
    let k = then_goes (moved_notes (rest_of texts (next_place p))) (body_heard ts) l.0 (sym (ap (λ ns. moved_notes ns ts) more) ∙ l.1) in
    let f = then_goes (by_rows body_ends) (by_rows body_begins ts) k.x k.some in
    let g = begun ts f.x f.some in
    let within : moved_notes (text_at (suc n) texts) f.x ≡ Some f.x =
    subst (λ xs. moved_notes (text_at (suc n) texts) xs ≡ Some xs) (sym g.same) (notes_more (text_at (suc n) texts) (tag.Text ∷ []) (tag.Text ∷ []) (tag.HereBody ∷ g.rest) (good n)) in
    record { tags = f.x; moved = f.some; leads = (f.x, within, (k.x, l.0, f.goes, k.goes, l.2)) }

led_by : (texts : List (List Note)) (e e' : Event) (new new' : List NotePlace) (ts : List Tag) → e ≡ e' → new ≡ new' → Led texts e' new' ts → Led texts e new ts
led_by texts e e' new new' ts is same led = subst (λ x. Led texts x new ts) (sym is) (subst (λ ps. Led texts e' ps ts) (sym same) led)

note_led : (texts : List (List Note)) → Lead texts → (e : Event) (old new : List NotePlace) (ts : List Tag) → HearsNote texts e old new → LeadsOn texts old ts → Led texts e new ts
note_led texts lead e old new ts h l =
    led_by texts e (told h.note) new (into h.note (next_place h.place ∷ h.outer)) ts h.event h.goes
    (note_first texts h.note h.place h.outer ts lead.bodies h.behind (subst (λ ps. LeadsOn texts ps ts) h.at l))

-- behind the last note of a text
last_note : (texts : List (List Note)) (p : NotePlace) (outer : List NotePlace) (ts : List Tag) → rest_of texts p ≡ [] → LeadsOn texts (p ∷ outer) ts → LeadsOut texts outer ts
last_note texts p outer ts over l =
    let whole : Some ts ≡ Some l.0 = sym (ap (λ ns. moved_notes ns ts) over) ∙ l.1 in
    let same : ts ≡ l.0 = cc in
    subst (LeadsOut texts outer) (sym same) l.2

goes_out : (texts : List (List Note)) (outer : List NotePlace) (ts : List Tag) → (outer ≡ [] → ⊥) → LeadsOut texts outer ts → Led texts event.BodyEnds outer ts
goes_out texts [] ts some l = absurd (some refl)
goes_out texts (q ∷ outer) ts some l = record { tags = l.0; moved = l.2; leads = (l.1, l.3, l.4) }

end_led : (texts : List (List Note)) (e : Event) (old new : List NotePlace) (ts : List Tag) → HearsEnd texts e old new → LeadsOn texts old ts → Led texts e new ts
end_led texts e old new ts h l =
    led_by texts e event.BodyEnds new new ts h.event refl (goes_out texts new ts h.outside (last_note texts h.place new ts h.over (subst (λ ps. LeadsOn texts ps ts) h.at l)))

over_led : (texts : List (List Note)) (old new : List NotePlace) (ts : List Tag) → StepsOn texts (let none : Option Event = None in none) old new → LeadsOn texts old ts → ts ≡ tag.Listed ∷ []
over_led texts old new ts (inl e) l = absurd (subst (λ ps. LeadsOn texts ps ts) e l)
over_led texts old new ts (inr h) l = last_note texts h.0 [] ts h.2 (subst (λ ps. LeadsOn texts ps ts) h.1 l)

pub leading : Leading
leading = record {
  begins = λ texts lead. (tag.Listed ∷ [], lead.own, refl);
  note = note_led;
  end = end_led;
  over = over_led;
}
