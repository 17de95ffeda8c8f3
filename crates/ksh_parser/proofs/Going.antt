-- No step strays while a script's notes are heard.
use Rattle.std.specs.Prelude.{◌≡◌, ◌⊎◌, ℕ, zero, suc, true, false, List, [], ◌∷◌, ◌++◌, drop, Contains, Option, Some, None, Result, Ok, Err, if◌then◌else◌}
use Rattle.std.proofs.Common.{inl, inr, refl, sym, ◌∙◌, ap, subst, arith}
use Rattle.ksh_scan.specs.Scan.{ends_text}
use Rattle.ksh_scan.specs.Seeing.{slice}
use Rattle.ksh_syntax.specs.declared.kind.Kind.{Kind}
use Rattle.ksh_syntax.specs.declared.kind.Kind.TheVariants as kind
use Rattle.ksh_syntax.specs.declared.part.Mark.{Mark}
use Rattle.ksh_syntax.specs.Sentences.{Took}
use Rattle.script_notes.specs.declared.cursor.Event.{Event}
use Rattle.script_notes.specs.declared.cursor.Event.TheVariants as event
use Rattle.script_notes.specs.declared.cursor.NotePlace.{NotePlace}
use Rattle.script_notes.specs.declared.note.Note.{Note}
use Rattle.script_notes.specs.declared.note.Note.TheVariants as note
use Rattle.script_notes.specs.Arranged.{HearsEnd, HearsNote, StepsOn, next_place, place, rest_of, text_at, told}
use Rattle.tree_moves.specs.Tags.{Tag}
use Rattle.tree_moves.specs.Tags as tag
use Rattle.tree_moves.specs.Moves.{Row, body_begins, body_ends, by_mark, by_rows, kept, mark_rows, moves, token_rows}
use Rattle.tree_moves.proofs.Rows.{Replaces, row_or_later}
use Rattle.note_moves.specs.Leading.{LeadsOn, Led}
use Rattle.note_moves.proofs.Leading.{leading}
use Rattle.note_signs.specs.Signs.{EventFits}
use Rattle.tree_build.specs.Fits.{Fits, Moves}
use Rattle.tree_build.specs.Fitting.{Fitting}
use Rattle.tree_build.specs.Frame.{Frame}
use Rattle.tree_build.specs.Places.{place_at}
use Rattle.tree_build.specs.declared.place.Place.TheVariants as place_kind
use Rattle.tree_build.specs.declared.unbuilt.Unbuilt.{Unbuilt}
use Rattle.tree_build.specs.declared.unbuilt.Unbuilt.TheVariants as unbuilt
use Rattle.tree_parts.specs.declared.sign.Moment.{Moment}
use Rattle.tree_parts.specs.declared.sign.Sign.{Sign}
use Rattle.script_tree.specs.Steps.{AllMove, MarkMoves, MarkSays}
use Rattle.ksh_parser.specs.Going.{CanBeHeard, EventGoes, Goes}
use Rattle.ksh_parser.specs.Heard.{is_end}
use Rattle.ksh_parser.proofs.OnTop.{on_top}

-- ---- by the rows of a table

goes_at : {A : Type 0} (r : Row) (ts us rest : List Tag) (old new : List Frame) (result : Result A Unbuilt) → ts ≡ r.0 ++ rest → us ≡ r.1 ++ rest → Moves r old new result → Goes ts us old new result
goes_at r ts us rest old new (Ok a) before behind m = λ fits. subst (λ xs. Fits xs new) (sym behind) (m rest (subst (λ xs. Fits xs old) before fits))
goes_at r ts us rest old new (Err unbuilt.Stray) before behind m = λ fits. m rest (subst (λ xs. Fits xs old) before fits)
goes_at r ts us rest old new (Err unbuilt.Memory) before behind m = tt

pub goes_by : {A : Type 0} (rows : List Row) (ts us : List Tag) (old new : List Frame) (result : Result A Unbuilt) → AllMove rows old new result → by_rows rows ts ≡ Some us → Goes ts us old new result
goes_by [] ts us old new result all h = absurd cc
goes_by (r ∷ rows) ts us old new result all h = go (row_or_later r rows ts us h) (goes_by rows ts us old new result all.1)
  where
    go : Replaces r ts us ⊎ (by_rows rows ts ≡ Some us) → (by_rows rows ts ≡ Some us → Goes ts us old new result) → Goes ts us old new result
    go (inl x) later = goes_at r ts us x.rest old new result x.before x.behind all.0
    go (inr e) later = later e

-- ---- events

same_end : (k : Kind) → is_end k ≡ ends_text k
same_end kind.End = refl
same_end _ = refl

-- the end of the script
pub end_goes : {A : Type 0} (script : List ℕ) (s : Sign) (a : A) (old new : List Frame) → is_end s.kind ≡ true → new ≡ old → (let r : Result A Unbuilt = Ok a in EventGoes script (event.Token s) old new r)
end_goes script s a old new is same = λ ts us fit moved fits.
    let b : ends_text s.kind ≡ true = sym (same_end s.kind) ∙ is in
    let whole : Some ts ≡ Some us = sym (ap (λ t. if t then Some ts else moves (Took (s.mode, s.kind)) ts) b) ∙ moved in
    let equal : ts ≡ us = cc in
    subst (λ xs. Fits xs new) equal (subst (Fits ts) (sym same) fits)

-- another token
pub token_goes : {A : Type 0} (script : List ℕ) (s : Sign) (bytes : List ℕ) (old new : List Frame) (r : Result A Unbuilt) → is_end s.kind ≡ false → bytes ≡ slice script s.from s.to
    → (Fitting s bytes → AllMove (token_rows s.mode s.kind) old new r) → EventGoes script (event.Token s) old new r
token_goes script s bytes old new r is same all = λ ts us fit moved.
    let b : ends_text s.kind ≡ false = sym (same_end s.kind) ∙ is in
    goes_by (token_rows s.mode s.kind) ts us old new r (all (subst (λ bs. Fitting s bs) (sym same) fit))
    (sym (ap (λ t. if t then Some ts else moves (Took (s.mode, s.kind)) ts) b) ∙ moved)

kept_goes : {A : Type 0} (ts us : List Tag) (old new : List Frame) (r : Result A Unbuilt) → ((place_at old 0 ≡ place_kind.Nothing → ⊥) → Moves ([], []) old new r) → kept ts ≡ Some us
    → ((t : Tag) (rest : List Tag) → Fits (t ∷ rest) old → place_at old 0 ≡ place_kind.Nothing → ⊥) → Goes ts us old new r
kept_goes [] us old new r m h some = absurd cc
kept_goes (t ∷ ts) us old new (Ok a) m h some = λ fits.
    let equal : t ∷ ts ≡ us = cc in
    subst (λ xs. Fits xs new) equal (m (some t ts fits) (t ∷ ts) fits)
kept_goes (t ∷ ts) us old new (Err unbuilt.Stray) m h some = λ fits. m (some t ts fits) (t ∷ ts) fits
kept_goes (t ∷ ts) us old new (Err unbuilt.Memory) m h some = tt

by_mark_goes : {A : Type 0} (o : Option (List Row)) (ts us : List Tag) (old new : List Frame) (r : Result A Unbuilt) → MarkSays o old new r → by_mark o ts ≡ Some us → Goes ts us old new r
by_mark_goes (Some rows) ts us old new r says h = goes_by rows ts us old new r says h
by_mark_goes None ts us old new r says h = kept_goes ts us old new r says h (λ t rest. on_top t rest old)

pub mark_goes : {A : Type 0} (script : List ℕ) (k : Mark) (m : Moment) (old new : List Frame) (r : Result A Unbuilt) → MarkMoves k old new r → EventGoes script (event.Mark k m) old new r
mark_goes script k m old new r says = λ ts us fit moved. by_mark_goes (mark_rows k) ts us old new r says moved

pub begin_goes : {A : Type 0} (script : List ℕ) (old new : List Frame) (r : Result A Unbuilt) → Moves (tag.HereWord ∷ [], tag.Text ∷ tag.HereBody ∷ []) old new r → EventGoes script event.BodyBegins old new r
begin_goes script old new r m = λ ts us fit moved. goes_by body_begins ts us old new r (m, tt) moved

pub body_end_goes : {A : Type 0} (script : List ℕ) (old new : List Frame) (r : Result A Unbuilt) → Moves (tag.Text ∷ tag.HereBody ∷ tag.Simple ∷ [], tag.Simple ∷ []) old new r
    → Moves (tag.Text ∷ tag.HereBody ∷ tag.Compound ∷ [], tag.Compound ∷ []) old new r → EventGoes script event.BodyEnds old new r
body_end_goes script old new r m n = λ ts us fit moved. goes_by body_ends ts us old new r (m, (n, tt)) moved

-- ---- all that is heard

-- the frames have tags that what is left leads to one list
pub record Going (script : List ℕ) (texts : List (List Note)) (places : List NotePlace) (frames : List Frame) : Type 0 where
  pub tags : List Tag
  pub fits : Fits tags frames
  pub leads : LeadsOn texts places tags

pub begins_going : (script : List ℕ) (texts : List (List Note)) (places : List NotePlace) (none frames : List Frame) → CanBeHeard script texts → places ≡ place 0 0 ∷ [] → none ≡ []
    → ((rest : List Tag) → Fits rest none → Fits (tag.Lines ∷ rest) frames) → Going script texts places frames
begins_going script texts places none frames can at empty opens = record {
  tags = tag.Lines ∷ [];
  fits = opens [] (subst (Fits []) (sym empty) tt);
  leads = subst (λ ps. LeadsOn texts ps (tag.Lines ∷ [])) (sym at) (leading.begins texts can.lead);
}

contains_at : {A : Type 0} (xs ys : List A) (k : ℕ) (x : A) → drop k xs ≡ x ∷ ys → Contains xs x
contains_at [] ys zero x h = absurd cc
contains_at [] ys (suc k) x h = absurd cc
contains_at (y ∷ xs) ys zero x h =
    let same : y ≡ x = cc in
    (0, omega arith, same)
contains_at (y ∷ xs) ys (suc k) x h =
    let c = contains_at xs ys k x h in
    (suc c.0, omega (arith, c.1), c.2)

note_fits : (script : List ℕ) (texts : List (List Note)) (n : Note) (p : NotePlace) → CanBeHeard script texts → rest_of texts p ≡ n ∷ rest_of texts (next_place p) → EventFits script (told n)
note_fits script texts (note.Token s) p can more = can.fit p.text s (contains_at (text_at p.text texts) (rest_of texts (next_place p)) p.index (note.Token s) more)
note_fits script texts (note.Mark k m) p can more = tt
note_fits script texts (note.Body number) p can more = tt

record Fine (script : List ℕ) (texts : List (List Note)) (e : Event) (new : List NotePlace) (ts : List Tag) : Type 0 where
  fit : EventFits script e
  led : Led texts e new ts

fine : (script : List ℕ) (texts : List (List Note)) (e : Event) (old new : List NotePlace) (ts : List Tag) → CanBeHeard script texts → HearsNote texts e old new ⊎ HearsEnd texts e old new → LeadsOn texts old ts → Fine script texts e new ts
fine script texts e old new ts can (inl h) l = record { fit = subst (EventFits script) (sym h.event) (note_fits script texts h.note h.place can h.behind); led = leading.note texts can.lead e old new ts h l }
fine script texts e old new ts can (inr h) l = record { fit = subst (EventFits script) (sym h.event) tt; led = leading.end texts e old new ts h l }

pub goes_on_going : {A : Type 0} (script : List ℕ) (texts : List (List Note)) (e : Event) (old new : List NotePlace) (before after : List Frame) (a : A) → CanBeHeard script texts
    → StepsOn texts (Some e) old new → (let r : Result A Unbuilt = Ok a in EventGoes script e before after r) → Going script texts old before → Going script texts new after
goes_on_going script texts e old new before after a can steps goes g =
    let f = fine script texts e old new g.tags can steps g.leads in
    record { tags = f.led.tags; fits = goes g.tags f.led.tags f.fit f.led.moved g.fits; leads = f.led.leads }

never_stray : (script : List ℕ) (texts : List (List Note)) (e : Event) (old new : List NotePlace) (before after : List Frame) → CanBeHeard script texts
    → StepsOn texts (Some e) old new → (let r : Result (Unit {0}) Unbuilt = Err unbuilt.Stray in EventGoes script e before after r) → Going script texts old before → ⊥
never_stray script texts e old new before after can steps goes g =
    let f = fine script texts e old new g.tags can steps g.leads in
    goes g.tags f.led.tags f.fit f.led.moved g.fits

-- what is answered where an event isn't heard
pub heard_not_stray : (A : Type 0) (script : List ℕ) (texts : List (List Note)) (e : Event) (old new : List NotePlace) (before after : List Frame) (x : Unbuilt) (r : Result A Unbuilt) → r ≡ Err x
    → CanBeHeard script texts → StepsOn texts (Some e) old new → (let s : Result (Unit {0}) Unbuilt = Err x in EventGoes script e before after s) → Going script texts old before → r ≡ Err unbuilt.Stray → ⊥
heard_not_stray A script texts e old new before after unbuilt.Stray r is can steps goes g stray = never_stray script texts e old new before after can steps goes g
heard_not_stray A script texts e old new before after unbuilt.Memory r is can steps goes g stray = absurd cc

-- the list of a script opens where nothing is open
pub opens_not_stray : (A : Type 0) (none frames : List Frame) (x : Unbuilt) (r : Result A Unbuilt) → r ≡ Err x → none ≡ []
    → (let s : Result (Unit {0}) Unbuilt = Err x in Moves ([], tag.Lines ∷ []) none frames s) → r ≡ Err unbuilt.Stray → ⊥
opens_not_stray A none frames unbuilt.Stray r is empty opens stray = opens [] (subst (Fits []) (sym empty) tt)
opens_not_stray A none frames unbuilt.Memory r is empty opens stray = absurd cc

pub ends_going : (script : List ℕ) (texts : List (List Note)) (old new : List NotePlace) (frames : List Frame) → StepsOn texts (let none : Option Event = None in none) old new → Going script texts old frames → Fits (tag.Listed ∷ []) frames
ends_going script texts old new frames steps g = subst (λ ts. Fits ts frames) (leading.over texts old new g.tags steps g.leads) g.fits
