-- What notes do to tags, where each body that is heard leads from no pieces to pieces.
use Rattle.std.specs.Prelude.{◌≡◌, ℕ, zero, suc, Bool, true, false, List, [], ◌∷◌, ◌++◌, length, slice_set, Option, Some, None, option_and_then, if◌then◌else◌}
use Rattle.std.proofs.Common.{◌⊎◌, inl, inr, refl, sym, ◌∙◌, ap, subst}
use Rattle.ksh_syntax.specs.Sentences.{Took, Marked}
use Rattle.ksh_scan.specs.Scan.{ends_text}
use Rattle.script_notes.specs.declared.cursor.Event.{Event}
use Rattle.script_notes.specs.declared.note.Note.{Note}
use Rattle.script_notes.specs.declared.note.Note.TheVariants as note
use Rattle.script_notes.specs.Arranged.{Arranged, body, mark, nothing, text_at, token}
use Rattle.tree_moves.specs.Tags.{Tag}
use Rattle.tree_moves.specs.Tags as tag
use Rattle.tree_moves.specs.Moves.{body_begins, body_ends, by_rows, moves}
use Rattle.tree_moves.proofs.Below.{body_more, moves_more}
use Rattle.tree_moves.proofs.Rows.{Replaces, row_or_later}
use Rattle.tree_moves.proofs.Words.{then_goes}
use Rattle.note_moves.specs.Heard.{Good, body_heard, moved_events, moved_note, moved_notes}

-- ---- notes behind others

pub notes_then : (ns ms : List Note) (ts us : List Tag) → moved_notes ns ts ≡ Some us → moved_notes (ns ++ ms) ts ≡ moved_notes ms us
notes_then [] ms ts us h = let same : ts ≡ us = cc in ap (moved_notes ms) same
notes_then (n ∷ ns) ms ts us h =
    let k = then_goes (moved_notes ns) (moved_note n ts) us h in
    ap (option_and_then (moved_notes (ns ++ ms))) k.some ∙ notes_then ns ms k.x us k.goes

pub one_note : (n : Note) (ts us : List Tag) → moved_note n ts ≡ Some us → moved_notes (n ∷ []) ts ≡ Some us
one_note n ts us h = ap (option_and_then (moved_notes [])) h

-- ---- tags below

kept_or_moved : (b : Bool) (o p : Option (List Tag)) (ts us more : List Tag) → (o ≡ Some us → p ≡ Some (us ++ more)) → (if b then Some ts else o) ≡ Some us
    → (if b then Some (ts ++ more) else p) ≡ Some (us ++ more)
kept_or_moved true o p ts us more f h = let same : ts ≡ us = cc in ap (λ xs. Some (xs ++ more)) same
kept_or_moved false o p ts us more f h = f h

note_more : (n : Note) (ts us more : List Tag) → moved_note n ts ≡ Some us → moved_note n (ts ++ more) ≡ Some (us ++ more)
note_more (note.Token s) ts us more h =
    kept_or_moved (ends_text s.kind) (moves (Took (s.mode, s.kind)) ts) (moves (Took (s.mode, s.kind)) (ts ++ more)) ts us more (λ e. moves_more (Took (s.mode, s.kind)) ts us more e) h
note_more (note.Mark k m) ts us more h = moves_more (Marked k) ts us more h
note_more (note.Body zero) ts us more h = cc
note_more (note.Body (suc n)) ts us more h = body_more ts us more h

pub notes_more : (ns : List Note) (ts us more : List Tag) → moved_notes ns ts ≡ Some us → moved_notes ns (ts ++ more) ≡ Some (us ++ more)
notes_more [] ts us more h = let same : ts ≡ us = cc in ap (λ xs. Some (xs ++ more)) same
notes_more (n ∷ ns) ts us more h =
    let k = then_goes (moved_notes ns) (moved_note n ts) us h in
    ap (option_and_then (moved_notes ns)) (note_more n ts k.x more k.some) ∙ notes_more ns k.x us more k.goes

-- ---- bodies

at_added : (texts : List (List Note)) (n : ℕ) → text_at n (texts ++ [] ∷ []) ≡ text_at n texts
at_added [] zero = refl
at_added [] (suc n) = refl
at_added (t ∷ texts) zero = refl
at_added (t ∷ texts) (suc n) = at_added texts n

pub good_added : (texts : List (List Note)) → Good texts → Good (texts ++ [] ∷ [])
good_added texts h n = ap (λ ns. moved_notes ns (tag.Text ∷ [])) (at_added texts (suc n)) ∙ h n

at_set : (P : List Note → Type 0) (texts : List (List Note)) (i n : ℕ) (notes : List Note) → P (text_at n texts) → P notes → P (text_at n (slice_set texts i notes))
at_set P [] i n notes h k = h
at_set P (t ∷ texts) zero zero notes h k = k
at_set P (t ∷ texts) zero (suc n) notes h k = h
at_set P (t ∷ texts) (suc i) zero notes h k = h
at_set P (t ∷ texts) (suc i) (suc n) notes h k = at_set P texts i n notes h k

pub good_set : (texts : List (List Note)) (i : ℕ) (notes : List Note) → Good texts → moved_notes notes (tag.Text ∷ []) ≡ Some (tag.Text ∷ []) → Good (slice_set texts i notes)
good_set texts i notes h k n = at_set (λ ns. moved_notes ns (tag.Text ∷ []) ≡ Some (tag.Text ∷ [])) texts i (suc n) notes (h n) k

pub good_first : (texts : List (List Note)) (notes : List Note) → Good texts → Good (slice_set texts 0 notes)
good_first [] notes h n = h n
good_first (t ∷ texts) notes h n = h n

pub first_set : (texts : List (List Note)) (k : ℕ) (notes : List Note) → length texts ≡ suc k → text_at 0 (slice_set texts 0 notes) ≡ notes
first_set [] k notes h = cc
first_set (t ∷ texts) k notes h = refl

-- ---- what is heard

none_left : {A : Type 0} (ts us : List Tag) → by_rows [] ts ≡ Some us → A
none_left ts us h = cc

pub record Begun (us : List Tag) : Type 0 where
  pub rest : List Tag
  pub same : us ≡ tag.Text ∷ tag.HereBody ∷ rest

pub begun : (ts us : List Tag) → by_rows body_begins ts ≡ Some us → Begun us
begun ts us h = go (row_or_later (tag.HereWord ∷ [], tag.Text ∷ tag.HereBody ∷ []) [] ts us h)
  where
    go : Replaces (tag.HereWord ∷ [], tag.Text ∷ tag.HereBody ∷ []) ts us ⊎ (by_rows [] ts ≡ Some us) → Begun us
    go (inl r) = record { rest = r.rest; same = r.behind }
    go (inr e) = none_left ts us e

-- the events do what the notes do
pub heard_moves : (texts : List (List Note)) → Good texts → {notes : List Note} {from to : List Event} → Arranged texts notes from to → (ts us : List Tag) → moved_notes notes ts ≡ Some us
    → moved_events from ts ≡ moved_events to us
heard_moves texts good {to} nothing ts us h = let same : ts ≡ us = cc in ap (moved_events to) same
heard_moves texts good (token {notes} {from} s a) ts us h =
    let k = then_goes (moved_notes notes) (moved_note (note.Token s) ts) us h in
    ap (option_and_then (moved_events from)) k.some ∙ heard_moves texts good a k.x us k.goes
heard_moves texts good (mark {notes} {from} l m a) ts us h =
    let k = then_goes (moved_notes notes) (moved_note (note.Mark l m) ts) us h in
    ap (option_and_then (moved_events from)) k.some ∙ heard_moves texts good a k.x us k.goes
heard_moves texts good (body zero a b) ts us h = cc
heard_moves texts good (body {notes} {from} {middle} (suc n) a b) ts us h =
    let k = then_goes (moved_notes notes) (body_heard ts) us h in
    let f = then_goes (by_rows body_ends) (by_rows body_begins ts) k.x k.some in
    let g = begun ts f.x f.some in
    let within : moved_notes (text_at (suc n) texts) f.x ≡ Some f.x =
    subst (λ xs. moved_notes (text_at (suc n) texts) xs ≡ Some xs) (sym g.same) (notes_more (text_at (suc n) texts) (tag.Text ∷ []) (tag.Text ∷ []) (tag.HereBody ∷ g.rest) (good n)) in
    ap (option_and_then (moved_events from)) f.some
    ∙ (heard_moves texts good a f.x f.x within
    ∙ (ap (option_and_then (moved_events middle)) f.goes ∙ heard_moves texts good b k.x us k.goes))
