-- What is open in a text: of each opening whether it is the word of a here-document.
use Rattle.std.specs.Prelude.{◌≡◌, ℕ, ◌-◌, Bool, true, false, length, slice_get, List, [], ◌∷◌, ◌++◌, Option, Some, None, is_some, option_and_then, if◌then◌else◌}
use Rattle.std.proofs.Common.{refl, sym, ◌∙◌, ap, arith}
use Rattle.std.proofs.lemmas.List.{length-append}
use Rattle.ksh_syntax.specs.declared.kind.Kind.{Kind}
use Rattle.ksh_syntax.specs.declared.part.Mark.{Mark}
use Rattle.ksh_syntax.specs.declared.part.Mark.TheVariants as mark
use Rattle.ksh_scan.specs.declared.opening.Opened.{Opened}
use Rattle.ksh_scan.specs.declared.opening.Opening.{Opening}
use Rattle.ksh_scan.specs.After.{operator_within}
use Rattle.ksh_scan.specs.Openings.{innermost, is_separator, later_part, parted_by, told, told_all, without_last}
use Rattle.tree_moves.specs.HereWords as here
use Rattle.tree_moves.specs.HereWords.{Waits, Still, Opening as IsOpening, Closing, opened, waits_behind}

abbrev pub is_word : Opened → Bool
is_word o = is_some (operator_within o)

-- the innermost first
abbrev pub words : List Opening → List Bool
words [] = []
words (o ∷ os) = words os ++ is_word o.opened ∷ []

abbrev pub inner_word : Option Opening → Bool
inner_word None = false
inner_word (Some o) = is_word o.opened

-- ---- the last of what is open

record Last (os : List Opening) : Type 0 where
  front : List Opening
  last : Opening
  same : os ≡ front ++ last ∷ []

last_of : (o : Opening) (os : List Opening) → Last (o ∷ os)
last_of o [] = record { front = []; last = o; same = refl }
last_of o (p ∷ os) = let k = last_of p os in record { front = o ∷ k.front; last = k.last; same = ap (λ xs. o ∷ xs) k.same }

last_gone : (o : Opening) (openings : List Opening) → without_last (openings ++ o ∷ []) ≡ openings
last_gone o [] = refl
last_gone o (p ∷ []) = refl
last_gone o (p ∷ q ∷ openings) = ap (λ os. p ∷ os) (last_gone o (q ∷ openings))

at_end : (o : Opening) (openings : List Opening) → slice_get (openings ++ o ∷ []) (length openings) ≡ Some o
at_end o [] = refl
at_end o (p ∷ openings) = at_end o openings

last_one : (o : Opening) (openings : List Opening) → innermost (openings ++ o ∷ []) ≡ Some o
last_one o openings =
    let before : length (openings ++ o ∷ []) - 1 ≡ length openings = omega (arith, length-append openings (o ∷ [])) in
    ap (slice_get (openings ++ o ∷ [])) before ∙ at_end o openings

pub words_pushed : (os : List Opening) (o : Opening) → words (os ++ o ∷ []) ≡ is_word o.opened ∷ words os
words_pushed [] o = refl
words_pushed (p ∷ os) o = ap (λ ws. ws ++ is_word p.opened ∷ []) (words_pushed os o)

pub words_inner : (os : List Opening) → inner_word (innermost os) ≡ here.innermost (words os)
words_inner [] = refl
words_inner (o ∷ os) =
    let k = last_of o os in
    ap (λ xs. inner_word (innermost xs)) k.same ∙ (ap inner_word (last_one k.last k.front)
    ∙ sym (ap here.innermost (ap words k.same ∙ words_pushed k.front k.last)))

words_closed : (os : List Opening) (w : Bool) (ws : List Bool) → words os ≡ w ∷ ws → words (without_last os) ≡ ws
words_closed [] w ws h = cc
words_closed (o ∷ os) w ws h =
    let k = last_of o os in
    let e : is_word k.last.opened ∷ words k.front ≡ w ∷ ws = sym (words_pushed k.front k.last) ∙ (sym (ap words k.same) ∙ h) in
    let same : words k.front ≡ ws = cc in
    ap (λ xs. words (without_last xs)) k.same ∙ (ap words (last_gone k.last k.front) ∙ same)

words_later : (at : ℕ) (os : List Opening) → words (later_part at (innermost os) os) ≡ words os
words_later at [] = refl
words_later at (o ∷ os) =
    let k = last_of o os in
    ap (λ xs. words (later_part at (innermost xs) xs)) k.same
    ∙ (ap (λ x. words (later_part at x (k.front ++ k.last ∷ []))) (last_one k.last k.front)
    ∙ (ap (λ xs. words (xs ++ record k.last { part = at; is_later = true } ∷ [])) (last_gone k.last k.front)
    ∙ (words_pushed k.front (record k.last { part = at; is_later = true })
    ∙ sym (ap words k.same ∙ words_pushed k.front k.last))))

pub words_parted : (k : Kind) (at : ℕ) (os : List Opening) → words (parted_by k at os) ≡ words os
words_parted k at os = go (is_separator k)
  where
    go : (b : Bool) → words (if b then later_part at (innermost os) os else os) ≡ words os
    go true = words_later at os
    go false = refl

-- ---- marks

abbrev pub waits_all : List Mark → Waits → Option Waits
waits_all [] w = Some w
waits_all (m ∷ marks) w = option_and_then (waits_all marks) (waits_behind m w)

-- what waits was told of these openings
abbrev pub Told : Bool → List Bool → Waits → List Opening → Type 0
Told word os w openings = (ls : List Bool) → opened w word os ≡ Some ls → words openings ≡ ls

opens_told : (o : Opening) (os : List Bool) (openings : List Opening) → Told (is_word o.opened) os Still openings → Told (is_word o.opened) os IsOpening (openings ++ o ∷ [])
opens_told o os openings h ls e =
    let same : is_word o.opened ∷ os ≡ ls = cc in
    words_pushed openings o ∙ (ap (λ ws. is_word o.opened ∷ ws) (h os refl) ∙ same)

closes_told : (word : Bool) (os : List Bool) (openings : List Opening) → Told word os Still openings → Told word os Closing (without_last openings)
closes_told word [] openings h ls e = cc
closes_told word (w ∷ ws) openings h ls e =
    let same : ws ≡ ls = cc in
    words_closed openings w ws (h (w ∷ ws) refl) ∙ same

told_so : (word : Bool) (os : List Bool) (w w' : Waits) (openings : List Opening) → Some w ≡ Some w' → Told word os w openings → Told word os w' openings
told_so word os w w' openings e h =
    let same : w ≡ w' = cc in
    λ ls f. h ls (ap (λ v. opened v word os) same ∙ f)

told_one : (m : Mark) (w w' : Waits) (o : Opening) (os : List Bool) (openings : List Opening) → waits_behind m w ≡ Some w' → Told (is_word o.opened) os w openings
    → Told (is_word o.opened) os w' (told m o openings)
told_one mark.Opens Still w' o os openings e h = told_so (is_word o.opened) os IsOpening w' (openings ++ o ∷ []) e (opens_told o os openings h)
told_one mark.Opens IsOpening w' o os openings e h = cc
told_one mark.Opens Closing w' o os openings e h = cc
told_one mark.Closes Still w' o os openings e h = told_so (is_word o.opened) os Closing w' (without_last openings) e (closes_told (is_word o.opened) os openings h)
told_one mark.Closes IsOpening w' o os openings e h = cc
told_one mark.Closes Closing w' o os openings e h = cc
told_one _ w w' o os openings e h = told_so (is_word o.opened) os w w' openings e h

record Waited (marks : List Mark) (o : Option Waits) (w' : Waits) : Type 0 where
  w : Waits
  some : o ≡ Some w
  goes : waits_all marks w ≡ Some w'

waited : (marks : List Mark) (o : Option Waits) (w' : Waits) → option_and_then (waits_all marks) o ≡ Some w' → Waited marks o w'
waited marks None w' h = cc
waited marks (Some w) w' h = record { w = w; some = refl; goes = h }

pub all_told : (marks : List Mark) (w w' : Waits) (o : Opening) (os : List Bool) (openings : List Opening) → waits_all marks w ≡ Some w' → Told (is_word o.opened) os w openings
    → Told (is_word o.opened) os w' (told_all marks o openings)
all_told [] w w' o os openings e h = told_so (is_word o.opened) os w w' openings e h
all_told (m ∷ marks) w w' o os openings e h =
    let k = waited marks (waits_behind m w) w' e in
    all_told marks k.w w' o os (told m o openings) k.goes (told_one m w k.w o os openings k.some h)
