-- Lines of a text.
use Rattle.std.proofs.Common.{◌≡◌, ℕ, zero, suc, ◌+◌, ◌-◌, ◌<◌, ◌≤◌, Bool, true, false, not, ◌||◌, ◌==◌, List, [], ◌∷◌, length, take, drop, slice_index, refl, ap, ◌∙◌, subst, arith, inl, inr}
use Rattle.std.proofs.lemmas.Bool.{cases_lt}
use Rattle.std.proofs.lemmas.Bool.Decides.{nat_tests}
use Rattle.memchr.specs.Find.{Nowhere, Passes, is_byte}
use Rattle.bstr.specs.Bytes.{is_in, not_in}
use Rattle.ksh_lexer.specs.Bodies.{line, is_end_line, starts_line, IsOther}
use Rattle.ksh_lexer.specs.Reach.{IsRun, at_byte}

not_here : (b : ℕ) → ¬ (is_byte 10 b ≡ true) → (b == 10) ≡ false
not_here b h = go (b == 10) refl
  where
    go : (t : Bool) → (b == 10) ≡ t → (b == 10) ≡ false
    go true e = absurd (h e)
    go false e = e

tail : (b : ℕ) (bs : List ℕ) (n : ℕ) → Nowhere (Passes (is_byte 10) (b ∷ bs)) 0 (suc n) → Nowhere (Passes (is_byte 10) bs) 0 n
tail b bs n none k low high = none (suc k) (omega arith) (omega (arith, high))

-- the line before the first newline
pub line_taken : (bs : List ℕ) (n : ℕ) → n < length bs → Nowhere (Passes (is_byte 10) bs) 0 n → is_byte 10 (slice_index bs n) ≡ true → take n bs ≡ line bs
line_taken [] n h none here = absurd (let f : ⊥ = omega (arith, h) in f)
line_taken (b ∷ bs) zero h none here = rw here refl
line_taken (b ∷ bs) (suc n) h none here =
    rw (not_here b (none 0 (omega arith) (omega arith))) (ap (λ xs. b ∷ xs) (line_taken bs n (omega (arith, h)) (tail b bs n none) here))

pub line_whole : (bs : List ℕ) → Nowhere (Passes (is_byte 10) bs) 0 (length bs) → bs ≡ line bs
line_whole [] none = refl
line_whole (b ∷ bs) none =
    rw (not_here b (none 0 (omega arith) (omega arith))) (ap (λ xs. b ∷ xs) (line_whole bs (tail b bs (length bs) none)))

in_newline : (b : ℕ) → (b == 10) ≡ true → is_in (10 ∷ []) b ≡ true
unfolding is_in
in_newline b e = rw e refl

not_newline : (b : ℕ) → not_in (10 ∷ []) b ≡ true → (b == 10) ≡ false
not_newline b e = go (b == 10) refl
  where
    go : (t : Bool) → (b == 10) ≡ t → (b == 10) ≡ false
    go true f =
        let out : not_in (10 ∷ []) b ≡ false = ap not (in_newline b f) in
        absurd (let g : ⊥ = cc in g)
    go false f = f

-- no newline stands before a place: no line begins there but at the first place
no_start : (text : List ℕ) (at newline k : ℕ) → IsRun (at_byte (not_in (10 ∷ []))) text at newline → at < k → k ≤ newline → (slice_index text (k - 1) == 10) ≡ false
no_start text at newline k run low high =
    let out : at_byte (not_in (10 ∷ [])) text (k - 1) ≡ true = run.each (k - 1) (omega (arith, low)) (omega (arith, low, high)) in
    not_newline (slice_index text (k - 1)) out

-- the lines up to a newline, where the first of them isn't the word
pub others : (text word : List ℕ) (tabs : Bool) (from at newline : ℕ) → from ≤ at → IsRun (at_byte (not_in (10 ∷ []))) text at newline
    → is_end_line word tabs (drop at text) ≡ false → ((k : ℕ) → from ≤ k → k < at → IsOther text word tabs from k)
    → (k : ℕ) → from ≤ k → k < newline + 1 → IsOther text word tabs from k
others text word tabs from at newline order run other first k low high starts =
    elim (cases_lt k at) as (λ _. is_end_line word tabs (drop k text) ≡ false) [
      | inl h ↦ first k low h starts
      | inr h ↦ elim (cases_lt at k) as (λ _. is_end_line word tabs (drop k text) ≡ false) [
        | inl g ↦ absurd (let f = no_start text at newline k run g (omega (arith, high)) in let n : (k == from) ≡ false = grind (arith, nat_tests, order, g) in let s : starts_line text from k ≡ false = rw (n, f) refl in let e : ⊥ = cc in e)
        | inr g ↦ subst (λ i. is_end_line word tabs (drop i text) ≡ false) (let e : at ≡ k = omega (arith, h, g) in e) other
      ]
    ]

is_newline : (b : ℕ) → not_in (10 ∷ []) b ≡ false → (b == 10) ≡ true
unfolding is_in
is_newline b e = go (b == 10) refl e
  where
    go : (t : Bool) → (b == 10) ≡ t → not (t || false) ≡ false → (b == 10) ≡ true
    go true f e = f
    go false f e = cc

-- a line begins behind a newline
pub starts_behind : (text : List ℕ) (from at newline : ℕ) → IsRun (at_byte (not_in (10 ∷ []))) text at newline → newline < length text → starts_line text from (newline + 1) ≡ true
starts_behind text from at newline run h =
    let here : (slice_index text newline == 10) ≡ true = is_newline (slice_index text newline) (run.ends h) in
    let e : newline + 1 - 1 ≡ newline = omega arith in
    let there : (slice_index text (newline + 1 - 1) == 10) ≡ true = ap (λ k. slice_index text k == 10) e ∙ here in
    either (newline + 1 == from) (slice_index text (newline + 1 - 1) == 10) there
  where
    either : (a b : Bool) → b ≡ true → (a || b) ≡ true
    either true b e = refl
    either false b e = e
