-- A run that ends at the first byte of a set.
use Rattle.std.proofs.Common.{◌≡◌, ℕ, ◌+◌, ◌-◌, ◌<◌, ◌≤◌, Bool, true, false, not, List, length, take, drop, slice_index, refl, ap, sym, ◌∙◌, arith}
use Rattle.std.proofs.lemmas.List.{get_or-drop, length-drop, take_all}
use Rattle.memchr.specs.Find.{Nowhere, Passes}
use Rattle.bstr.specs.Bytes.{is_in, not_in}
use Rattle.ksh_lexer.specs.Reach.{IsRun, at_byte}

not_true : (b : Bool) → ¬ (b ≡ true) → not b ≡ true
not_true true h = absurd (h refl)
not_true false h = refl

-- none of the set stands before a place of what is left
outside : (set text rest : List ℕ) (from j : ℕ) → rest ≡ drop from text → Nowhere (Passes (is_in set) rest) 0 j
    → (k : ℕ) → from ≤ k → k < from + j → at_byte (not_in set) text k ≡ true
outside set text rest from j is none k low high =
    let here : slice_index rest (k - from) ≡ slice_index text k =
    ap (λ (xs : List ℕ). slice_index xs (k - from)) is ∙ get_or-drop from text (k - from) 0 ∙ ap (λ i. slice_index text i) (let e : from + (k - from) ≡ k = omega (arith, low) in e) in
    let out : ¬ (is_in set (slice_index rest (k - from)) ≡ true) = none (k - from) (omega arith) (omega (arith, low, high)) in
    ap (λ b. not (is_in set b)) (sym here) ∙ not_true _ out

-- the set's first byte
pub found : (set text rest : List ℕ) (from at : ℕ) → rest ≡ drop from text → from ≤ length text → at < length rest
    → Nowhere (Passes (is_in set) rest) 0 at → is_in set (slice_index rest at) ≡ true → IsRun (at_byte (not_in set)) text from (from + at)
found set text rest from at is within low none here =
    let len : length rest ≡ length text - from = ap (λ (xs : List ℕ). length xs) is ∙ length-drop from text in
    let there : slice_index rest at ≡ slice_index text (from + at) = ap (λ (xs : List ℕ). slice_index xs at) is ∙ get_or-drop from text at 0 in
    record {
      ordered = omega arith;
      within = omega (arith, within, low, len);
      each = outside set text rest from at is none;
      ends = λ _. ap (λ b. not (is_in set b)) (sym there) ∙ ap not here;
    }

-- no byte of the set is left
pub nowhere : (set text rest : List ℕ) (from : ℕ) → rest ≡ drop from text → from ≤ length text → Nowhere (Passes (is_in set) rest) 0 (length rest)
    → IsRun (at_byte (not_in set)) text from (length text)
nowhere set text rest from is within none =
    let len : length rest ≡ length text - from = ap (λ (xs : List ℕ). length xs) is ∙ length-drop from text in
    record {
      ordered = within;
      within = omega arith;
      each = λ k low high. outside set text rest from (length rest) is none k low (omega (arith, within, low, high, len));
      ends = λ h. absurd (let e : ⊥ = omega (arith, h) in e);
    }

pub tail_slice : (text : List ℕ) (from : ℕ) → take (length text - from) (drop from text) ≡ drop from text
tail_slice text from = take_all (length text - from) (drop from text) (let e = length-drop from text in omega (arith, e))
