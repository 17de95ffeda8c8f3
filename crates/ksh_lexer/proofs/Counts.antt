-- Counts of newlines.
use Rattle.std.proofs.Common.{◌≡◌, ℕ, zero, suc, ◌+◌, ◌-◌, ◌≤◌, true, false, ◌==◌, List, [], ◌∷◌, length, take, drop, refl, ap, sym, ◌∙◌, arith, if◌then◌else◌}
use Rattle.std.proofs.lemmas.List.{length-take}
use Rattle.ksh_lexer.specs.Place.{newlines}

none : (k : ℕ) → newlines (take k []) ≡ 0
none zero = refl
none (suc k) = refl

split : (xs : List ℕ) (a n : ℕ) → newlines (take (a + n) xs) ≡ newlines (take a xs) + newlines (take n (drop a xs))
split [] zero n =
    let e : 0 + n ≡ n = omega arith in
    let h : newlines (take (0 + n) []) ≡ newlines (take n []) = ap (λ k. newlines (take k [])) e in
    omega (arith, h)
split [] (suc a) n = let l = none (suc a + n) in let r = none n in omega (arith, l, r)
split (x ∷ xs) zero n =
    let e : 0 + n ≡ n = omega arith in
    let h : newlines (take (0 + n) (x ∷ xs)) ≡ newlines (take n (x ∷ xs)) = ap (λ k. newlines (take k (x ∷ xs))) e in
    omega (arith, h)
split (x ∷ xs) (suc a) n =
    let e : suc a + n ≡ suc (a + n) = omega arith in
    let i = split xs a n in
    let h : newlines (take (suc a + n) (x ∷ xs)) ≡ (if x == 10 then 1 else 0) + newlines (take (a + n) xs) = ap (λ k. newlines (take k (x ∷ xs))) e in
    omega (arith, h, i)

pub few : (xs : List ℕ) → newlines xs ≤ length xs
few [] = omega arith
few (x ∷ xs) =
    let i = few xs in
    elim (x == 10) as (λ t. (if t then 1 else 0) + newlines xs ≤ length (x ∷ xs)) [ true ↦ omega (arith, i) | false ↦ omega (arith, i) ]

-- the newlines before a place are those before an earlier one and those between
pub counted_on : (text between : List ℕ) (from byte : ℕ) → from ≤ byte → between ≡ take (byte - from) (drop from text)
    → newlines (take byte text) ≡ newlines (take from text) + newlines between
counted_on text between from byte order is =
    let e : from + (byte - from) ≡ byte = omega (arith, order) in
    ap (λ k. newlines (take k text)) (sym e) ∙ split text from (byte - from) ∙ ap (λ xs. newlines (take from text) + newlines xs) (sym is)

-- no more newlines stand before a byte than bytes
pub few_before : (text : List ℕ) (byte : ℕ) → newlines (take byte text) ≤ byte
few_before text byte =
    let h = few (take byte text) in
    let e = length-take byte text in
    grind (arith, h, e)
