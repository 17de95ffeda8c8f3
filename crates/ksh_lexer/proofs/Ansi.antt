-- Steps of reading what `$'..'` stands for.
use Rattle.std.proofs.Common.{◌≡◌, ℕ, zero, suc, ◌+◌, ◌≤◌, Bool, true, false, ◌==◌, List, [], ◌∷◌, ◌++◌, length, take, drop, refl, ap, sym, ◌∙◌, arith, append_assoc}
use Rattle.memchr.specs.Find.{Nowhere, Passes, is_byte}
use Rattle.ksh_lexer.specs.Unquoted.{ansi_bytes, ansi_from, escape}

skipped : (k : ℕ) (bs : List ℕ) → ansi_from k bs ≡ ansi_from zero (drop k bs)
skipped zero bs = refl
skipped (suc k) [] = refl
skipped (suc k) (b ∷ bs) = skipped k bs

-- a backslash, and what belongs to it
pub escape_step : (text rest behind new left inside : List ℕ) (first byte more : ℕ) → rest ≡ first ∷ behind → (first == 92) ≡ true → byte ≡ (escape behind).0 → more ≡ (escape behind).1
    → new ≡ text ++ byte ∷ [] → left ≡ drop more behind → text ++ ansi_bytes rest ≡ inside → new ++ ansi_bytes left ≡ inside
escape_step text rest behind new left inside first byte more is quotes byte_is more_is new_is left_is whole =
    let step : ansi_bytes (first ∷ behind) ≡ (escape behind).0 ∷ ansi_from (escape behind).1 behind = rw quotes refl in
    let after : ansi_from (escape behind).1 behind ≡ ansi_bytes left =
    ap (λ k. ansi_from k behind) (sym more_is) ∙ skipped more behind ∙ ap ansi_bytes (sym left_is) in
    let all : ansi_bytes rest ≡ byte ∷ ansi_bytes left =
    ap ansi_bytes is ∙ step ∙ ap (λ b. b ∷ ansi_from (escape behind).1 behind) (sym byte_is) ∙ ap (λ xs. byte ∷ xs) after in
    ap (λ xs. xs ++ ansi_bytes left) new_is ∙ append_assoc text (byte ∷ []) (ansi_bytes left) ∙ ap (λ xs. text ++ xs) (sym all) ∙ whole

-- bytes without a backslash
pub plain_step : (text rest behind new left inside : List ℕ) (first n : ℕ) → rest ≡ first ∷ behind → (first == 92) ≡ false
    → ansi_bytes behind ≡ take n behind ++ ansi_bytes (drop n behind) → new ≡ text ++ take (n + 1) rest → left ≡ drop n behind
    → text ++ ansi_bytes rest ≡ inside → new ++ ansi_bytes left ≡ inside
plain_step text rest behind new left inside first n is quotes front new_is left_is whole =
    let e : n + 1 ≡ suc n = omega arith in
    let taken : take (n + 1) rest ≡ first ∷ take n behind = ap (λ k. take k rest) e ∙ ap (λ xs. take (suc n) xs) is in
    let step : ansi_bytes (first ∷ behind) ≡ first ∷ ansi_bytes behind = rw quotes refl in
    let all : ansi_bytes rest ≡ take (n + 1) rest ++ ansi_bytes left =
    ap ansi_bytes is ∙ step ∙ ap (λ xs. first ∷ xs) front ∙ ap (λ xs. (first ∷ take n behind) ++ ansi_bytes xs) (sym left_is)
    ∙ ap (λ xs. xs ++ ansi_bytes left) (sym taken) in
    ap (λ xs. xs ++ ansi_bytes left) new_is ∙ append_assoc text (take (n + 1) rest) (ansi_bytes left) ∙ ap (λ xs. text ++ xs) (sym all) ∙ whole

not_here : (b : ℕ) → ¬ (is_byte 92 b ≡ true) → (b == 92) ≡ false
not_here b h = go (b == 92) refl
  where
    go : (t : Bool) → (b == 92) ≡ t → (b == 92) ≡ false
    go true e = absurd (h e)
    go false e = e

pub front_plain : (bs : List ℕ) (n : ℕ) → n ≤ length bs → Nowhere (Passes (is_byte 92) bs) 0 n → ansi_bytes bs ≡ take n bs ++ ansi_bytes (drop n bs)
front_plain bs zero h none = refl
front_plain [] (suc n) h none = refl
front_plain (b ∷ bs) (suc n) h none =
    let e : (b == 92) ≡ false = not_here b (none 0 (omega arith) (omega arith)) in
    let step : ansi_bytes (b ∷ bs) ≡ b ∷ ansi_bytes bs = rw e refl in
    step ∙ ap (λ xs. b ∷ xs) (front_plain bs n (omega (arith, h)) (λ k low high. none (suc k) (omega arith) (omega (arith, high))))
