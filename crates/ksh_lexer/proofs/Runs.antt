-- Runs, one place at a time; a run ends at one place.
use Rattle.std.proofs.Common.{◌≡◌, ℕ, ◌+◌, ◌<◌, ◌≤◌, Bool, true, false, List, subst, arith, inl, inr}
use Rattle.std.proofs.lemmas.Bool.{cases_lt}
use Rattle.ksh_lexer.specs.Reach.{IsRun}

-- one place more
pub more : (kind : List ℕ → ℕ → Bool) (text : List ℕ) (from to : ℕ) → ((k : ℕ) → from ≤ k → k < to → kind text k ≡ true) → kind text to ≡ true
    → (k : ℕ) → from ≤ k → k < to + 1 → kind text k ≡ true
more kind text from to each here k low high =
    elim (cases_lt k to) as (λ _. kind text k ≡ true) [
      | inl h ↦ each k low h
      | inr h ↦ subst (λ i. kind text i ≡ true) (let e : to ≡ k = omega (arith, h, high) in e) here
    ]

no_longer : (kind : List ℕ → ℕ → Bool) (text : List ℕ) (from x y : ℕ) → IsRun kind text from x → IsRun kind text from y → x < y → ⊥
no_longer kind text from x y a b h =
    let t : kind text x ≡ true = b.each x a.ordered h in
    let f : kind text x ≡ false = a.ends (omega (arith, b.within)) in
    cc

-- two runs from one place end at one place
pub one_run : (kind : List ℕ → ℕ → Bool) (text : List ℕ) (from x y : ℕ) → IsRun kind text from x → IsRun kind text from y → x ≡ y
one_run kind text from x y a b =
    elim (cases_lt x y) as (λ _. x ≡ y) [
      | inl h ↦ absurd (no_longer kind text from x y a b h)
      | inr h ↦ elim (cases_lt y x) as (λ _. x ≡ y) [ inl k ↦ absurd (no_longer kind text from y x b a k) | inr k ↦ omega arith ]
    ]
