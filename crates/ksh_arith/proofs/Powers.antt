-- A power by parts of its exponent.
use Rattle.std.proofs.Common.{◌≡◌, ℕ, zero, suc, ◌+◌, ◌*◌, ◌/◌, ◌%◌, ◌^◌, refl, sym, ap, ◌∙◌, arith}
use native.Mathlib.Numerals.{unary_clauses}
use Rattle.std.proofs.Math.Nat.{pow-suc}
use Rattle.std.proofs.lemmas.Nat.{pow-add, pow-mod, mul-mod, div-add-mod'}

one_more : (m n : ℕ) → m * n + m ≡ m * suc n
one_more m n = omega arith

-- a power of a power
pow_twice : (a m n : ℕ) → (a ^ m) ^ n ≡ a ^ (m * n)
pow_twice a m zero = let none : m * zero ≡ zero = omega arith in rw none (simp unary_clauses refl)
pow_twice a m (suc n) = pow-suc (a ^ m) n ∙ ap (λ x. x * a ^ m) (pow_twice a m n) ∙ sym (pow-add a (m * n) m) ∙ ap (λ x. a ^ x) (one_more m n)

by_parts : (k e : ℕ) → k * (e / k) + e % k ≡ e
by_parts k e = let whole : e / k * k + e % k ≡ e = div-add-mod' e k in omega (arith, whole)

-- the power by the quotient of the exponent and by its rest
pub power_split : (x e k m : ℕ) → (x ^ k % m) ^ (e / k) % m * (x ^ (e % k) % m) % m ≡ x ^ e % m
power_split x e k m =
    ap (λ a. a * (x ^ (e % k) % m) % m) (pow-mod (x ^ k) (e / k) m)
    ∙ sym (mul-mod ((x ^ k) ^ (e / k)) (x ^ (e % k)) m)
    ∙ ap (λ a. a % m) (ap (λ a. a * x ^ (e % k)) (pow_twice x k (e / k)) ∙ sym (pow-add x (k * (e / k)) (e % k)) ∙ ap (λ a. x ^ a) (by_parts k e))
