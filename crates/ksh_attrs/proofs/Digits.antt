-- The digits of a number, of which the last is taken away.
use Rattle.std.proofs.Common.{◌≡◌, ℕ, zero, suc, ◌+◌, ◌*◌, ◌&&◌, ◌/◌, ◌%◌, ◌<◌, ◌≤◌, Bool, true, false, nat_lt, List, [], ◌∷◌, ◌++◌, map, refl, ap, sym, ◌∙◌, arith, if◌then◌else◌}
use Rattle.std.proofs.lemmas.Bool.Decides.{nat_tests}
use Rattle.std.proofs.lemmas.List.{append_assoc}
use Rattle.std.proofs.Math.Nat.{div-lt_self, mod-add-div, mod-lt}
use Rattle.std.specs.List.{list_all}
use Rattle.ksh_attrs.specs.Numbers.{digit, low_digits, worth, AreDigits}

small : (n base : ℕ) → n < base → nat_lt n base ≡ true
small n base l = grind (arith, nat_tests)

large : (n base : ℕ) → base ≤ n → nat_lt n base ≡ false
large n base l = grind (arith, nat_tests)

at_least : (n base : ℕ) → nat_lt n base ≡ false → base ≤ n
at_least n base e = grind (arith, nat_tests)

below : (n base : ℕ) → nat_lt n base ≡ true → n < base
below n base e = grind (arith, nat_tests)

low_small : (f base n : ℕ) → n < base → low_digits f base n ≡ n ∷ []
low_small zero base n l = refl
low_small (suc f) base n l = ap (λ c. if c then n ∷ [] else n % base ∷ low_digits f base (n / base)) (small n base l)

low_large : (f base n : ℕ) → base ≤ n → low_digits (suc f) base n ≡ n % base ∷ low_digits f base (n / base)
low_large f base n l = ap (λ c. if c then n ∷ [] else n % base ∷ low_digits f base (n / base)) (large n base l)

-- any bound that is large enough gives the same
low_enough : (f g base n : ℕ) → 2 ≤ base → n ≤ f → n ≤ g → low_digits f base n ≡ low_digits g base n
low_enough zero g base n b l m = low_small zero base n (omega (arith, b, l)) ∙ sym (low_small g base n (omega (arith, b, l)))
low_enough (suc f) zero base n b l m = low_small (suc f) base n (omega (arith, b, m)) ∙ sym (low_small zero base n (omega (arith, b, m)))
low_enough (suc f) (suc g) base n b l m = by_test (nat_lt n base) refl (λ k h i. low_enough f g base k b h i)
  where
    by_test : (t : Bool) → nat_lt n base ≡ t → ((k : ℕ) → k ≤ f → k ≤ g → low_digits f base k ≡ low_digits g base k) → low_digits (suc f) base n ≡ low_digits (suc g) base n
    by_test true e same = low_small (suc f) base n (below n base e) ∙ sym (low_small (suc g) base n (below n base e))
    by_test false e same =
        let least : base ≤ n = at_least n base e in
        let less : n / base < n = div-lt_self (omega (arith, least, b)) b in
        low_large f base n least
        ∙ ap (λ ds. n % base ∷ ds) (same (n / base) (omega (arith, less, l)) (omega (arith, less, m)))
        ∙ sym (low_large g base n least)

low_next : (base n : ℕ) → 2 ≤ base → base ≤ n → low_digits n base n ≡ n % base ∷ low_digits (n / base) base (n / base)
low_next base zero b l = absurd (omega (arith, b, l))
low_next base (suc m) b l =
    let less : suc m / base < suc m = div-lt_self (omega arith) b in
    low_large m base (suc m) l
    ∙ ap (λ ds. suc m % base ∷ ds) (low_enough m (suc m / base) base (suc m / base) b (omega (arith, less)) (omega arith))

-- one digit is written, and the others are left
pub digits_next : (whole done more : List ℕ) (base n d : ℕ) → 2 ≤ base → base ≤ n
    → whole ≡ done ++ map digit (low_digits n base n) → d ≡ digit (n % base) → more ≡ done ++ d ∷ []
    → whole ≡ more ++ map digit (low_digits (n / base) base (n / base))
digits_next whole done more base n d b l w e m =
    w
    ∙ ap (λ ds. done ++ map digit ds) (low_next base n b l)
    ∙ ap (λ c. done ++ c ∷ map digit (low_digits (n / base) base (n / base))) (sym e)
    ∙ sym (append_assoc done (d ∷ []) (map digit (low_digits (n / base) base (n / base))))
    ∙ ap (λ xs. xs ++ map digit (low_digits (n / base) base (n / base))) (sym m)

-- the last one is
pub digits_last : (whole done more : List ℕ) (base n d : ℕ) → n < base
    → whole ≡ done ++ map digit (low_digits n base n) → d ≡ digit n → more ≡ done ++ d ∷ []
    → more ≡ whole
digits_last whole done more base n d l w e m =
    m ∙ ap (λ c. done ++ c ∷ []) e ∙ sym (w ∙ ap (λ ds. done ++ map digit ds) (low_small n base n l))

worth_one : (base n : ℕ) → n + base * 0 ≡ n
worth_one base n = omega arith

small_one : (base n : ℕ) → n < base → list_all (λ d. nat_lt d base) (n ∷ []) ≡ true
small_one base n l = ap (λ b. b && true) (small n base l)

both : (a b : Bool) → a ≡ true → b ≡ true → (a && b) ≡ true
both a b h k = grind arith

one_digit : (base n : ℕ) (ds : List ℕ) → n < base → ds ≡ n ∷ [] → AreDigits base n ds
one_digit base n ds l e = record {
  small = ap (λ xs. list_all (λ d. nat_lt d base) xs) e ∙ small_one base n l;
  make = ap (worth base) e ∙ worth_one base n;
}

more_digits : (base n : ℕ) (ds rest : List ℕ) → 2 ≤ base → ds ≡ n % base ∷ rest → AreDigits base (n / base) rest → AreDigits base n ds
more_digits base n ds rest b e law = record {
  small = ap (λ xs. list_all (λ d. nat_lt d base) xs) e ∙ both (nat_lt (n % base) base) (list_all (λ d. nat_lt d base) rest) (small (n % base) base (mod-lt n (omega (arith, b)))) law.small;
  make = ap (worth base) e ∙ ap (λ m. n % base + base * m) law.make ∙ mod-add-div n base;
}

-- the digits of a number make it
low_law : (f base n : ℕ) → 2 ≤ base → n ≤ f → AreDigits base n (low_digits f base n)
low_law zero base n b l = one_digit base n _ (omega (arith, b, l)) refl
low_law (suc f) base n b l = by_test (nat_lt n base) refl (λ k h. low_law f base k b h)
  where
    by_test : (t : Bool) → nat_lt n base ≡ t → ((k : ℕ) → k ≤ f → AreDigits base k (low_digits f base k)) → AreDigits base n (low_digits (suc f) base n)
    by_test true e law = one_digit base n _ (below n base e) (low_small (suc f) base n (below n base e))
    by_test false e law =
        let least : base ≤ n = at_least n base e in
        let less : n / base < n = div-lt_self (omega (arith, least, b)) b in
        more_digits base n _ _ b (low_large f base n least) (law (n / base) (omega (arith, less, l)))

pub digits_law : (base n : ℕ) → 2 ≤ base → AreDigits base n (low_digits n base n)
digits_law base n b = low_law n base n b (omega arith)
