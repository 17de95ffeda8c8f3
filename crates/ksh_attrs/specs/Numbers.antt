-- Numbers as texts.
use Rattle.std.specs.Prelude.{◌≡◌, ℕ, zero, suc, ◌+◌, ◌*◌, ◌-◌, ◌/◌, ◌%◌, ◌^◌, ◌==◌, ◌&&◌, Bool, true, false, nat_le, nat_lt, not, List, [], ◌∷◌, ◌++◌, map, Option, Some, None, if◌then◌else◌, ℤ, pos, neg_ℤ, decimal, unsigned_abs, reverse}
use Rattle.std.specs.Char.{is_ascii_digit}
use Rattle.std.specs.Fmt.{signed_decimal}
use Rattle.std.specs.Int.{is_negative}
use Rattle.std.specs.List.{list_all}
use Rattle.ksh_base.specs.Words.{written}

-- one or more decimal digits
abbrev pub is_digits : List ℕ → Bool
is_digits [] = false
is_digits (b ∷ bs) = list_all is_ascii_digit (b ∷ bs)

-- and their number is at most so large
abbrev pub is_within : ℕ → List ℕ → Bool
is_within most bytes = is_digits bytes && nat_le (written bytes) most

abbrev pub digits_within : ℕ → List ℕ → Option ℕ
digits_within most bytes = if is_within most bytes then Some (written bytes) else None

abbrev pub as_pos : Option ℕ → Option ℤ
as_pos None = None
as_pos (Some n) = Some (pos n)

abbrev pub as_neg : Option ℕ → Option ℤ
as_neg None = None
as_neg (Some n) = Some (neg_ℤ (pos n))

abbrev pub signed_number : Bool → List ℕ → List ℕ → Option ℤ
signed_number true text rest = as_neg (digits_within (2 ^ 63) rest)
signed_number false text rest = as_pos (digits_within (2 ^ 63 - 1) text)

-- the number that a text is: decimal digits, with or without one `-` before them, from -2^63 to 2^63-1
abbrev pub number_of : List ℕ → Option ℤ
number_of [] = None
number_of (b ∷ bs) = signed_number (b == 45) (b ∷ bs) bs

-- a digit: those from 10 on are lower-case letters
abbrev pub digit : ℕ → ℕ
digit d = if nat_lt d 10 then 48 + d else 87 + d

-- the values of a number's digits in a base, the last first; the bound is the number itself
abbrev pub low_digits : ℕ → ℕ → ℕ → List ℕ
low_digits zero base n = n ∷ []
low_digits (suc bound) base n = if nat_lt n base then n ∷ [] else n % base ∷ low_digits bound base (n / base)

-- the number that the values of digits make, the last first
abbrev pub worth : ℕ → List ℕ → ℕ
worth base [] = 0
worth base (d ∷ ds) = d + base * worth base ds

-- digits of the base, which make the number
pub record AreDigits (base n : ℕ) (ds : List ℕ) : Type 0 where
  pub small : list_all (λ d. nat_lt d base) ds ≡ true
  pub make : worth base ds ≡ n

abbrev pub numeral : ℕ → ℕ → List ℕ
numeral base n = reverse (map digit (low_digits n base n))

abbrev pub signed : ℤ → List ℕ → List ℕ
signed z text = if is_negative z then 45 ∷ text else text

-- another base than 10 stands before its digits
abbrev pub is_base : ℕ → Bool
is_base base = nat_le 2 base && (nat_le base 36 && not (base == 10))

abbrev pub based : ℕ → ℤ → List ℕ
based base z = signed z (decimal base ++ 35 ∷ numeral base (unsigned_abs z))

-- what a number prints: decimal where it has no base, or 10, or one that isn't from 2 to 36
abbrev pub number_text : Option ℕ → ℤ → List ℕ
number_text None z = signed_decimal z
number_text (Some base) z = if is_base base then based base z else signed_decimal z
