-- Numbers and the digits that are written behind them.
use Rattle.std.proofs.Common.{◌≡◌, ℕ, ◌+◌, ◌-◌, ◌*◌, ◌^◌, ◌<◌, ◌≤◌, List, ◌∷◌, length, drop, get_or, true, zero, suc, refl, arith, ap, ◌∙◌, add-one, lit<}
use Rattle.std.proofs.Math.Nat.{pow-suc}
use Rattle.std.proofs.Math.Seq.{drop-cons}
use Rattle.std.specs.Char.{is_ascii_digit}
use Rattle.std.specs.List.{list_all}
use Rattle.ksh_base.specs.Words.{written}

-- the number that those digits behind a number make
abbrev pub behind : ℕ → List ℕ → ℕ
behind value ds = value * 10 ^ length ds + written ds

regroup : (v e p w : ℕ) → v * (p * 10) + (e * p + w) ≡ (v * 10 + e) * p + w
regroup v e p w = omega arith

-- one digit behind a number makes the next number
pub behind_more : (value d : ℕ) (ds : List ℕ) → behind value (d ∷ ds) ≡ behind (value * 10 + (d - 48)) ds
behind_more value d ds = rw (pow-suc 10 (length ds)) (regroup value (d - 48) (10 ^ length ds) (written ds))

-- the loop over the digits goes on by one
pub behind_next : (digits : List ℕ) (i value : ℕ) → i < length digits → written digits ≡ behind value (drop i digits)
    → written digits ≡ behind (value * 10 + (get_or digits i 0 - 48)) (drop (i + 1) digits)
behind_next digits i value within so_far =
    so_far ∙ ap (behind value) (drop-cons digits i 0 within) ∙ rw add-one (behind_more value (get_or digits i 0) (drop (suc i) digits))

enough : (v p w : ℕ) → 0 < p → v ≤ v * p + w
enough v p w h = grind arith

-- a power of ten isn't zero
ten_pos : (n : ℕ) → 0 < 10 ^ n
ten_pos zero = lit< tt
ten_pos (suc n) = let before = ten_pos n in rw (pow-suc 10 n) (omega arith)

-- digits behind a number make none that is less
pub le_behind : (value : ℕ) (ds : List ℕ) → value ≤ behind value ds
le_behind value ds = enough value (10 ^ length ds) (written ds) (ten_pos (length ds))

-- one digit more is a digit
pub digits_next : (digits : List ℕ) (i : ℕ) → i < length digits → is_ascii_digit (get_or digits i 0) ≡ true
    → list_all is_ascii_digit digits ≡ list_all is_ascii_digit (drop i digits)
    → list_all is_ascii_digit digits ≡ list_all is_ascii_digit (drop (i + 1) digits)
digits_next digits i within is so_far =
    so_far ∙ ap (list_all is_ascii_digit) (drop-cons digits i 0 within) ∙ rw (is, add-one) refl
