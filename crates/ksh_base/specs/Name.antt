-- What a name is.
use Rattle.std.specs.Prelude.{◌≡◌, ℕ, ◌<◌, Bool, true, false, ◌||◌, ◌&&◌, nat_le, ◌==◌, List, [], ◌∷◌, length, slice_index, if◌then◌else◌, ◌⊎◌}

-- a letter or an underscore
abbrev pub starts_name : ℕ → Bool
starts_name b = (nat_le 65 b && nat_le b 90) || ((nat_le 97 b && nat_le b 122) || b == 95)

-- those, or a digit
abbrev pub goes_on_in_name : ℕ → Bool
goes_on_in_name b = starts_name b || (nat_le 48 b && nat_le b 57)

-- whether the byte at that place may stand there
abbrev pub may_stand : List ℕ → ℕ → Bool
may_stand bytes i = if i == 0 then starts_name (slice_index bytes i) else goes_on_in_name (slice_index bytes i)

-- the first n bytes may stand where they do
abbrev pub Fits : List ℕ → ℕ → Type 0
Fits bytes n = (k : ℕ) → k < n → may_stand bytes k ≡ true

-- the first byte that may not
pub record IsFirstBad (bytes : List ℕ) (i : ℕ) : Type 0 where
  pub within : i < length bytes
  pub bad : may_stand bytes i ≡ false
  pub before : Fits bytes i

-- `.sh`
abbrev pub dot_sh : List ℕ
dot_sh = 46 ∷ 115 ∷ 104 ∷ []

abbrev pub IsName : List ℕ → Type 0
IsName bytes = (bytes ≡ dot_sh) ⊎ ((0 < length bytes) × Fits bytes (length bytes))
