-- How far bytes of a kind reach, and which byte comes after another where joined lines are left out.
use Rattle.std.specs.Prelude.{◌≡◌, ℕ, ◌+◌, ◌<◌, ◌≤◌, Bool, true, false, ◌&&◌, ◌==◌, nat_le, List, [], ◌∷◌, length, drop, slice_index, if◌then◌else◌}

-- the places of that kind from one to another, and no longer
pub record IsRun (kind : List ℕ → ℕ → Bool) (text : List ℕ) (from to : ℕ) : Type 0 where
  pub ordered : from ≤ to
  pub within : to ≤ length text
  pub each : (k : ℕ) → from ≤ k → k < to → kind text k ≡ true
  pub ends : to < length text → kind text to ≡ false

-- the byte at a place is of that class
abbrev pub at_byte : (ℕ → Bool) → List ℕ → ℕ → Bool
at_byte class text k = class (slice_index text k)

-- a backslash and a newline, which join two lines
abbrev pub is_join : ℕ → ℕ → Bool
is_join b c = b == 92 && c == 10

-- how many bytes of that class stand in front, joined lines among them
abbrev pub span : (ℕ → Bool) → List ℕ → ℕ
span class [] = 0
span class (b ∷ []) = if class b then 1 else 0
span class (b ∷ c ∷ bs) = if is_join b c then 2 + span class bs else if class b then 1 + span class (c ∷ bs) else 0

abbrev pub no_byte : ℕ → Bool
no_byte b = false

-- the place that comes after another: joined lines are left out, but directly behind a backslash
abbrev pub next : List ℕ → ℕ → ℕ
next text place = if slice_index text place == 92 then place + 1 else place + 1 + span no_byte (drop (place + 1) text)

-- the place behind that many bytes, at most three
abbrev pub reach : List ℕ → ℕ → ℕ → ℕ
reach text from width =
    if width == 0 then from else
    if width == 1 then from + 1 else
    if width == 2 then next text from + 1 else next text (next text from) + 1

-- a backslash and a newline stand at the place
abbrev pub joins_at : List ℕ → ℕ → Bool
joins_at text place = nat_le (place + 2) (length text) && is_join (slice_index text place) (slice_index text (place + 1))
