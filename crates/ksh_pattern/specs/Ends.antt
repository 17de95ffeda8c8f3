-- Where the matches of a pattern begin and end in a text.
use Rattle.std.specs.Prelude.{◌≡◌, ℕ, ◌-◌, ◌<◌, ◌≤◌, Bool, true, false, List, length, take, drop, Option, Some, None}
use Rattle.ksh_pattern.specs.declared.part.Part.{Part}
use Rattle.ksh_pattern.specs.Match.{matches}

-- the greatest number up to a bound that passes a test, if there is one
abbrev pub IsGreatest : (ℕ → Bool) → ℕ → Option ℕ → Type 0
IsGreatest passes bound None = (m : ℕ) → m ≤ bound → passes m ≡ false
IsGreatest passes bound (Some n) = (n ≤ bound) × (passes n ≡ true) × ((m : ℕ) → n < m → m ≤ bound → passes m ≡ false)

-- the least
abbrev pub IsLeast : (ℕ → Bool) → ℕ → Option ℕ → Type 0
IsLeast passes bound None = (m : ℕ) → m ≤ bound → passes m ≡ false
IsLeast passes bound (Some n) = (n ≤ bound) × (passes n ≡ true) × ((m : ℕ) → m < n → passes m ≡ false)

-- whether the first n bytes of the text are matched
abbrev pub front_matches : List Part → List ℕ → ℕ → Bool
front_matches parts text n = matches parts (take n text)

-- whether the last n are
abbrev pub tail_matches : List Part → List ℕ → ℕ → Bool
tail_matches parts text n = matches parts (drop (length text - n) text)

-- the bytes from one place to another
abbrev pub between : List ℕ → ℕ → ℕ → List ℕ
between text from to = take (to - from) (drop from text)

-- no match lies in the text from that place on, up to a start
abbrev pub NoMatch : List Part → List ℕ → ℕ → ℕ → Type 0
NoMatch parts text from limit = (start end : ℕ) → from ≤ start → start < limit → start ≤ end → end ≤ length text → matches parts (between text start end) ≡ false

-- a match, which is the longest at its start, and none starts before it
pub record IsFirstMatch (parts : List Part) (text : List ℕ) (from start end : ℕ) : Type 0 where
  pub after : from ≤ start
  pub ordered : start ≤ end
  pub within : end ≤ length text
  pub matched : matches parts (between text start end) ≡ true
  pub longest : (longer : ℕ) → end < longer → longer ≤ length text → matches parts (between text start longer) ≡ false
  pub first : NoMatch parts text from start

-- the leftmost match from a place on, and the longest there
abbrev pub IsFirstIn : List Part → List ℕ → ℕ → Option (ℕ × ℕ) → Type 0
IsFirstIn parts text from None = (start end : ℕ) → from ≤ start → start ≤ end → end ≤ length text → matches parts (between text start end) ≡ false
IsFirstIn parts text from (Some m) = IsFirstMatch parts text from m.0 m.1
