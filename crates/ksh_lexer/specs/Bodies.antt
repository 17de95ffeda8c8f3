-- Where the body of a here-document ends.
use Rattle.std.specs.Prelude.{◌≡◌, ℕ, ◌+◌, ◌-◌, ◌<◌, ◌≤◌, Bool, true, false, ◌||◌, ◌==◌, nat_lt, List, [], ◌∷◌, length, drop, slice_index, if◌then◌else◌}
use Rattle.bstr.specs.Bytes.{not_in}
use Rattle.ksh_base.specs.Text.{same_numbers}
use Rattle.ksh_lexer.specs.Reach.{IsRun, at_byte}

-- the bytes before the first newline
abbrev pub line : List ℕ → List ℕ
line [] = []
line (b ∷ bs) = if b == 10 then [] else b ∷ line bs

-- without the tabs in front
abbrev pub past_tabs : List ℕ → List ℕ
past_tabs [] = []
past_tabs (b ∷ bs) = if b == 9 then past_tabs bs else b ∷ bs

-- the line in front is the word; where tabs are removed, those before it don't count
abbrev pub is_end_line : List ℕ → Bool → List ℕ → Bool
is_end_line word tabs rest = same_numbers (line (if tabs then past_tabs rest else rest)) word

-- a line begins there, in what begins at `from`
abbrev pub starts_line : List ℕ → ℕ → ℕ → Bool
starts_line text from place = place == from || slice_index text (place - 1) == 10

-- the line at that place isn't the end of a body, as far as one begins there
abbrev pub IsOther : List ℕ → List ℕ → Bool → ℕ → ℕ → Type 0
IsOther text word tabs from k = starts_line text from k ≡ true → is_end_line word tabs (drop k text) ≡ false

-- the first line from a place on that is the word
pub record IsEnd (text word : List ℕ) (tabs : Bool) (from to : ℕ) : Type 0 where
  pub ordered : from ≤ to
  pub within : to ≤ length text
  pub starts : starts_line text from to ≡ true
  pub ends : is_end_line word tabs (drop to text) ≡ true
  pub first : (k : ℕ) → from ≤ k → k < to → IsOther text word tabs from k

-- no line from a place on is the word
abbrev pub NoEnd : List ℕ → List ℕ → Bool → ℕ → Type 0
NoEnd text word tabs from = (k : ℕ) → from ≤ k → k ≤ length text → IsOther text word tabs from k

-- the place behind the line at a place, and behind its newline
abbrev pub IsBehindLine : List ℕ → ℕ → ℕ → Type 0
IsBehindLine text at behind = (newline : ℕ) × IsRun (at_byte (not_in (10 ∷ []))) text at newline
    × (behind ≡ (if nat_lt newline (length text) then newline + 1 else newline))
