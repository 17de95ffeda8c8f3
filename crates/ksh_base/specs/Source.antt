-- What a read of a source takes, and what comes of reads to the end.
use Rattle.std.specs.Prelude.{◌≡◌, ℕ, ◌+◌, ◌-◌, ◌^◌, ◌≤◌, min, List, [], take, drop, length, Option, Some, None, is_some, Result, OnErr, OnOk}

-- a count of faults rose; one that stands at its type's end is as good as risen
abbrev pub Rose : ℕ → ℕ → Type 0
Rose before now = min (before + 1) (2 ^ 64 - 1) ≤ now

-- the count of faults never falls, an error comes only where it rose, and a success leaves it
pub record HasCause {T E : Type 0} (before now : ℕ) (result : Result T E) : Type 0 where
  pub later : before ≤ now
  pub failed : OnErr result (Rose before now)
  pub kept : OnOk result (now ≡ before)

-- some bytes from the front of what is left, none only at its end
pub record Takes (left left' : List ℕ) (count : ℕ) (into : List ℕ) : Type 0 where
  pub within : count ≤ length into
  pub bytes : take count into ≡ take count left
  pub rest : left' ≡ drop count left
  pub enough : count ≤ length left
  pub ends : count ≡ 0 → left ≡ []

-- what one read does to what is left, where that is told
abbrev pub ReadsLeft : Option (List ℕ) → Option (List ℕ) → ℕ → List ℕ → Type 0
ReadsLeft (Some left) (Some left') count into = Takes left left' count into
ReadsLeft None None count into = count ≤ length into
ReadsLeft _ _ count into = ⊥

-- keeps whether what is left is told
abbrev pub SameTold : Option (List ℕ) → Option (List ℕ) → Type 0
SameTold old new = is_some old ≡ is_some new

-- a source over bytes: what it has left, its calls so far, the calls that fail, its faults
pub record Script : Type 0 where
  pub left : List ℕ
  pub reads : ℕ
  pub fails : List ℕ
  pub faults : ℕ
