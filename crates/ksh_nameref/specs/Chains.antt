-- References that point to each other.
use Rattle.std.specs.Prelude.{◌≡◌, ℕ, zero, suc, ◌<◌, Bool, true, false, Option, Some, None}
use Rattle.var_types.specs.declared.path.Path.{Path}
use Rattle.var_types.specs.declared.cell.Cell.{Cell}
use Rattle.var_types.specs.declared.value.Value.{Value}
use Rattle.var_types.specs.declared.value.Value.TheVariants as value
use Rattle.var_types.specs.Order.{path_eq}
use Rattle.var_types.specs.Rows.{Rows, cell_at}

abbrev pub target_of : Value → Option Path
target_of (value.Reference path) = Some path
target_of other = None

-- a reference without a target
abbrev pub is_blind : Value → Bool
is_blind value.NoReference = true
is_blind other = false

abbrev pub is_reference : Value → Bool
is_reference (value.Reference path) = true
is_reference value.NoReference = true
is_reference other = false

abbrev pub target_in : {H : Type 0} → Option (Cell H) → Option Path
target_in None = None
target_in (Some cell) = target_of cell.value

abbrev pub holds_in : {H : Type 0} → (Value → Bool) → Option (Cell H) → Bool
holds_in test None = false
holds_in test (Some cell) = test cell.value

-- where the reference at the path points to, if there is one
abbrev pub next : {H : Type 0} → Rows H → Path → Option Path
next rows path = target_in (cell_at path rows)

-- whether there is a row at the path, whose value passes
abbrev pub row_is : {H : Type 0} → (Value → Bool) → Rows H → Path → Bool
row_is test rows path = holds_in test (cell_at path rows)

abbrev pub and_then : Option Path → (Path → Option Path) → Option Path
and_then None f = None
and_then (Some path) f = f path

-- the path after so many references
abbrev pub after : {H : Type 0} → Rows H → ℕ → Path → Option Path
after rows zero path = Some path
after rows (suc n) path = and_then (next rows path) (after rows n)

-- the chain from a path ends at another, whose row is no reference to a further one
pub record EndsAt {H : Type 0} (rows : Rows H) (from to : Path) : Type 0 where
  pub count : ℕ
  pub reached : after rows count from ≡ Some to
  pub last : next rows to ≡ None

-- the chain from a path comes to the same path twice
pub record ComesBack {H : Type 0} (rows : Rows H) (from : Path) : Type 0 where
  pub once : ℕ
  pub again : ℕ
  pub rises : once < again
  pub first : Path
  pub second : Path
  pub reached : after rows once from ≡ Some first
  pub reached_again : after rows again from ≡ Some second
  pub same : path_eq first second ≡ true
