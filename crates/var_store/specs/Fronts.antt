-- The fronts of a path: the path cut after some of its steps.
use Rattle.std.specs.Prelude.{◌≡◌, ℕ, ◌<◌, ◌≤◌, List, Result, length, take, slice_get, Some, Ok, Err}
use Rattle.std.specs.declared.cmp.Ordering.{Ordering}
use Rattle.std.specs.declared.cmp.Ordering.TheVariants.{Less, Equal, Greater}
use Rattle.var_types.specs.declared.path.Path.{Path}
use Rattle.var_types.specs.Rows.{Row, Rows}
use Rattle.var_types.specs.Order.{path_cmp}

-- the path with its first steps alone
abbrev pub front : ℕ → Path → Path
front depth path = record { scope = path.scope; name = path.name; steps = take depth path.steps }

-- the first rows are before the path
abbrev pub AreBefore : {H : Type 0} → Rows H → Path → ℕ → Type 0
AreBefore {H} rows path n = (j : ℕ) (r : Row H) → j < n → slice_get rows j ≡ Some r → path_cmp path r.0 ≡ Greater

-- the rows from that place on are behind the path
abbrev pub AreBehind : {H : Type 0} → Rows H → Path → ℕ → Type 0
AreBehind {H} rows path n = (j : ℕ) (r : Row H) → n ≤ j → slice_get rows j ≡ Some r → path_cmp path r.0 ≡ Less

-- the row at that place, where there is one, has that order to the path, and those before it are before the path
pub record IsPlace {H : Type 0} (rows : Rows H) (path : Path) (at : ℕ) (found : Ordering) : Type 0 where
  pub within : at ≤ length rows
  pub before : AreBefore rows path at
  pub there : (r : Row H) → slice_get rows at ≡ Some r → path_cmp path r.0 ≡ found

-- where a search ends: at the row of the path, or where it would be put
abbrev pub Places : {H : Type 0} → Rows H → Path → Result ℕ ℕ → Type 0
Places rows path (Ok i) = (i < length rows) × IsPlace rows path i Equal
Places rows path (Err i) = IsPlace rows path i Less
