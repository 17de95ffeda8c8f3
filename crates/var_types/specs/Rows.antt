-- Rows of variables: a path and its cell, rising by path, each path once.
use Rattle.std.specs.Prelude.{List, Option, None, false}
use Rattle.std.specs.Map.{lookup, keys_of}
use Rattle.std.specs.List.Sorted.{IsStrictlySortedBy}
use Rattle.std.specs.BTreeMap.{is_at}
use Rattle.var_types.specs.declared.path.Path.{Path}
use Rattle.var_types.specs.declared.attrs.Attrs.{Attrs}
use Rattle.var_types.specs.declared.cell.Cell.{Cell}
use Rattle.var_types.specs.declared.cell.HookSet.{HookSet}
use Rattle.var_types.specs.Order.{path_cmp}

abbrev pub Row : Type 0 → Type 0
Row H = Path × Cell H

abbrev pub Rows : Type 0 → Type 0
Rows H = List (Row H)

-- each path is below those after it
abbrev pub IsRising : {H : Type 0} → Rows H → Type 0
IsRising rows = IsStrictlySortedBy path_cmp (keys_of rows)

-- the cell in the row of the path, or nothing where there is none
abbrev pub cell_at : {H : Type 0} → Path → Rows H → Option (Cell H)
cell_at path rows = lookup (is_at (path_cmp path)) rows

-- no attribute
abbrev pub no_attrs : Attrs
no_attrs = record { integer = None; upper = false; lower = false; left = None; right = None; zero = None; readonly = false; exported = false }

-- no discipline
abbrev pub no_hooks : {H : Type 0} → HookSet H
no_hooks = record { get = None; set = None; append = None; unset = None }
