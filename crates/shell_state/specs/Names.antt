-- The variables of a shell, by their names.
use Rattle.std.specs.Prelude.{ℕ, List, []}
use Rattle.var_types.specs.declared.path.Path.{Path}
use Rattle.var_types.specs.declared.value.Value.TheVariants.{Plain}
use Rattle.var_types.specs.declared.cell.Cell.{Cell}
use Rattle.var_types.specs.Rows.{no_attrs, no_hooks}
use Rattle.var_store.specs.Calls.{Store}

-- rows and the number of the highest scope; a discipline's function is its text
abbrev pub Vars : Type 0
Vars = Store (List ℕ)

-- what a row has beside its path
abbrev pub VarCell : Type 0
VarCell = Cell (List ℕ)

-- the path of a name's row
abbrev pub named : List ℕ → Path
named name = record { scope = 0; name = name; steps = [] }

-- a row that holds a text, without attributes or disciplines
abbrev pub holding : List ℕ → VarCell
holding text = record { attrs = no_attrs; value = Plain text; hooks = no_hooks }
