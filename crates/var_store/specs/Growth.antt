-- The rows that a change at a path makes on its way there.
use Rattle.std.specs.Prelude.{ℕ, suc, zero, List, [], ◌∷◌, ◌++◌, Option, Some, None, slice_get, length}
use Rattle.std.specs.Option.{unwrap_or}
use Rattle.var_types.specs.declared.path.Path.{Path}
use Rattle.var_types.specs.declared.path.Step.{Step}
use Rattle.var_types.specs.declared.path.Step.TheVariants.{Index, Key, Member}
use Rattle.var_types.specs.declared.value.Value.{Value}
use Rattle.var_types.specs.declared.value.Value.TheVariants.{Unset, Plain, Number, Compound, Indexed, Assoc}
use Rattle.var_types.specs.declared.cell.Cell.{Cell}
use Rattle.var_types.specs.Rows.{Row, Rows, cell_at}
use Rattle.var_store.specs.Fronts.{front}
use Rattle.var_store.specs.Standing.{standing, after_step}
use Rattle.var_store.specs.Changes.{with_rows}

-- a row keeps its attributes and hooks where its value changes
abbrev pub with_value : {H : Type 0} → Cell H → Value → Cell H
with_value c v = record { attrs = c.attrs; value = v; hooks = c.hooks }

-- the path with one more step
abbrev pub then_step : Path → Step → Path
then_step path s = record { scope = path.scope; name = path.name; steps = path.steps ++ s ∷ [] }

-- what a row becomes before a subscript: nothing set, and no members, becomes an array; a text or a number becomes one that has it at 0
pub data Turn : Type 0 where
  Stays : Turn
  Becomes : Value → Turn
  Keeps : Turn

abbrev pub turn : Value → Step → Turn
turn Unset (Index n) = Becomes Indexed
turn Unset (Key s) = Becomes Assoc
turn Compound (Index n) = Becomes Indexed
turn Compound (Key s) = Becomes Assoc
turn (Plain t) (Index n) = Keeps
turn (Number n) (Index m) = Keeps
turn v s = Stays

-- the cell of element 0 of a row that stands there, with the row's own value
abbrev pub moved : {H : Type 0} → Rows H → Path → Cell H → Cell H
moved rows path c = with_value (unwrap_or (cell_at (then_step path (Index 0)) rows) (after_step c (Some (Index 0)))) c.value

abbrev pub turned : {H : Type 0} → Rows H → Path → Cell H → Turn → Rows H
turned rows path c Stays = []
turned rows path c (Becomes v) = (path, with_value c v) ∷ []
turned rows path c Keeps = (path, with_value c Indexed) ∷ (then_step path (Index 0), moved rows path c) ∷ []

abbrev pub growth : {H : Type 0} → Rows H → Path → Cell H → Option Step → Rows H
growth rows path c None = []
growth rows path c (Some s) = turned rows path c (turn c.value s)

-- what is written before the first steps of a path
abbrev pub growths : {H : Type 0} → Rows H → Path → ℕ → Rows H
growths rows path zero = []
growths rows path (suc k) = growths rows path k ++ growth rows (front k path) (standing rows path k) (slice_get path.steps k)

-- the rows with that cell at the path, and with the arrays that it stands in
abbrev pub grown : {H : Type 0} → Rows H → Path → Cell H → Rows H
grown rows path cell = with_rows (growths rows path (length path.steps) ++ (path, cell) ∷ []) rows
