-- What stands at each front of a path, before a change: the cell of its row, or what an element has from the row before it.
use Rattle.std.specs.Prelude.{◌≡◌, ℕ, suc, zero, ◌==◌, ◌&&◌, Bool, true, false, if◌then◌else◌, Option, Some, None, slice_get}
use Rattle.std.specs.Option.{unwrap_or, option_copied}
use Rattle.std.specs.Borrow.{Bor}
use Rattle.var_types.specs.declared.path.Path.{Path}
use Rattle.var_types.specs.declared.path.Step.{Step}
use Rattle.var_types.specs.declared.path.Step.TheVariants.{Index, Key, Member}
use Rattle.var_types.specs.declared.value.Value.{Value}
use Rattle.var_types.specs.declared.value.Value.TheVariants.{Unset, Plain, Number}
use Rattle.var_types.specs.declared.attrs.Attrs.{Attrs}
use Rattle.var_types.specs.declared.cell.Cell.{Cell}
use Rattle.var_types.specs.declared.cell.HookSet.{HookSet}
use Rattle.var_types.specs.Rows.{Rows, cell_at, no_attrs, no_hooks}
use Rattle.var_store.specs.declared.standing.Standing.{Standing}
use Rattle.var_store.specs.Fronts.{front}

-- one text or number
abbrev pub is_single : Value → Bool
is_single (Plain t) = true
is_single (Number n) = true
is_single v = false

-- the attributes that a new element has from its array: those of number, case and width
abbrev pub element_attrs : Attrs → Attrs
element_attrs a = record { integer = a.integer; upper = a.upper; lower = a.lower; left = a.left; right = a.right; zero = a.zero; readonly = false; exported = false }

-- a row that isn't there is as an unset one
abbrev pub blank : {H : Type 0} → Cell H
blank = record { attrs = no_attrs; value = Unset; hooks = no_hooks }

-- what a step leads to where no row is: element 0 of a text or a number is that itself
abbrev pub led_to : Value → Step → Value
led_to v (Index n) = if (n == 0) && is_single v then v else Unset
led_to v s = Unset

abbrev pub led_attrs : Attrs → Step → Attrs
led_attrs a (Member m) = no_attrs
led_attrs a s = element_attrs a

abbrev pub after_step : {H : Type 0} → Cell H → Option Step → Cell H
after_step c None = blank
after_step c (Some s) = record { attrs = led_attrs c.attrs s; value = led_to c.value s; hooks = no_hooks }

-- what stands after the first steps of a path
abbrev pub standing : {H : Type 0} → Rows H → Path → ℕ → Cell H
standing rows path zero = unwrap_or (cell_at (front 0 path) rows) blank
standing rows path (suc k) = unwrap_or (cell_at (front (suc k) path) rows) (after_step (standing rows path k) (slice_get path.steps k))

-- a value that may be lent, and is unset where it isn't
abbrev pub Held : Option (Bor Value) → Value
Held lent = unwrap_or (option_copied lent) Unset

-- what the code keeps of a cell: its attributes and its value
abbrev pub Stands : {H : Type 0} → Standing → Cell H → Type 0
Stands kept cell = (kept.attrs ≡ cell.attrs) × (Held kept.value ≡ cell.value)

-- the hooks of a row, and none where it isn't there
abbrev pub hooks_of : {H : Type 0} → Option (Cell H) → HookSet H
hooks_of None = no_hooks
hooks_of (Some c) = c.hooks

abbrev pub attrs_or : {H : Type 0} → Option (Cell H) → Attrs → Attrs
attrs_or None a = a
attrs_or (Some c) a = c.attrs
