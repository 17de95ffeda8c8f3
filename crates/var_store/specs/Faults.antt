-- The faults of a call, all that apply, and the first of them in the order in which they are tried.
use Rattle.std.specs.Prelude.{ℕ, suc, zero, ◌&&◌, ◌||◌, Bool, true, false, if◌then◌else◌, nat_lt, Option, Some, None, slice_get, length, List}
use Rattle.std.specs.List.{list_any}
use Rattle.var_types.specs.declared.path.Path.{Path}
use Rattle.var_types.specs.declared.path.Step.{Step}
use Rattle.var_types.specs.declared.path.Step.TheVariants.{Index, Key, Member}
use Rattle.var_types.specs.declared.value.Value.{Value}
use Rattle.var_types.specs.declared.value.Value.TheVariants.{Unset, Plain, Number, Compound, Indexed, Assoc, Reference, NoReference, Instance}
use Rattle.var_types.specs.declared.cell.Cell.{Cell}
use Rattle.var_types.specs.Order.{is_front}
use Rattle.var_types.specs.Rows.{Row, Rows, cell_at}
use Rattle.var_store.specs.declared.faults.VarFault.{VarFault}
use Rattle.var_store.specs.declared.faults.VarFault.TheVariants as fault
use Rattle.var_store.specs.declared.faults.Faults.{Faults}
use Rattle.var_store.specs.Fronts.{front}
use Rattle.var_store.specs.Standing.{standing}

abbrev pub no_faults : Faults
no_faults = record { no_parent = false; read_only = false; not_array = false; out_of_range = false; not_a_name = false; wrong_kind = false }

abbrev pub both : Faults → Faults → Faults
both a b = record { no_parent = a.no_parent || b.no_parent; read_only = a.read_only || b.read_only; not_array = a.not_array || b.not_array; out_of_range = a.out_of_range || b.out_of_range; not_a_name = a.not_a_name || b.not_a_name; wrong_kind = a.wrong_kind || b.wrong_kind }

-- the first that applies
abbrev pub first_fault : Faults → Option VarFault
first_fault f = if f.no_parent then Some fault.NoParent else if f.read_only then Some fault.ReadOnly else if f.not_array then Some fault.NotArray else if f.out_of_range then Some fault.SubscriptRange else if f.not_a_name then Some fault.NotAName else if f.wrong_kind then Some fault.WrongKind else None

-- whether the second path goes on from the first
abbrev pub goes_on : Path → Path → Bool
goes_on p q = is_front p q && nat_lt (length p.steps) (length q.steps)

-- whether rows stand below that of the path
abbrev pub has_below : {H : Type 0} → Path → Rows H → Bool
has_below path rows = list_any (λ r. goes_on path r.0) rows

abbrev pub is_unset : Value → Bool
is_unset Unset = true
is_unset v = false

-- no row, or one that isn't set
abbrev pub is_absent : {H : Type 0} → Option (Cell H) → Bool
is_absent None = true
is_absent (Some c) = is_unset c.value

-- a compound with members, an instance and a reference are no arrays, and don't become one
abbrev pub refuses_subscripts : Value → Bool → Bool
refuses_subscripts Compound has_members = has_members
refuses_subscripts (Reference p) has_members = true
refuses_subscripts NoReference has_members = true
refuses_subscripts (Instance n) has_members = true
refuses_subscripts v has_members = false

-- a kind of row that a step can't follow, unless the row isn't set or is no array at all
abbrev pub is_wrong_step : Value → Step → Bool
is_wrong_step (Plain t) (Key s) = true
is_wrong_step (Plain t) (Member m) = true
is_wrong_step (Number n) (Key s) = true
is_wrong_step (Number n) (Member m) = true
is_wrong_step Indexed (Key s) = true
is_wrong_step Indexed (Member m) = true
is_wrong_step Assoc (Index n) = true
is_wrong_step Assoc (Member m) = true
is_wrong_step v s = false

-- an index past the last that there is
abbrev pub largest_index : ℕ
largest_index = 4194303

-- the faults of a step, where `absent` says that no set row is before it, and `refused` that what stands there refuses it as a subscript
abbrev pub step_faults : Bool → Value → Bool → Bool → Step → Faults
step_faults locked v absent refused (Index n) = record { no_parent = false; read_only = locked; not_array = refused; out_of_range = nat_lt largest_index n; not_a_name = false; wrong_kind = is_wrong_step v (Index n) }
step_faults locked v absent refused (Key s) = record { no_parent = false; read_only = locked; not_array = refused; out_of_range = false; not_a_name = false; wrong_kind = is_wrong_step v (Key s) }
step_faults locked v absent refused (Member m) = record { no_parent = absent; read_only = locked; not_array = false; out_of_range = false; not_a_name = false; wrong_kind = is_wrong_step v (Member m) }

abbrev pub step_faults_at : {H : Type 0} → Cell H → Bool → Bool → Option Step → Faults
step_faults_at c absent has_members None = no_faults
step_faults_at c absent has_members (Some s) = step_faults c.attrs.readonly c.value absent (refuses_subscripts c.value has_members) s

-- the faults of the first steps of a path
abbrev pub path_faults : {H : Type 0} → Rows H → Path → ℕ → Faults
path_faults rows path zero = no_faults
path_faults rows path (suc k) = both (path_faults rows path k) (step_faults_at (standing rows path k) (is_absent (cell_at (front k path) rows)) (has_below (front k path) rows) (slice_get path.steps k))
