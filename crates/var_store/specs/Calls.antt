-- What each call on the variables makes of the rows and the number of the highest scope.
use Rattle.std.specs.Prelude.{◌≡◌, ℕ, zero, suc, ◌+◌, ◌-◌, ◌&&◌, ◌||◌, not, nat_lt, Bool, true, false, if◌then◌else◌, List, [], Option, Some, None, Result, Ok, Err, length}
use Rattle.var_types.specs.declared.path.Path.{Path}
use Rattle.std.specs.Prelude.{◌∷◌, ◌==◌, slice_get}
use Rattle.std.specs.Fmt.{decimal}
use Rattle.std.specs.Ordering.{int_eq}
use Rattle.std.specs.Bool.{beq}
use Rattle.std.specs.List.{list_any, filter_map}
use Rattle.ksh_base.specs.Text.{same_numbers}
use Rattle.var_types.specs.declared.path.Step.{Step}
use Rattle.var_types.specs.declared.path.Step.TheVariants.{Index, Key, Member}
use Rattle.var_types.specs.declared.value.Value.{Value}
use Rattle.var_types.specs.declared.value.Value.TheVariants.{Unset, Plain, Number, Compound, Indexed, Assoc, Reference, NoReference, Instance}
use Rattle.var_types.specs.declared.attrs.Attrs.{Attrs}
use Rattle.var_types.specs.declared.cell.Cell.{Cell}
use Rattle.var_types.specs.declared.cell.HookSet.{HookSet}
use Rattle.var_types.specs.declared.cell.HookKind.{HookKind}
use Rattle.var_types.specs.declared.cell.HookKind.TheVariants as kind
use Rattle.var_types.specs.declared.cell.HookKind.TheVariants.{Get, Set, Append}
use Rattle.var_types.specs.Order.{path_eq, is_front}
use Rattle.var_types.specs.Rows.{Rows, cell_at}
use Rattle.var_store.specs.declared.faults.VarFault.{VarFault}
use Rattle.var_store.specs.declared.faults.VarFault.TheVariants as fault
use Rattle.var_store.specs.declared.faults.Faults.{Faults}
use Rattle.var_store.specs.Faults.{both, first_fault, has_below, path_faults}
use Rattle.var_store.specs.Standing.{standing, is_single}
use Rattle.var_store.specs.Changes.{with_row, without, without_scope}
use Rattle.var_store.specs.Growth.{with_value, then_step, grown}
use Rattle.var_store.specs.Shaping.{assigned}

-- the rows, and the number of the highest scope
abbrev pub Store : Type 0 → Type 0
Store H = Rows H × ℕ

-- what a change is refused with, or leaves
abbrev pub Change : Type 0 → Type 0
Change H = Result (Store H) VarFault

-- a call answers what was meant and leaves it, or memory ran out, and on any fault all stays
abbrev pub Changes : {H A : Type 0} → Result A VarFault → Store H → Store H → Change H → Type 0
Changes (Ok u) old new change = change ≡ Ok new
Changes (Err fault.Memory) old new change = new ≡ old
Changes (Err f) old new change = (change ≡ Err f) × (new ≡ old)

-- an answer is what was meant, or memory ran out
abbrev pub Answers : {A : Type 0} → Result A VarFault → Result A VarFault → Type 0
Answers (Ok a) answer = answer ≡ Ok a
Answers (Err fault.Memory) answer = Unit {0}
Answers (Err f) answer = answer ≡ Err f

abbrev pub unless : {A : Type 0} → Option VarFault → Result A VarFault → Result A VarFault
unless None answer = answer
unless (Some f) answer = Err f

-- the cell goes to the path
abbrev pub placed : {H : Type 0} → Store H → Path → Result (Cell H) VarFault → Change H
placed store path (Ok cell) = Ok (grown store.0 path cell, store.1)
placed store path (Err f) = Err f

-- ---- put and append
-- rows that take no text
abbrev pub takes_no_text : Value → Bool
takes_no_text Compound = true
takes_no_text Assoc = true
takes_no_text (Instance n) = true
takes_no_text v = false

-- the faults of the row itself
abbrev pub text_faults : Bool → Value → Faults
text_faults locked v = record { no_parent = false; read_only = locked; not_array = false; out_of_range = false; not_a_name = false; wrong_kind = takes_no_text v }

abbrev pub indexed : Value → Bool
indexed Indexed = true
indexed v = false

abbrev pub is_indexed : {H : Type 0} → Option (Cell H) → Bool
is_indexed None = false
is_indexed (Some c) = indexed c.value

-- an indexed array stands for its element 0
abbrev pub zeroed_by : {H : Type 0} → ℕ → Rows H → Path → Path
zeroed_by zero rows path = path
zeroed_by (suc n) rows path = if is_indexed (cell_at path rows) then zeroed_by n rows (then_step path (Index 0)) else path

abbrev pub zeroed : {H : Type 0} → Rows H → Path → Path
zeroed rows path = zeroed_by (length rows) rows path

abbrev pub or_wrong : Option Value → Result Value VarFault
or_wrong None = Err fault.WrongKind
or_wrong (Some v) = Ok v

-- the value that a text makes of that of a cell
abbrev pub cell_value : {H : Type 0} → Bool → Cell H → List ℕ → Result Value VarFault
cell_value append c text = unless (first_fault (text_faults c.attrs.readonly c.value)) (or_wrong (assigned append c.attrs c.value text))

abbrev pub valued : {H : Type 0} → Cell H → Option Value → Result (Cell H) VarFault
valued c None = Err fault.WrongKind
valued c (Some v) = Ok (with_value c v)

abbrev pub assigned_cell : {H : Type 0} → Bool → Cell H → List ℕ → Result (Cell H) VarFault
assigned_cell append c text = valued c (assigned append c.attrs c.value text)

abbrev pub assign_cell : {H : Type 0} → Bool → Rows H → Path → List ℕ → Result (Cell H) VarFault
assign_cell append rows path text = unless (first_fault (both (path_faults rows path (length path.steps)) (text_faults (standing rows path (length path.steps)).attrs.readonly (standing rows path (length path.steps)).value))) (assigned_cell append (standing rows path (length path.steps)) text)

abbrev pub assign_at : {H : Type 0} → Bool → Store H → Path → List ℕ → Change H
assign_at append store path text = placed store path (assign_cell append store.0 path text)

-- a text is put into a row, shaped by its attributes
abbrev pub put_of : {H : Type 0} → Store H → Path → List ℕ → Change H
put_of store path text = assign_at false store (zeroed store.0 path) text

-- a text is added behind that of a row, or a number to its number
abbrev pub append_of : {H : Type 0} → Store H → Path → List ℕ → Change H
append_of store path text = assign_at true store (zeroed store.0 path) text

abbrev pub or_itself : Option Path → Path → Path
or_itself None path = path
or_itself (Some longer) path = longer

-- ---- declare
abbrev pub same_value : Value → Value → Bool
same_value Unset Unset = true
same_value (Plain s) (Plain t) = same_numbers s t
same_value (Number m) (Number n) = int_eq m n
same_value Compound Compound = true
same_value Indexed Indexed = true
same_value Assoc Assoc = true
same_value (Reference p) (Reference q) = path_eq p q
same_value NoReference NoReference = true
same_value (Instance m) (Instance n) = same_numbers m n
same_value v w = false

abbrev pub same_width : Option ℕ → Option ℕ → Bool
same_width None None = true
same_width (Some m) (Some n) = m == n
same_width w v = false

abbrev pub same_widths : Attrs → Attrs → Bool
same_widths a b = same_width a.left b.left && (same_width a.right b.right && same_width a.zero b.zero)

abbrev pub same_shape : Attrs → Attrs → Bool
same_shape a b = same_width a.integer b.integer && (beq a.upper b.upper && (beq a.lower b.lower && same_widths a b))

-- the same attributes, but that the second may be exported where the first is not
abbrev pub same_but_exported : Attrs → Attrs → Bool
same_but_exported a b = same_shape a b && (beq a.readonly b.readonly && (not a.exported || b.exported))

-- whether a row is another one after its declaration, were it not read only
abbrev pub is_changed : {H : Type 0} → Option (Cell H) → Attrs → Value → Bool
is_changed None attrs v = true
is_changed (Some c) attrs v = not (same_value c.value v && same_but_exported c.attrs attrs)

-- a reference whose target's path has more than 64 steps
abbrev pub is_too_long : Value → Bool
is_too_long (Reference p) = nat_lt 64 (length p.steps)
is_too_long v = false

abbrev pub refers : Value → Bool
refers (Reference p) = true
refers NoReference = true
refers v = false

abbrev pub declare_faults : Faults → Bool → Bool → Value → Bool → Faults
declare_faults f locked changed v below = record { no_parent = f.no_parent; read_only = (f.read_only || locked) && changed; not_array = f.not_array; out_of_range = f.out_of_range; not_a_name = is_too_long v; wrong_kind = f.wrong_kind || below }

abbrev pub declared_cell : {H : Type 0} → Cell H → Attrs → Value → Cell H
declared_cell c attrs v = record { attrs = attrs; value = v; hooks = c.hooks }

abbrev pub declare_cell : {H : Type 0} → Rows H → Path → Attrs → Value → Result (Cell H) VarFault
declare_cell rows path attrs v = unless (first_fault (declare_faults (path_faults rows path (length path.steps)) (standing rows path (length path.steps)).attrs.readonly (is_changed (cell_at path rows) attrs v) v (refers v && has_below path rows))) (Ok (declared_cell (standing rows path (length path.steps)) attrs v))

-- a row gets these attributes and this value, and keeps its hooks
abbrev pub declare_of : {H : Type 0} → Store H → Path → Attrs → Value → Change H
declare_of store path attrs v = placed store path (declare_cell store.0 path attrs v)

-- ---- hook
abbrev pub with_hook : {H : Type 0} → HookSet H → HookKind → Option H → HookSet H
with_hook h Get f = record { get = f; set = h.set; append = h.append; unset = h.unset }
with_hook h Set f = record { get = h.get; set = f; append = h.append; unset = h.unset }
with_hook h Append f = record { get = h.get; set = h.set; append = f; unset = h.unset }
with_hook h kind.Unset f = record { get = h.get; set = h.set; append = h.append; unset = f }

abbrev pub hooked : {H : Type 0} → Cell H → HookKind → Option H → Cell H
hooked c k f = record { attrs = c.attrs; value = c.value; hooks = with_hook c.hooks k f }

abbrev pub lock_faults : Bool → Faults
lock_faults locked = record { no_parent = false; read_only = locked; not_array = false; out_of_range = false; not_a_name = false; wrong_kind = false }

-- what refuses a change of a row
abbrev pub change_fault : {H : Type 0} → Rows H → Path → Bool → Option VarFault
change_fault rows path locked = first_fault (both (path_faults rows path (length path.steps)) (lock_faults locked))

abbrev pub unhooked_rows : {H : Type 0} → Path → HookKind → Option (Cell H) → Rows H → Rows H
unhooked_rows path k None rows = rows
unhooked_rows path k (Some c) rows = with_row path (hooked c k None) rows

-- a discipline's function is given to a row, or taken from it; without a row there is none to take
abbrev pub hook_of : {H : Type 0} → Store H → Path → HookKind → Option H → Change H
hook_of store path k None = unless (change_fault store.0 path (standing store.0 path (length path.steps)).attrs.readonly) (Ok (unhooked_rows path k (cell_at path store.0) store.0, store.1))
hook_of store path k (Some f) = placed store path (unless (change_fault store.0 path (standing store.0 path (length path.steps)).attrs.readonly) (Ok (hooked (standing store.0 path (length path.steps)) k (Some f))))

-- ---- unset
abbrev pub has_locked : {H : Type 0} → Path → Rows H → Bool
has_locked path rows = list_any (λ r. r.1.attrs.readonly && is_front path r.0) rows

abbrev pub unset_by : {H : Type 0} → Store H → Path → Option (Cell H) → Change H
unset_by store path None = Ok store
unset_by store path (Some c) = unless (change_fault store.0 path (has_locked path store.0)) (Ok (without path store.0, store.1))

-- the row and all below it go; without a row nothing changes
abbrev pub unset_of : {H : Type 0} → Store H → Path → Change H
unset_of store path = unset_by store path (cell_at path store.0)

-- ---- looking
-- a row that is only looked at may be locked
abbrev pub unlocked : Faults → Faults
unlocked f = record { no_parent = f.no_parent; read_only = false; not_array = f.not_array; out_of_range = f.out_of_range; not_a_name = f.not_a_name; wrong_kind = f.wrong_kind }

-- one step further
abbrev pub is_child : Path → Path → Bool
is_child p q = is_front p q && (length q.steps == length p.steps + 1)

abbrev pub step_at : Path → Path → Option Step
step_at p q = if is_child p q then slice_get q.steps (length p.steps) else None

abbrev pub as_subscript : Option Step → Option (List ℕ)
as_subscript (Some (Index n)) = Some (decimal n)
as_subscript (Some (Key s)) = Some s
as_subscript s = None

abbrev pub as_member : Option Step → Option (List ℕ)
as_member (Some (Member n)) = Some n
as_member s = None

-- the subscripts of the rows one step below; a text or a number is its own element 0
abbrev pub subscripts_at : {H : Type 0} → Rows H → Path → List (List ℕ)
subscripts_at rows path = if is_single (standing rows path (length path.steps)).value then decimal 0 ∷ [] else filter_map (λ r. as_subscript (step_at path r.0)) rows

abbrev pub subscripts_of : {H : Type 0} → Rows H → Path → Result (List (List ℕ)) VarFault
subscripts_of rows path = unless (first_fault (unlocked (path_faults rows path (length path.steps)))) (Ok (subscripts_at rows path))

-- a row that has no members
abbrev pub has_no_members : Value → Bool
has_no_members Compound = false
has_no_members (Instance n) = false
has_no_members v = true

abbrev pub is_no_compound : {H : Type 0} → Option (Cell H) → Bool
is_no_compound None = false
is_no_compound (Some c) = has_no_members c.value

abbrev pub kind_faults : Bool → Faults
kind_faults wrong = record { no_parent = false; read_only = false; not_array = false; out_of_range = false; not_a_name = false; wrong_kind = wrong }

-- the members of the rows one step below
abbrev pub members_of : {H : Type 0} → Rows H → Path → Result (List (List ℕ)) VarFault
members_of rows path = unless (first_fault (both (unlocked (path_faults rows path (length path.steps))) (kind_faults (is_no_compound (cell_at path rows))))) (Ok (filter_map (λ r. as_member (step_at path r.0)) rows))

abbrev pub name_in : ℕ → Path → Option (List ℕ)
name_in scope p = if (p.scope == scope) && (length p.steps == 0) then Some p.name else None

-- the names of a scope's rows whose path has no steps
abbrev pub names_of : {H : Type 0} → Rows H → ℕ → List (List ℕ)
names_of rows scope = filter_map (λ r. name_in scope r.0) rows

-- ---- scopes
-- the rows of the highest scope go, and it
abbrev pub popped : {H : Type 0} → Store H → Store H
popped store = (without_scope store.1 store.0, store.1 - 1)

abbrev pub AnswersBy : {A B : Type 0} → (A → B) → Result A VarFault → Result B VarFault → Type 0
AnswersBy view (Ok a) answer = answer ≡ Ok (view a)
AnswersBy view (Err fault.Memory) answer = Unit {0}
AnswersBy view (Err f) answer = answer ≡ Err f
