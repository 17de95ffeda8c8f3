-- The count of nameless files is that of their open rows.
use Rattle.std.proofs.Common.{◌≡◌, refl, sym, ap, ◌∙◌, ℕ, ◌+◌, ◌-◌, ◌||◌, Bool, true, false, cond, List, [], ◌∷◌, ◌++◌, length, take, drop, Option, Some, None, arith, option_map, unwrap_or, nat_lt, nat_le, ◌==◌, if◌then◌else◌}
use Rattle.std.proofs.lemmas.Cmp.{nat_list_cmp_total}
use Rattle.std.proofs.lemmas.Map.Entries.{sum_by-insert_entry, sum_by-remove_entry, sum_by-set_value}
use Rattle.std.specs.BTreeMap.{is_at}
use Rattle.std.specs.Cmp.Lexicographic.{slice_cmp}
use Rattle.std.specs.Ordering.{nat_cmp}
use Rattle.kernel_objects.specs.declared.files.Node.{Node}
use Rattle.kernel_objects.specs.declared.files.Node.TheVariants as node
use Rattle.kernel_objects.specs.declared.opened.Held.{Held}
use Rattle.kernel_objects.specs.declared.opened.Opened.{Opened}
use Rattle.kernel_objects.specs.declared.opened.Side.{Side}
use Rattle.kernel_objects.specs.declared.opened.Side.TheVariants.{Reads, Writes, Both}
use Rattle.kernel_objects.specs.declared.opened.Stream.{Stream}
use Rattle.kernel_objects.specs.declared.opened.Stream.TheVariants.{Input, Output, Errors, Null, File, Pipe, Scratch}
use Rattle.kernel_objects.specs.Rows.{at_name, set_name, put_name, drop_name}
use Rattle.kernel_core.specs.declared.kernel.Stores.{Stores}
use Rattle.kernel_core.specs.Forks.{all_retained}
use Rattle.kernel_core.specs.Handles.{all_released, is_scratch, is_unheld, left_by, reach_of, released, retained_in, row_left, row_released, row_shared, shared, without_scratch}
use Rattle.kernel_core.specs.Open.{row_for, stream_of}
use Rattle.kernel_core.specs.Transfer.{RowTurn, Says, Holds, Written, Wrote, Unwritten, file_written, gives, read_file, read_stream, scratch_written, taken, write_bytes, write_file, write_node, write_stream}
use Rattle.kernel_ask.specs.declared.ask.Answer.TheVariants as answer
use Rattle.kernel_ask.specs.declared.ask.Mode.{Mode}
use Rattle.kernel_ask.specs.declared.ask.Refusal.TheVariants.{Broken}
use Rattle.kernel_core.specs.Limits.{most_held}
use Rattle.kernel_objects.specs.Paths.{node_at}
use Rattle.kernel_laws.specs.Nameless.{nameless_in}
use Rattle.kernel_laws.proofs.Balance.{Opens}
use Rattle.kernel_laws.proofs.Names.{AreNamed}

-- 1 for a nameless file
abbrev pub kind : Opened → ℕ
kind o = cond (is_scratch o.stream) 1 0

abbrev pub Same : Opened → Opened → Type 0
Same o o' = is_scratch o'.stream ≡ is_scratch o.stream

pub nameless_set : (row : List ℕ) (o o' : Opened) (opens : Opens) → at_name row opens ≡ Some o → Same o o' → nameless_in (set_name row o' opens) ≡ nameless_in opens
nameless_set row o o' opens there same =
    let t = sum_by-set_value kind (is_at (slice_cmp nat_cmp row)) opens o o' there in
    let e : kind o' ≡ kind o = ap (λ b. cond b 1 0) same in
    omega arith

pub nameless_put : (row : List ℕ) (o : Opened) (opens : Opens) → AreNamed opens → at_name row opens ≡ None → nameless_in (put_name row o opens) ≡ nameless_in opens + kind o
nameless_put row o opens named none =
    let t = sum_by-insert_entry kind nat_list_cmp_total opens row o named in
    let z : unwrap_or (option_map kind (at_name row opens)) 0 ≡ 0 = ap (λ x. unwrap_or (option_map kind x) 0) none in
    omega arith

nameless_drop : (row : List ℕ) (o : Opened) (opens : Opens) → at_name row opens ≡ Some o → nameless_in (drop_name row opens) + kind o ≡ nameless_in opens
nameless_drop row o opens there =
    let t = sum_by-remove_entry kind (is_at (slice_cmp nat_cmp row)) opens in
    let z : unwrap_or (option_map kind (at_name row opens)) 0 ≡ kind o = ap (λ x. unwrap_or (option_map kind x) 0) there in
    omega arith

-- ---- handles more and less

shared_same : (side : Side) (o : Opened) → Same o (shared side o)
shared_same Reads o = refl
shared_same Writes o = refl
shared_same Both o = refl

pub left_same : (side : Side) (o : Opened) → (left_by side o).stream ≡ o.stream
left_same Reads o = refl
left_same Writes o = refl
left_same Both o = refl

pub retained_nameless : (held : Held) (opens : Opens) → nameless_in (retained_in held opens) ≡ nameless_in opens
retained_nameless held opens = by (at_name held.row opens) refl
  where
    by : (x : Option Opened) → at_name held.row opens ≡ x → nameless_in (row_shared held x opens) ≡ nameless_in opens
    by None there = refl
    by (Some o) there = nameless_set held.row o (shared held.side o) opens there (shared_same held.side o)

pub all_retained_nameless : (handles : List (ℕ × Held)) (opens : Opens) → nameless_in (all_retained handles opens) ≡ nameless_in opens
all_retained_nameless [] opens = refl
all_retained_nameless (x ∷ handles) opens = all_retained_nameless handles (retained_in x.1 opens) ∙ retained_nameless x.1 opens

abbrev pub Counted : Opens → Stores → Type 0
Counted opens d = d.nameless ≡ nameless_in opens

gone : (stream : Stream) (d : Stores) → (without_scratch stream d).nameless ≡ d.nameless - cond (is_scratch stream) 1 0
gone stream d = by (is_scratch stream)
  where
    by : (b : Bool) → (if b then record d { nameless = d.nameless - 1 } else d).nameless ≡ d.nameless - cond b 1 0
    by true = refl
    by false = omega arith

left_counted : (opens : Opens) (d : Stores) (held : Held) (o : Opened) → at_name held.row opens ≡ Some o → Counted opens d
    → Counted (row_left (reach_of opens d) held.row (left_by held.side o)).opens (row_left (reach_of opens d) held.row (left_by held.side o)).stores
left_counted opens d held o there c = by (is_unheld (left_by held.side o)) refl
  where
    stream : (left_by held.side o).stream ≡ o.stream
    stream = left_same held.side o

    by : (b : Bool) → is_unheld (left_by held.side o) ≡ b → Counted (row_left (reach_of opens d) held.row (left_by held.side o)).opens (row_left (reach_of opens d) held.row (left_by held.side o)).stores
    by true h = rw h (
        let e = gone (left_by held.side o).stream d in
        let k : cond (is_scratch (left_by held.side o).stream) 1 0 ≡ kind o = ap (λ s. cond (is_scratch s) 1 0) stream in
        let t = nameless_drop held.row o opens there in
        let all : (without_scratch (left_by held.side o).stream d).nameless ≡ nameless_in (drop_name held.row opens) = omega arith in
        all)
    by false h = rw h (c ∙ sym (nameless_set held.row o (left_by held.side o) opens there (ap is_scratch stream)))

pub released_counted : (opens : Opens) (d : Stores) (held : Held) → Counted opens d → Counted (released (reach_of opens d) held).opens (released (reach_of opens d) held).stores
released_counted opens d held c = by (at_name held.row opens) refl
  where
    by : (x : Option Opened) → at_name held.row opens ≡ x → Counted (row_released (reach_of opens d) held x).opens (row_released (reach_of opens d) held x).stores
    by None there = c
    by (Some o) there = left_counted opens d held o there c

pub all_released_counted : (handles : List (ℕ × Held)) (opens : Opens) (d : Stores) → Counted opens d → Counted (all_released (reach_of opens d) handles).opens (all_released (reach_of opens d) handles).stores
all_released_counted [] opens d c = c
all_released_counted (x ∷ handles) opens d c = all_released_counted handles (released (reach_of opens d) x.1).opens (released (reach_of opens d) x.1).stores (released_counted opens d x.1 c)

-- ---- what goes through a row

-- the row stays of its kind, and the count stays
abbrev pub KeepsKind : Opened → Stores → RowTurn → Type 0
KeepsKind o d (Says a o' d') = Same o o' × (d'.nameless ≡ d.nameless)
KeepsKind o d Holds = Unit {0}

kind_choice : (o : Opened) (d : Stores) (b : Bool) (x y : RowTurn) → KeepsKind o d x → KeepsKind o d y → KeepsKind o d (if b then x else y)
kind_choice o d true x y h g = h
kind_choice o d false x y h g = g

read_file_kind : (n : Option Node) (path : List ℕ) (place : ℕ) (appends : Bool) (max : ℕ) (o : Opened) (d : Stores) → is_scratch o.stream ≡ false → KeepsKind o d (read_file n path place appends max o d)
read_file_kind None path place appends max o d e = (refl, refl)
read_file_kind (Some node.Folder) path place appends max o d e = (refl, refl)
read_file_kind (Some (node.File bytes writable)) path place appends max o d e = (sym e, refl)
read_file_kind (Some (node.Program output status)) path place appends max o d e = (refl, refl)
read_file_kind (Some node.Null) path place appends max o d e = (refl, refl)

pub read_kind : (s : Stream) (max : ℕ) (o : Opened) (d : Stores) → is_scratch o.stream ≡ is_scratch s → KeepsKind o d (read_stream s max o d)
read_kind (Input place) max o d e = (sym e, refl)
read_kind Output max o d e = (refl, refl)
read_kind Errors max o d e = (refl, refl)
read_kind Null max o d e = (sym e, refl)
read_kind (File path place appends) max o d e = read_file_kind (node_at d.files path) path place appends max o d e
read_kind (Pipe held) max o d e = kind_choice o d (nat_le max (length held) || o.writers == 0) (gives (take max held) (Pipe (drop max held)) o d) Holds (sym e, refl) tt
read_kind (Scratch bytes read_at write_at) max o d e = (sym e, refl)

file_written_kind : (path : List ℕ) (appends : Bool) (o : Opened) (d : Stores) (x : Written Node) → is_scratch o.stream ≡ false → KeepsKind o d (file_written path appends o d x)
file_written_kind path appends o d (Wrote n place) e = (sym e, refl)
file_written_kind path appends o d (Unwritten why) e = (refl, refl)

write_file_kind : (n : Option Node) (path : List ℕ) (place : ℕ) (appends : Bool) (piece : List ℕ) (o : Opened) (d : Stores) → is_scratch o.stream ≡ false → KeepsKind o d (write_file n path place appends piece o d)
write_file_kind None path place appends piece o d e = (refl, refl)
write_file_kind (Some n) path place appends piece o d e = file_written_kind path appends o d (write_node appends place piece n) e

scratch_kind : (read_at : ℕ) (o : Opened) (d : Stores) (x : Written (List ℕ)) → is_scratch o.stream ≡ true → KeepsKind o d (scratch_written read_at o d x)
scratch_kind read_at o d (Wrote bytes place) e = (sym e, refl)
scratch_kind read_at o d (Unwritten why) e = (refl, refl)

pub write_kind : (s : Stream) (piece : List ℕ) (o : Opened) (d : Stores) → is_scratch o.stream ≡ is_scratch s → KeepsKind o d (write_stream s piece o d)
write_kind (Input place) piece o d e = (refl, refl)
write_kind Output piece o d e = (sym e, refl)
write_kind Errors piece o d e = (sym e, refl)
write_kind Null piece o d e = (sym e, refl)
write_kind (File path place appends) piece o d e = write_file_kind (node_at d.files path) path place appends piece o d e
write_kind (Pipe held) piece o d e =
    kind_choice o d (o.readers == 0) (Says (answer.Refused Broken) o d) (if nat_lt most_held (length held + length piece) then Holds else taken (Pipe (held ++ piece)) o d) (refl, refl)
    (kind_choice o d (nat_lt most_held (length held + length piece)) Holds (taken (Pipe (held ++ piece)) o d) tt (sym e, refl))
write_kind (Scratch bytes read_at write_at) piece o d e = scratch_kind read_at o d (write_bytes false write_at piece bytes) e

-- ---- what a new row is

pub for_stream : (side : Side) (s : Stream) → (row_for side s).stream ≡ s
for_stream Reads s = refl
for_stream Writes s = refl
for_stream Both s = refl

opened_stream : (path : List ℕ) (m : Mode) (n : Option Node) → is_scratch (stream_of path m n) ≡ false
opened_stream path m None = refl
opened_stream path m (Some node.Folder) = refl
opened_stream path m (Some (node.File bytes writable)) = refl
opened_stream path m (Some (node.Program output status)) = refl
opened_stream path m (Some node.Null) = refl

-- a file that has a path is none
pub opened_kind : (side : Side) (path : List ℕ) (m : Mode) (n : Option Node) → kind (row_for side (stream_of path m n)) ≡ 0
opened_kind side path m n = ap (λ s. cond (is_scratch s) 1 0) (for_stream side (stream_of path m n)) ∙ ap (λ b. cond b 1 0) (opened_stream path m n)
