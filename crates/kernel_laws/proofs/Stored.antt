-- What a call leaves in files and pipes.
use Rattle.std.proofs.Common.{◌≡◌, refl, sym, ap, subst, ℕ, suc, ◌+◌, ◌-◌, ◌≤◌, ◌||◌, Bool, true, false, List, [], ◌∷◌, ◌++◌, length, take, drop, replicate, Option, Some, None, arith, All, IfSome, nat_lt, nat_le, ◌==◌, length-append, length-drop, length-take, if◌then◌else◌}
use Rattle.std.proofs.lemmas.Bool.Decides.{nat_tests}
use Rattle.std.proofs.lemmas.List.{length-replicate}
use Rattle.std.proofs.lemmas.Map.{length-set_value}
use Rattle.std.proofs.lemmas.Map.Views.{All-map-remove_entry, All-values-insert_entry, All-values-set_value, IfSome-lookup_from_All}
use Rattle.std.specs.BTreeMap.{is_at}
use Rattle.std.specs.Cmp.Lexicographic.{slice_cmp}
use Rattle.std.specs.Map.{values_of}
use Rattle.std.specs.Ordering.{match_ordering, nat_cmp}
use Rattle.std.specs.declared.cmp.Ordering.{Ordering}
use Rattle.std.specs.declared.cmp.Ordering.TheVariants.{Less, Equal, Greater}
use Rattle.kernel_ask.specs.declared.ask.Answer.TheVariants as answer
use Rattle.kernel_ask.specs.declared.ask.Mode.{Mode}
use Rattle.kernel_ask.specs.declared.ask.Mode.TheVariants as mode
use Rattle.kernel_ask.specs.declared.ask.Refusal.TheVariants.{Broken, Io}
use Rattle.kernel_objects.specs.declared.files.Node.{Node}
use Rattle.kernel_objects.specs.declared.files.Node.TheVariants as node
use Rattle.kernel_objects.specs.declared.opened.Held.{Held}
use Rattle.kernel_objects.specs.declared.opened.Opened.{Opened}
use Rattle.kernel_objects.specs.declared.opened.Side.{Side}
use Rattle.kernel_objects.specs.declared.opened.Side.TheVariants.{Reads, Writes, Both}
use Rattle.kernel_objects.specs.declared.opened.Stream.{Stream}
use Rattle.kernel_objects.specs.declared.opened.Stream.TheVariants.{Input, Output, Errors, Null, File, Pipe, Scratch}
use Rattle.kernel_objects.specs.Paths.{FileRows, node_at}
use Rattle.kernel_objects.specs.Rows.{at_name, set_name, put_name, drop_name}
use Rattle.kernel_tables.specs.Overlaid.{overlaid, spread}
use Rattle.kernel_core.specs.declared.kernel.Stores.{Stores}
use Rattle.kernel_core.specs.Forks.{all_retained}
use Rattle.kernel_core.specs.Handles.{all_released, is_scratch, is_unheld, left_by, reach_of, released, retained_in, row_left, row_released, row_shared, shared, without_scratch}
use Rattle.kernel_core.specs.Limits.{most_bytes, most_files, most_held}
use Rattle.kernel_core.specs.Open.{cut_node, files_after, row_for, stream_of}
use Rattle.kernel_core.specs.Transfer.{RowTurn, Says, Holds, Written, Wrote, Unwritten, file_written, gives, is_past, node_written, read_file, read_stream, scratch_written, taken, write_bytes, write_file, write_node, write_place, write_stream, written_from}
use Rattle.kernel_laws.specs.Stored.{HoldsFew, IsSmall}
use Rattle.kernel_laws.proofs.Balance.{Opens}
use Rattle.kernel_laws.proofs.Nameless.{for_stream, left_same}

abbrev pub IsSmallRow : Opened → Type 0
IsSmallRow o = HoldsFew o.stream

-- what is there, P being that the plan was small
pub record Stored (P : Type 0) (opens : Opens) (d : Stores) : Type 0 where
  pub files : All IsSmall (values_of d.files)
  pub rows : All IsSmallRow (values_of opens)
  pub few : P → length d.files + d.nameless ≤ most_files

-- ---- bytes written into a file

spread_length : (place : ℕ) (piece bytes : List ℕ) → length bytes ≤ most_bytes → place + length piece ≤ most_bytes → length (spread place piece bytes) ≤ most_bytes
spread_length place piece bytes h g =
    let a = length-append (take place bytes ++ replicate (place - length bytes) 0) (piece ++ drop (place + length piece) bytes) in
    let b = length-append (take place bytes) (replicate (place - length bytes) 0) in
    let c = length-append piece (drop (place + length piece) bytes) in
    let t = length-take place bytes in
    let r : length (replicate {A = ℕ} (place - length bytes) 0) ≡ place - length bytes = length-replicate (place - length bytes) 0 in
    let e = length-drop (place + length piece) bytes in
    omega arith

overlaid_length : (place : ℕ) (piece bytes : List ℕ) → length bytes ≤ most_bytes → place + length piece ≤ most_bytes → length (overlaid place piece bytes) ≤ most_bytes
overlaid_length place [] bytes h g = h
overlaid_length place (b ∷ bs) bytes h g = spread_length place (b ∷ bs) bytes h g

abbrev IsWritten : {X : Type 0} → (X → Type 0) → Written X → Type 0
IsWritten P (Wrote x place) = P x
IsWritten P (Unwritten why) = Unit {0}

abbrev IsShort : List ℕ → Type 0
IsShort bytes = length bytes ≤ most_bytes

written_short : (at : ℕ) (piece bytes : List ℕ) → IsShort bytes → IsWritten IsShort (written_from at piece bytes)
written_short at piece bytes h = by (is_past at piece) refl
  where
    by : (b : Bool) → is_past at piece ≡ b → IsWritten IsShort (if b then Unwritten Io else Wrote (overlaid at piece bytes) (at + length piece))
    by true e = tt
    by false e = overlaid_length at piece bytes h (let f : nat_lt 16777216 (at + length piece) ≡ false = e in grind (arith, nat_tests))

node_short : (writable : Bool) (x : Written (List ℕ)) → IsWritten IsShort x → IsWritten IsSmall (node_written writable x)
node_short writable (Wrote bytes place) h = h
node_short writable (Unwritten why) h = tt

write_node_small : (appends : Bool) (place : ℕ) (piece : List ℕ) (n : Node) → IsSmall n → IsWritten IsSmall (write_node appends place piece n)
write_node_small appends place piece node.Folder h = tt
write_node_small appends place piece (node.File bytes writable) h = node_short writable (write_bytes appends place piece bytes) (written_short (write_place appends place bytes) piece bytes h)
write_node_small appends place piece (node.Program output status) h = tt
write_node_small appends place piece node.Null h = tt

-- ---- what goes through a row

-- the row holds few, and as many files are there, each small
abbrev pub KeepsFew : Stores → RowTurn → Type 0
KeepsFew d (Says a o d') = IsSmallRow o × All IsSmall (values_of d'.files) × (length d'.files ≡ length d.files) × (d'.nameless ≡ d.nameless)
KeepsFew d Holds = Unit {0}

module _ (d : Stores) (files : All IsSmall (values_of d.files)) where
  read_file_few : (n : Option Node) (path : List ℕ) (place : ℕ) (appends : Bool) (max : ℕ) (o : Opened) → IsSmallRow o → KeepsFew d (read_file n path place appends max o d)
  read_file_few None path place appends max o h = (h, files, refl, refl)
  read_file_few (Some node.Folder) path place appends max o h = (h, files, refl, refl)
  read_file_few (Some (node.File bytes writable)) path place appends max o h = (tt, files, refl, refl)
  read_file_few (Some (node.Program output status)) path place appends max o h = (h, files, refl, refl)
  read_file_few (Some node.Null) path place appends max o h = (h, files, refl, refl)

  few_choice : (b : Bool) (x y : RowTurn) → (b ≡ true → KeepsFew d x) → (b ≡ false → KeepsFew d y) → KeepsFew d (if b then x else y)
  few_choice true x y h g = h refl
  few_choice false x y h g = g refl

  pub read_few : (s : Stream) (max : ℕ) (o : Opened) → IsSmallRow o → HoldsFew s → KeepsFew d (read_stream s max o d)
  read_few (Input place) max o h g = (tt, files, refl, refl)
  read_few Output max o h g = (h, files, refl, refl)
  read_few Errors max o h g = (h, files, refl, refl)
  read_few Null max o h g = (tt, files, refl, refl)
  read_few (File path place appends) max o h g = read_file_few (node_at d.files path) path place appends max o h
  read_few (Pipe held) max o h g = few_choice (nat_le max (length held) || o.writers == 0) (gives (take max held) (Pipe (drop max held)) o d) Holds (λ e. (let l = length-drop max held in omega arith, files, refl, refl)) (λ e. tt)
  read_few (Scratch bytes read_at write_at) max o h g = (g, files, refl, refl)

  file_few : (path : List ℕ) (appends : Bool) (o : Opened) (x : Written Node) → IsSmallRow o → IsWritten IsSmall x → KeepsFew d (file_written path appends o d x)
  file_few path appends o (Wrote n place) h g = (tt, All-values-set_value (is_at (slice_cmp nat_cmp path)) IsSmall d.files n files g, length-set_value (is_at (slice_cmp nat_cmp path)) d.files n, refl)
  file_few path appends o (Unwritten why) h g = (h, files, refl, refl)

  write_file_few : (x : Option Node) (path : List ℕ) (place : ℕ) (appends : Bool) (piece : List ℕ) (o : Opened) → IsSmallRow o → IfSome x IsSmall → KeepsFew d (write_file x path place appends piece o d)
  write_file_few None path place appends piece o h g = (h, files, refl, refl)
  write_file_few (Some n) path place appends piece o h g = file_few path appends o (write_node appends place piece n) h (write_node_small appends place piece n g)

  scratch_few : (read_at : ℕ) (o : Opened) (x : Written (List ℕ)) → IsSmallRow o → IsWritten IsShort x → KeepsFew d (scratch_written read_at o d x)
  scratch_few read_at o (Wrote bytes place) h g = (g, files, refl, refl)
  scratch_few read_at o (Unwritten why) h g = (h, files, refl, refl)

  pub write_few : (s : Stream) (piece : List ℕ) (o : Opened) → IsSmallRow o → HoldsFew s → KeepsFew d (write_stream s piece o d)
  write_few (Input place) piece o h g = (h, files, refl, refl)
  write_few Output piece o h g = (tt, files, refl, refl)
  write_few Errors piece o h g = (tt, files, refl, refl)
  write_few Null piece o h g = (tt, files, refl, refl)
  write_few (File path place appends) piece o h g = write_file_few (node_at d.files path) path place appends piece o h (IfSome-lookup_from_All IsSmall (is_at (slice_cmp nat_cmp path)) d.files files)
  write_few (Pipe held) piece o h g =
      few_choice (o.readers == 0) (Says (answer.Refused Broken) o d) (if nat_lt most_held (length held + length piece) then Holds else taken (Pipe (held ++ piece)) o d) (λ e. (h, files, refl, refl))
      (λ e. few_choice (nat_lt most_held (length held + length piece)) Holds (taken (Pipe (held ++ piece)) o d) (λ f. tt)
      (λ f.
      let l = length-append held piece in
      let n : nat_lt 65536 (length held + length piece) ≡ false = f in
      let m : length held + length piece ≤ 65536 = grind (arith, nat_tests) in
      let fits : length (held ++ piece) ≤ most_held = omega arith in
      (fits, files, refl, refl)))
  write_few (Scratch bytes read_at write_at) piece o h g = scratch_few read_at o (write_bytes false write_at piece bytes) h (written_short write_at piece bytes g)

-- ---- rows

small_at : (row : List ℕ) (o : Opened) (opens : Opens) → All IsSmallRow (values_of opens) → at_name row opens ≡ Some o → IsSmallRow o
small_at row o opens a there = subst (λ x. IfSome x IsSmallRow) there (IfSome-lookup_from_All IsSmallRow (is_at (slice_cmp nat_cmp row)) opens a)

pub rows_set : (row : List ℕ) (o : Opened) (opens : Opens) → All IsSmallRow (values_of opens) → IsSmallRow o → All IsSmallRow (values_of (set_name row o opens))
rows_set row o opens a h = All-values-set_value (is_at (slice_cmp nat_cmp row)) IsSmallRow opens o a h

shared_small : (side : Side) (o : Opened) → IsSmallRow o → IsSmallRow (shared side o)
shared_small Reads o h = h
shared_small Writes o h = h
shared_small Both o h = h

pub retained_rows : (held : Held) (opens : Opens) → All IsSmallRow (values_of opens) → All IsSmallRow (values_of (retained_in held opens))
retained_rows held opens a = by (at_name held.row opens) refl
  where
    by : (x : Option Opened) → at_name held.row opens ≡ x → All IsSmallRow (values_of (row_shared held x opens))
    by None there = a
    by (Some o) there = rows_set held.row (shared held.side o) opens a (shared_small held.side o (small_at held.row o opens a there))

pub all_retained_rows : (handles : List (ℕ × Held)) (opens : Opens) → All IsSmallRow (values_of opens) → All IsSmallRow (values_of (all_retained handles opens))
all_retained_rows [] opens a = a
all_retained_rows (x ∷ handles) opens a = all_retained_rows handles (retained_in x.1 opens) (retained_rows x.1 opens a)

gone_files : (stream : Stream) (d : Stores) → ((without_scratch stream d).files ≡ d.files) × ((without_scratch stream d).nameless ≤ d.nameless)
gone_files stream d = by (is_scratch stream)
  where
    by : (b : Bool) → ((if b then record d { nameless = d.nameless - 1 } else d).files ≡ d.files) × ((if b then record d { nameless = d.nameless - 1 } else d).nameless ≤ d.nameless)
    by true = (refl, omega arith)
    by false = (refl, omega arith)

module _ (P : Type 0) where
  left_stored : (opens : Opens) (d : Stores) (held : Held) (o : Opened) → at_name held.row opens ≡ Some o → Stored P opens d
      → Stored P (row_left (reach_of opens d) held.row (left_by held.side o)).opens (row_left (reach_of opens d) held.row (left_by held.side o)).stores
  left_stored opens d held o there s = by (is_unheld (left_by held.side o)) refl
    where
      small : IsSmallRow (left_by held.side o)
      small = subst HoldsFew (sym (left_same held.side o)) (small_at held.row o opens s.rows there)

      last : Stored P (drop_name held.row opens) (without_scratch (left_by held.side o).stream d)
      last =
          let g = gone_files (left_by held.side o).stream d in
          record {
            files = subst (λ f. All IsSmall (values_of f)) (sym g.0) s.files;
            rows = All-map-remove_entry (is_at (slice_cmp nat_cmp held.row)) (λ e. e.1) IsSmallRow opens s.rows;
            few = λ p. let f = s.few p in let l = ap length g.0 in let m = g.1 in omega arith;
          }

      by : (b : Bool) → is_unheld (left_by held.side o) ≡ b → Stored P (row_left (reach_of opens d) held.row (left_by held.side o)).opens (row_left (reach_of opens d) held.row (left_by held.side o)).stores
      by true h = rw h last
      by false h = rw h (record { files = s.files; rows = rows_set held.row (left_by held.side o) opens s.rows small; few = s.few })

  pub released_stored : (opens : Opens) (d : Stores) (held : Held) → Stored P opens d → Stored P (released (reach_of opens d) held).opens (released (reach_of opens d) held).stores
  released_stored opens d held s = by (at_name held.row opens) refl
    where
      by : (x : Option Opened) → at_name held.row opens ≡ x → Stored P (row_released (reach_of opens d) held x).opens (row_released (reach_of opens d) held x).stores
      by None there = s
      by (Some o) there = left_stored opens d held o there s

  pub all_released_stored : (handles : List (ℕ × Held)) (opens : Opens) (d : Stores) → Stored P opens d → Stored P (all_released (reach_of opens d) handles).opens (all_released (reach_of opens d) handles).stores
  all_released_stored [] opens d s = s
  all_released_stored (x ∷ handles) opens d s = all_released_stored handles (released (reach_of opens d) x.1).opens (released (reach_of opens d) x.1).stores (released_stored opens d x.1 s)

-- ---- a file is opened

put_length : {X : Type 0} (path : List ℕ) (x : X) (rows : List (List ℕ × X)) → length (put_name path x rows) ≤ length rows + 1
put_length path x [] = omega arith
put_length {X = X} path x (e ∷ rows) = by (slice_cmp nat_cmp path e.0) (put_length path x rows)
  where
    by : (r : Ordering) → length (put_name path x rows) ≤ length rows + 1 → length (match_ordering r ((path, x) ∷ e ∷ rows) ((e.0, x) ∷ rows) (e ∷ put_name path x rows)) ≤ suc (length rows) + 1
    by Less h = omega arith
    by Equal h = omega arith
    by Greater h = omega arith

pub put_most : {X : Type 0} (path : List ℕ) (x : X) (rows : List (List ℕ × X)) → length (put_name path x rows) ≤ length rows + 1
put_most path x rows = put_length path x rows

cut_small : (n : Node) → IsSmall (cut_node n)
cut_small node.Folder = tt
cut_small (node.File bytes writable) = omega arith
cut_small (node.Program output status) = tt
cut_small node.Null = tt

-- the files afterwards are small, and one more at most, if the file was missing
pub record After (files files' : FileRows) (missing : Type 0) : Type 0 where
  pub small : All IsSmall (values_of files')
  pub many : length files' ≤ length files + 1
  pub same : missing → length files' ≡ length files

abbrev pub IsThere : Option Node → Type 0
IsThere None = ⊥
IsThere (Some n) = Unit {0}

kept_files : (files : FileRows) → All IsSmall (values_of files) → (T : Type 0) → After files files T
kept_files files a T = record { small = a; many = omega arith; same = λ t. refl }

pub after_open : (path : List ℕ) (m : Mode) (n : Option Node) (files : FileRows) → All IsSmall (values_of files) → After files (files_after path m n files) (IsThere n)
after_open path m None files a = record {
  small = All-values-insert_entry (slice_cmp nat_cmp) path (node.File [] true) IsSmall files a (omega arith);
  many = put_length path (node.File [] true) files;
  same = λ no. absurd no;
}
after_open path mode.Write (Some n) files a =
    let l = length-set_value (is_at (slice_cmp nat_cmp path)) files (cut_node n) in
    record { small = All-values-set_value (is_at (slice_cmp nat_cmp path)) IsSmall files (cut_node n) a (cut_small n); many = omega arith; same = λ t. l }
after_open path mode.Read (Some n) files a = kept_files files a (Unit {0})
after_open path mode.Append (Some n) files a = kept_files files a (Unit {0})
after_open path mode.ReadWrite (Some n) files a = kept_files files a (Unit {0})
after_open path mode.New (Some n) files a = kept_files files a (Unit {0})
after_open path mode.Scratch (Some n) files a = kept_files files a (Unit {0})

stream_small : (path : List ℕ) (m : Mode) (n : Option Node) → HoldsFew (stream_of path m n)
stream_small path m None = tt
stream_small path m (Some node.Folder) = tt
stream_small path m (Some (node.File bytes writable)) = tt
stream_small path m (Some (node.Program output status)) = tt
stream_small path m (Some node.Null) = tt

pub opened_small : (side : Side) (path : List ℕ) (m : Mode) (n : Option Node) → IsSmallRow (row_for side (stream_of path m n))
opened_small side path m n = subst HoldsFew (sym (for_stream side (stream_of path m n))) (stream_small path m n)
