-- Each call leaves files and pipes within their limits.
use Rattle.std.proofs.Common.{◌≡◌, refl, sym, subst, ℕ, suc, ◌+◌, ◌<◌, ◌≤◌, ◌||◌, ◌&&◌, not, Bool, true, false, List, [], ◌∷◌, length, Option, Some, None, Result, Ok, Err, arith, All, IfSome, is_none, is_some, if◌then◌else◌, nat_le, nat_lt}
use Rattle.std.proofs.lemmas.Bool.Decides.{nat_tests}
use Rattle.std.proofs.lemmas.List.Elements.{All-cons, All-nil}
use Rattle.std.proofs.lemmas.Map.Views.{All-values-insert_entry, IfSome-lookup_from_All}
use Rattle.std.specs.BTreeMap.{is_at}
use Rattle.std.specs.Cmp.Lexicographic.{slice_cmp}
use Rattle.std.specs.Map.{values_of}
use Rattle.std.specs.Ordering.{nat_cmp}
use Rattle.kernel_ask.specs.declared.ask.Answer.{Answer}
use Rattle.kernel_ask.specs.declared.ask.Answer.TheVariants as answer
use Rattle.kernel_ask.specs.declared.ask.Ask.{Ask}
use Rattle.kernel_ask.specs.declared.ask.Ask.TheVariants.{Asked, Fork, Begin, WaitShell}
use Rattle.kernel_ask.specs.declared.ask.Call.{Call}
use Rattle.kernel_ask.specs.declared.ask.Call.TheVariants as call
use Rattle.kernel_ask.specs.declared.ask.Handle.{Handle}
use Rattle.kernel_ask.specs.declared.ask.Mode.{Mode}
use Rattle.kernel_ask.specs.declared.ask.Mode.TheVariants as mode
use Rattle.kernel_ask.specs.declared.ask.Phase.{Phase}
use Rattle.kernel_ask.specs.declared.ask.Phase.TheVariants.{Begun, Unrun, Waited}
use Rattle.kernel_ask.specs.declared.ask.Program.{Program}
use Rattle.kernel_ask.specs.declared.ask.Refusal.{Refusal}
use Rattle.kernel_objects.specs.declared.files.Node.{Node}
use Rattle.kernel_objects.specs.declared.opened.Held.{Held}
use Rattle.kernel_objects.specs.declared.opened.Opened.{Opened}
use Rattle.kernel_objects.specs.declared.opened.Side.TheVariants.{Reads, Writes}
use Rattle.kernel_objects.specs.declared.opened.Stream.TheVariants as stream
use Rattle.kernel_objects.specs.declared.plan.BoxEntry.{BoxEntry}
use Rattle.kernel_objects.specs.declared.plan.BoxEntry.TheVariants as entry
use Rattle.kernel_objects.specs.declared.plan.BoxFault.{BoxFault}
use Rattle.kernel_objects.specs.declared.plan.BoxFault.TheVariants.{BadPath, Doubled, NoFolder, TooLong}
use Rattle.kernel_objects.specs.declared.plan.BoxPlan.{BoxPlan}
use Rattle.kernel_objects.specs.declared.shell.Forked.{Forked}
use Rattle.kernel_objects.specs.declared.shell.Shell.{Shell}
use Rattle.kernel_objects.specs.Paths.{FileRows, node_at, prefix_refusal}
use Rattle.kernel_objects.specs.Rows.{at_name, at_number, put_name, set_name}
use Rattle.kernel_core.specs.declared.kernel.Kernel.{Kernel}
use Rattle.kernel_core.specs.declared.kernel.Stores.{Stores}
use Rattle.kernel_core.specs.declared.programs.Run.{Run}
use Rattle.kernel_core.specs.Files.{is_full}
use Rattle.kernel_core.specs.Forks.{fork_kept, fork_turn, has_begun, kept_from, phase_set_in, poll_fork, poll_turn}
use Rattle.kernel_core.specs.Handles.{close_held, close_turn, dup_held, dup_turn, ended_by, is_reading, is_writing, lacks_handles}
use Rattle.kernel_core.specs.Limits.{most_files, most_number, most_shells}
use Rattle.kernel_core.specs.Look.{list_refusal, list_turn, stat_node, stat_turn}
use Rattle.kernel_core.specs.Open.{files_after, next_row, node_refusal, open_by, open_node, open_turn, pipe_turn, row_for, row_of_two, scratch_by, side_of, stream_of, too_many}
use Rattle.kernel_core.specs.Opening.{fault_at, files_from, is_long, is_plain, node_of, opened_files, opening, plan_files, unless_fault}
use Rattle.kernel_core.specs.Programs.{on_output, output_of, run_of, start_output, start_refusal, start_row, start_run, start_turn, wait_program_turn, wait_status}
use Rattle.kernel_core.specs.Step.{Marks, Row, call_turn}
use Rattle.kernel_core.specs.Transfer.{RowTurn, Says, Holds, by_held, by_row, held_for, on_row, read_turn, write_stream, write_turn}
use Rattle.kernel_core.specs.Turn.{Turn, Answers, Waits, by_shell, unless}
use Rattle.kernel_laws.specs.Stored.{HasFewFiles, IsSmall, StoresFew}
use Rattle.kernel_laws.specs.Reached.{Reached, Opens, Asks, Ends}
use Rattle.kernel_laws.proofs.Moves.{second_false}
use Rattle.kernel_laws.proofs.Stored.{IsSmallRow, KeepsFew, Stored, after_open, all_released_stored, all_retained_rows, opened_small, put_most, read_few, released_stored, retained_rows, rows_set, write_few}
use Rattle.kernel_laws.proofs.Turns.{room}

abbrev IsStored : Type 0 → Kernel → Type 0
IsStored P k = Stored P k.opens k.stores

module _ (P : Type 0) where
  abbrev Keeps : Turn → Type 0
  Keeps (Answers a k) = Stored P k.opens k.stores
  Keeps Waits = Unit {0}

  choice_keeps : (b : Bool) (x y : Turn) → Keeps x → Keeps y → Keeps (if b then x else y)
  choice_keeps true x y h g = h
  choice_keeps false x y h g = g

  by_shell_keeps : (o : Option Shell) (f : Shell → Turn) → ((s : Shell) → Keeps (f s)) → Keeps (by_shell o f)
  by_shell_keeps None f h = tt
  by_shell_keeps (Some s) f h = h s

  module _ (k : Kernel) (stored : Stored P k.opens k.stores) where
    unless_keeps : (why : Option Refusal) (turn : Turn) → (why ≡ None → Keeps turn) → Keeps (unless k why turn)
    unless_keeps (Some why) turn h = stored
    unless_keeps None turn h = h refl

    row_stored : (row : List ℕ) (o' : Opened) (d : Stores) → IsSmallRow o' → All IsSmall (values_of d.files) → length d.files ≡ length k.stores.files → d.nameless ≡ k.stores.nameless → Stored P (set_name row o' k.opens) d
    row_stored row o' d small files many nameless = record {
      files = files;
      rows = rows_set row o' k.opens stored.rows small;
      few = λ p. let f = stored.few p in omega arith;
    }

    on_row_keeps : (row : List ℕ) (turn : RowTurn) → KeepsFew k.stores turn → Keeps (on_row k row turn)
    on_row_keeps row (Says a o' d) h = row_stored row o' d h.0 h.1 h.2 h.3
    on_row_keeps row Holds h = tt

    small_row : (row : List ℕ) (o : Opened) → at_name row k.opens ≡ Some o → IsSmallRow o
    small_row row o there = subst (λ x. IfSome x IsSmallRow) there (IfSome-lookup_from_All IsSmallRow (is_at (slice_cmp nat_cmp row)) k.opens stored.rows)

    by_row_keeps : (row : List ℕ) (x : Option Opened) (f : Opened → RowTurn) → at_name row k.opens ≡ x → ((o : Opened) → IsSmallRow o → KeepsFew k.stores (f o)) → Keeps (by_row k row x f)
    by_row_keeps row None f there h = stored
    by_row_keeps row (Some o) f there h = on_row_keeps row (f o) (h o (small_row row o there))

    by_held_keeps : (x : Option Held) (f : Opened → RowTurn) → ((o : Opened) → IsSmallRow o → KeepsFew k.stores (f o)) → Keeps (by_held k x f)
    by_held_keeps None f h = stored
    by_held_keeps (Some held) f h = by_row_keeps held.row (at_name held.row k.opens) f refl h

    stat_node_keeps : (n : Option Node) → Keeps (stat_node k n)
    stat_node_keeps None = stored
    stat_node_keeps (Some n) = stored

    stat_keeps : (who path : List ℕ) → Keeps (stat_turn k who path)
    stat_keeps who path = by_shell_keeps (at_name who k.shells) _ (λ s. unless_keeps (prefix_refusal k.stores.files path) _ (λ e. stat_node_keeps (node_at k.stores.files path)))

    list_keeps : (who path : List ℕ) → Keeps (list_turn k who path)
    list_keeps who path = by_shell_keeps (at_name who k.shells) _ (λ s. unless_keeps (list_refusal (prefix_refusal k.stores.files path) (node_at k.stores.files path)) _ (λ e. stored))

    poll_fork_keeps : (f : Option Forked) → Keeps (poll_fork k f)
    poll_fork_keeps None = stored
    poll_fork_keeps (Some f) = choice_keeps (has_begun f.phase) _ _ stored stored

    poll_keeps : (who : List ℕ) (child : ℕ) → Keeps (poll_turn k who child)
    poll_keeps who child = by_shell_keeps (at_name who k.shells) _ (λ s. poll_fork_keeps (at_number child s.forks))

    read_turn_keeps : (who : List ℕ) (h : Handle) (max : ℕ) → Keeps (read_turn k who h max)
    read_turn_keeps who h max = by_shell_keeps (at_name who k.shells) _ (λ s. by_held_keeps (held_for is_reading (at_number h.0 s.handles)) _ (λ o small. read_few k.stores stored.files o.stream max o small small))

    write_turn_keeps : (who : List ℕ) (h : Handle) (piece : List ℕ) → Keeps (write_turn k who h piece)
    write_turn_keeps who h piece = by_shell_keeps (at_name who k.shells) _ (λ s. by_held_keeps (held_for is_writing (at_number h.0 s.handles)) _ (λ o small. write_few k.stores stored.files o.stream piece o small small))

    dup_held_keeps : (who : List ℕ) (s : Shell) (x : Option Held) → Keeps (dup_held k who s x)
    dup_held_keeps who s None = stored
    dup_held_keeps who s (Some held) = choice_keeps (lacks_handles s 1) _ _ stored (record { files = stored.files; rows = retained_rows held k.opens stored.rows; few = stored.few })

    dup_keeps : (who : List ℕ) (h : Handle) → Keeps (dup_turn k who h)
    dup_keeps who h = by_shell_keeps (at_name who k.shells) _ (λ s. dup_held_keeps who s (at_number h.0 s.handles))

    close_held_keeps : (who : List ℕ) (s : Shell) (n : ℕ) (x : Option Held) → Keeps (close_held k who s n x)
    close_held_keeps who s n None = stored
    close_held_keeps who s n (Some held) = released_stored P k.opens k.stores held stored

    close_keeps : (who : List ℕ) (h : Handle) → Keeps (close_turn k who h)
    close_keeps who h = by_shell_keeps (at_name who k.shells) _ (λ s. close_held_keeps who s h.0 (at_number h.0 s.handles))

    on_output_keeps : (who : List ℕ) (s : Shell) (status : ℕ) (row : List ℕ) (turn : RowTurn) → KeepsFew k.stores turn → Keeps (on_output k who s status row turn)
    on_output_keeps who s status row (Says answer.Taken o' d) h = row_stored row o' d h.0 h.1 h.2 h.3
    on_output_keeps who s status row (Says a o' d) h = row_stored row o' d h.0 h.1 h.2 h.3
    on_output_keeps who s status row Holds h = tt

    start_row_keeps : (who : List ℕ) (s : Shell) (run : Run) (row : List ℕ) (x : Option Opened) → at_name row k.opens ≡ x → Keeps (start_row k who s run row x)
    start_row_keeps who s run row None there = stored
    start_row_keeps who s run row (Some o) there = let small = small_row row o there in on_output_keeps who s run.status row (write_stream o.stream run.output o k.stores) (write_few k.stores stored.files o.stream run.output o small small)

    start_output_keeps : (who : List ℕ) (s : Shell) (run : Run) (x : Option Held) → Keeps (start_output k who s run x)
    start_output_keeps who s run None = stored
    start_output_keeps who s run (Some held) = start_row_keeps who s run held.row (at_name held.row k.opens) refl

    start_run_keeps : (who : List ℕ) (s : Shell) (p : Program) (x : Result Run Refusal) → Keeps (start_run k who s p x)
    start_run_keeps who s p (Err why) = stored
    start_run_keeps who s p (Ok run) = unless_keeps (start_refusal s p) _ (λ e. start_output_keeps who s run (output_of s p.output))

    start_keeps : (who : List ℕ) (p : Program) → Keeps (start_turn k who p)
    start_keeps who p = by_shell_keeps (at_name who k.shells) _ (λ s. unless_keeps (prefix_refusal k.stores.files p.path) _ (λ e. start_run_keeps who s p (run_of (node_at k.stores.files p.path))))

    wait_status_keeps : (who : List ℕ) (s : Shell) (n : ℕ) (x : Option ℕ) → Keeps (wait_status k who s n x)
    wait_status_keeps who s n None = stored
    wait_status_keeps who s n (Some status) = stored

    wait_program_keeps : (who : List ℕ) (n : ℕ) → Keeps (wait_program_turn k who n)
    wait_program_keeps who n = by_shell_keeps (at_name who k.shells) _ (λ s. wait_status_keeps who s n (at_number n s.programs))

    fork_kept_keeps : (who : List ℕ) (s : Shell) (x : Option (List (ℕ × Held))) → Keeps (fork_kept k who s x)
    fork_kept_keeps who s None = stored
    fork_kept_keeps who s (Some handles) = record { files = stored.files; rows = all_retained_rows handles k.opens stored.rows; few = stored.few }

    fork_keeps : (who : List ℕ) (keep : List Handle) → Keeps (fork_turn k who keep)
    fork_keeps who keep = by_shell_keeps (at_name who k.shells) _ (λ s. unless_keeps (too_many (nat_le most_shells (length k.shells) || nat_le most_number (length s.forks))) _ (λ e. fork_kept_keeps who s (kept_from s.handles keep [])))

    phase_set_keeps : (who : List ℕ) (child : ℕ) (p : Phase) (x : Option Shell) → IsStored P (phase_set_in k who child p x)
    phase_set_keeps who child p None = stored
    phase_set_keeps who child p (Some s) = stored

    ended_by_keeps : (who : List ℕ) (x : Option Shell) → IsStored P (ended_by k who x)
    ended_by_keeps who None = stored
    ended_by_keeps who (Some s) = all_released_stored P s.handles k.opens k.stores stored

    -- ---- new rows

    rows_entered : (who : List ℕ) (s : Shell) (o : Opened) → IsSmallRow o → All IsSmallRow (values_of (put_name (next_row who s) o k.opens))
    rows_entered who s o small = All-values-insert_entry (slice_cmp nat_cmp) (next_row who s) o IsSmallRow k.opens stored.rows small

    pipe_keeps : (who : List ℕ) → Keeps (pipe_turn k who)
    pipe_keeps who = by_shell_keeps (at_name who k.shells) _ (λ s. unless_keeps (too_many (lacks_handles s 2)) _ (λ e.
        record { files = stored.files; rows = rows_entered who s (row_of_two (stream.Pipe [])) (omega arith); few = stored.few }))

    -- there is room for a file
    room_left : is_full k.stores ≡ false → length k.stores.files + k.stores.nameless < most_files
    room_left e = let f : nat_le 65536 (length k.stores.files + k.stores.nameless) ≡ false = e in grind (arith, nat_tests)

    scratch_keeps : (who : List ℕ) (s : Shell) → Keeps (scratch_by k who s)
    scratch_keeps who s = unless_keeps (too_many (lacks_handles s 2 || is_full k.stores)) _ (λ e.
        let left = room_left (second_false (lacks_handles s 2) (is_full k.stores) (room (lacks_handles s 2 || is_full k.stores) e)) in
        record { files = stored.files; rows = rows_entered who s (row_of_two (stream.Scratch [] 0 0)) (omega arith); few = λ p. omega arith })

    few_after : (path : List ℕ) (m : Mode) (n : Option Node) → (is_none n && is_full k.stores) ≡ false → P → length (files_after path m n k.stores.files) + k.stores.nameless ≤ most_files
    few_after path m None e p = let a = after_open path m None k.stores.files stored.files in let l = room_left e in let n = a.many in omega arith
    few_after path m (Some n) e p = let a = after_open path m (Some n) k.stores.files stored.files in let l = a.same tt in let f = stored.few p in omega arith

    open_node_keeps : (who : List ℕ) (s : Shell) (path : List ℕ) (m : Mode) (n : Option Node) → Keeps (open_node k who s path m n)
    open_node_keeps who s path m n =
        unless_keeps (prefix_refusal k.stores.files path) _ (λ a.
        unless_keeps (node_refusal m n) _ (λ b.
        unless_keeps (too_many (lacks_handles s 1 || (is_none n && is_full k.stores))) _ (λ e.
        record {
          files = let a = after_open path m n k.stores.files stored.files in a.small;
          rows = rows_entered who s (row_for (side_of m) (stream_of path m n)) (opened_small (side_of m) path m n);
          few = few_after path m n (second_false (lacks_handles s 1) (is_none n && is_full k.stores) (room (lacks_handles s 1 || (is_none n && is_full k.stores)) e));
        })))

    open_by_keeps : (who : List ℕ) (s : Shell) (path : List ℕ) (m : Mode) → Keeps (open_by k who s path m)
    open_by_keeps who s path mode.Read = open_node_keeps who s path mode.Read (node_at k.stores.files path)
    open_by_keeps who s path mode.Write = open_node_keeps who s path mode.Write (node_at k.stores.files path)
    open_by_keeps who s path mode.Append = open_node_keeps who s path mode.Append (node_at k.stores.files path)
    open_by_keeps who s path mode.ReadWrite = open_node_keeps who s path mode.ReadWrite (node_at k.stores.files path)
    open_by_keeps who s path mode.New = open_node_keeps who s path mode.New (node_at k.stores.files path)
    open_by_keeps who s path mode.Scratch = scratch_keeps who s

    open_keeps : (who path : List ℕ) (m : Mode) → Keeps (open_turn k who path m)
    open_keeps who path m = by_shell_keeps (at_name who k.shells) _ (λ s. open_by_keeps who s path m)

    call_keeps : (who : List ℕ) (c : Call) → Keeps (call_turn k who c)
    call_keeps who (call.Open path mode) = open_keeps who path mode
    call_keeps who (call.Read handle max) = read_turn_keeps who handle max
    call_keeps who (call.Write handle bytes) = write_turn_keeps who handle bytes
    call_keeps who call.Pipe = pipe_keeps who
    call_keeps who (call.Dup handle) = dup_keeps who handle
    call_keeps who (call.Close handle) = close_keeps who handle
    call_keeps who (call.List path) = list_keeps who path
    call_keeps who (call.Stat path) = stat_keeps who path
    call_keeps who (call.Start program) = start_keeps who program
    call_keeps who (call.WaitProgram number) = wait_program_keeps who number
    call_keeps who (call.Poll child) = poll_keeps who child

    marks_keeps : (who : List ℕ) (child : ℕ) (a : Answer) (new : Kernel) → Marks k who child a new → IsStored P new
    marks_keeps who child answer.Begun new h = subst (IsStored P) (sym h) (phase_set_keeps who child Begun (at_name who k.shells))
    marks_keeps who child answer.NoThread new h = subst (IsStored P) (sym h) (phase_set_keeps who child Unrun (at_name who k.shells))
    marks_keeps who child a new h = absurd h

    row_keeps : {F : Type 0} (who : List ℕ) (ask : Ask F) (a : Answer) (new : Kernel) → Row k who ask a new → IsStored P new
    row_keeps who (Asked c) a new h = subst Keeps h (call_keeps who c)
    row_keeps who (Fork start keep) a new h = subst Keeps h (fork_keeps who keep)
    row_keeps who (Begin child) a new h = marks_keeps who child a new h.marks
    row_keeps who (WaitShell child) a new h = subst (IsStored P) (sym h.waits) (phase_set_keeps who child Waited (at_name who k.shells))

-- ---- the box opens

not_long : (a b c l : Bool) (x y z w : BoxFault) → (if a then Some x else (if b then Some y else (if c then Some z else (if l then Some w else None)))) ≡ None → l ≡ false
not_long true b c l x y z w h = absurd cc
not_long false true c l x y z w h = absurd cc
not_long false false true l x y z w h = absurd cc
not_long false false false true x y z w h = absurd cc
not_long false false false false x y z w h = refl

entry_small : (e : BoxEntry) → is_long e ≡ false → IsSmall (node_of e)
entry_small entry.Folder h = tt
entry_small (entry.Plain bytes writable) h = let f : nat_lt 16777216 (length bytes) ≡ false = h in grind (arith, nat_tests)
entry_small (entry.Program output status) h = tt
entry_small entry.Null h = tt

-- the files at last are small, and no more than the entries
record Begun_with (most : ℕ) (files : FileRows) : Type 0 where
  small : All IsSmall (values_of files)
  many : length files ≤ most

files_begun : (i : ℕ) (files : FileRows) (es : List (List ℕ × BoxEntry)) (last : FileRows) (most : ℕ) → All IsSmall (values_of files) → length files + length es ≤ most → files_from i files es ≡ Ok last → Begun_with most last
files_begun i files [] last most a n h = subst (Begun_with most) (let same : files ≡ last = cc in same) (record { small = a; many = omega arith })
files_begun i files (e ∷ es) last most a n h = by (fault_at i files e.0 e.1) refl h
    (λ l g. files_begun (suc i) (put_name e.0 (node_of e.1) files) es last most (All-values-insert_entry (slice_cmp nat_cmp) e.0 (node_of e.1) IsSmall files a (entry_small e.1 l)) (let p = put_most e.0 (node_of e.1) files in omega arith) g)
  where
    by : (f : Option BoxFault) → fault_at i files e.0 e.1 ≡ f → unless_fault f (files_from (suc i) (put_name e.0 (node_of e.1) files) es) ≡ Ok last
        → (is_long e.1 ≡ false → files_from (suc i) (put_name e.0 (node_of e.1) files) es ≡ Ok last → Begun_with most last) → Begun_with most last
    by (Some fault) q g next = absurd cc
    by None q g next = next (not_long (not (is_plain e.0)) (is_some (node_at files e.0)) (is_some (prefix_refusal files e.0)) (is_long e.1) (BadPath i) (Doubled i) (NoFolder i) (TooLong i) q) g

opened_stored : (P : Type 0) (most : ℕ) → (P → most ≤ most_files) → (input : List ℕ) (files : Result FileRows BoxFault) (k : Kernel) → ((last : FileRows) → files ≡ Ok last → Begun_with most last) → opened_files input files ≡ Ok k → IsStored P k
opened_stored P most low input (Ok files) k begun e =
    let same : opening files input ≡ k = cc in
    let b = begun files refl in
    subst (IsStored P) same (record {
      files = b.small;
      rows = All-cons IsSmallRow (row_for Reads (stream.Input 0)) (row_for Writes stream.Output ∷ row_for Writes stream.Errors ∷ []) tt
          (All-cons IsSmallRow (row_for Writes stream.Output) (row_for Writes stream.Errors ∷ []) tt (All-cons IsSmallRow (row_for Writes stream.Errors) [] tt (All-nil IsSmallRow)));
      few = λ p. let l = low p in let m = b.many in omega arith;
    })
opened_stored P most low input (Err fault) k begun e = absurd cc

stored : {F : Type 0} (plan : BoxPlan) (k : Kernel) → Reached F plan k → IsStored (length plan.entries ≤ most_files) k
stored plan k (Opens same e) =
    opened_stored (length plan.entries ≤ most_files) (length plan.entries) (λ p. p) plan.input (plan_files plan.entries) same (λ last q. files_begun 0 [] plan.entries last (length plan.entries) (All-nil IsSmall) (omega arith) q) e
stored plan now (Asks k who ask a new before step) = row_keeps (length plan.entries ≤ most_files) k (stored plan k before) who ask a new step.row
stored plan now (Ends k who new before live e) = subst (IsStored (length plan.entries ≤ most_files)) (sym e) (ended_by_keeps (length plan.entries ≤ most_files) k (stored plan k before) who (at_name who k.shells))

pub stores_few : (F : Type 0) → StoresFew F
stores_few F plan k reached =
    let s = stored plan k reached in
    (λ path. IfSome-lookup_from_All IsSmall (is_at (slice_cmp nat_cmp path)) k.stores.files s.files, λ row. IfSome-lookup_from_All IsSmallRow (is_at (slice_cmp nat_cmp row)) k.opens s.rows)

pub few_files : (F : Type 0) → HasFewFiles F
few_files F plan k reached p = let s = stored plan k reached in s.few p
