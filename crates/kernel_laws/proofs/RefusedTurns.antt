-- A call that is refused leaves the kernel as it was.
use Rattle.std.proofs.Common.{◌≡◌, refl, ap, ◌∙◌, subst, ℕ, ◌+◌, ◌||◌, ◌&&◌, Bool, true, false, List, [], ◌++◌, length, take, drop, Option, Some, None, Result, Ok, Err, is_none, if◌then◌else◌, nat_le, nat_lt, ◌==◌}
use Rattle.std.proofs.lemmas.Map.Steps.{set_value_same}
use Rattle.std.specs.BTreeMap.{is_at}
use Rattle.std.specs.Cmp.Lexicographic.{slice_cmp}
use Rattle.std.specs.Ordering.{nat_cmp}
use Rattle.kernel_ask.specs.declared.ask.Answer.{Answer}
use Rattle.kernel_ask.specs.declared.ask.Answer.TheVariants as answer
use Rattle.kernel_ask.specs.declared.ask.Ask.{Ask}
use Rattle.kernel_ask.specs.declared.ask.Ask.TheVariants.{Asked, Fork, Begin, WaitShell}
use Rattle.kernel_ask.specs.declared.ask.Call.{Call}
use Rattle.kernel_ask.specs.declared.ask.Call.TheVariants as call
use Rattle.kernel_ask.specs.declared.ask.Handle.{Handle}
use Rattle.kernel_ask.specs.declared.ask.Mode.{Mode}
use Rattle.kernel_ask.specs.declared.ask.Mode.TheVariants as mode
use Rattle.kernel_ask.specs.declared.ask.Program.{Program}
use Rattle.kernel_ask.specs.declared.ask.Refusal.{Refusal}
use Rattle.kernel_ask.specs.declared.ask.Refusal.TheVariants.{Broken}
use Rattle.kernel_objects.specs.declared.files.Node.{Node}
use Rattle.kernel_objects.specs.declared.files.Node.TheVariants as node
use Rattle.kernel_objects.specs.declared.opened.Held.{Held}
use Rattle.kernel_objects.specs.declared.opened.Opened.{Opened}
use Rattle.kernel_objects.specs.declared.opened.Stream.{Stream}
use Rattle.kernel_objects.specs.declared.opened.Stream.TheVariants.{Input, Output, Errors, Null, File, Pipe, Scratch}
use Rattle.kernel_objects.specs.declared.shell.Forked.{Forked}
use Rattle.kernel_objects.specs.declared.shell.Shell.{Shell}
use Rattle.kernel_objects.specs.Paths.{node_at, prefix_refusal}
use Rattle.kernel_objects.specs.Rows.{at_name, at_number, set_name}
use Rattle.kernel_core.specs.declared.kernel.Kernel.{Kernel}
use Rattle.kernel_core.specs.declared.kernel.Stores.{Stores}
use Rattle.kernel_core.specs.declared.programs.Run.{Run}
use Rattle.kernel_core.specs.Files.{is_full}
use Rattle.kernel_core.specs.Forks.{fork_kept, fork_turn, has_begun, kept_from, lives, poll_fork, poll_turn}
use Rattle.kernel_core.specs.Handles.{close_held, close_turn, dup_held, dup_turn, is_reading, is_writing, lacks_handles}
use Rattle.kernel_core.specs.Limits.{most_held, most_number, most_shells}
use Rattle.kernel_core.specs.Look.{list_refusal, list_turn, stat_node, stat_turn}
use Rattle.kernel_core.specs.Open.{node_refusal, open_by, open_node, open_turn, pipe_turn, scratch_by, too_many}
use Rattle.kernel_core.specs.Programs.{on_output, output_of, run_of, start_output, start_refusal, start_row, start_run, start_turn, wait_program_turn, wait_status}
use Rattle.kernel_core.specs.Step.{Row, call_turn}
use Rattle.kernel_core.specs.Transfer.{RowTurn, Says, Holds, Written, Wrote, Unwritten, by_held, by_row, file_written, gives, held_for, on_row, read_file, read_stream, read_turn, scratch_written, taken, write_bytes, write_file, write_node, write_stream, write_turn}
use Rattle.kernel_core.specs.Turn.{Turn, Answers, Waits, by_shell, unless}
use Rattle.kernel_laws.specs.Refusals.{RefusalsKeep}

abbrev IfRefused : Answer → Type 0 → Type 0
IfRefused (answer.Refused why) T = T
IfRefused a T = Unit {0}

if_refused : (a : Answer) (T S : Type 0) → (T → S) → IfRefused a T → IfRefused a S
if_refused (answer.Refused why) T S f h = f h
if_refused a T S f h = tt

-- a refused ask on a row leaves the row and the stores
abbrev RowKeeps : Opened → Stores → RowTurn → Type 0
RowKeeps o d (Says a o' d') = IfRefused a ((o' ≡ o) × (d' ≡ d))
RowKeeps o d Holds = Unit {0}

row_choice : (o : Opened) (d : Stores) (b : Bool) (x y : RowTurn) → RowKeeps o d x → RowKeeps o d y → RowKeeps o d (if b then x else y)
row_choice o d true x y h g = h
row_choice o d false x y h g = g

read_file_keeps : (n : Option Node) (path : List ℕ) (place : ℕ) (appends : Bool) (max : ℕ) (o : Opened) (d : Stores) → RowKeeps o d (read_file n path place appends max o d)
read_file_keeps None path place appends max o d = (refl, refl)
read_file_keeps (Some node.Folder) path place appends max o d = (refl, refl)
read_file_keeps (Some (node.File bytes writable)) path place appends max o d = tt
read_file_keeps (Some (node.Program output status)) path place appends max o d = (refl, refl)
read_file_keeps (Some node.Null) path place appends max o d = (refl, refl)

read_keeps : (s : Stream) (max : ℕ) (o : Opened) (d : Stores) → RowKeeps o d (read_stream s max o d)
read_keeps (Input place) max o d = tt
read_keeps Output max o d = (refl, refl)
read_keeps Errors max o d = (refl, refl)
read_keeps Null max o d = tt
read_keeps (File path place appends) max o d = read_file_keeps (node_at d.files path) path place appends max o d
read_keeps (Pipe held) max o d = row_choice o d (nat_le max (length held) || o.writers == 0) (gives (take max held) (Pipe (drop max held)) o d) Holds tt tt
read_keeps (Scratch bytes read_at write_at) max o d = tt

file_written_keeps : (path : List ℕ) (appends : Bool) (o : Opened) (d : Stores) (x : Written Node) → RowKeeps o d (file_written path appends o d x)
file_written_keeps path appends o d (Wrote n place) = tt
file_written_keeps path appends o d (Unwritten why) = (refl, refl)

write_file_keeps : (n : Option Node) (path : List ℕ) (place : ℕ) (appends : Bool) (piece : List ℕ) (o : Opened) (d : Stores) → RowKeeps o d (write_file n path place appends piece o d)
write_file_keeps None path place appends piece o d = (refl, refl)
write_file_keeps (Some n) path place appends piece o d = file_written_keeps path appends o d (write_node appends place piece n)

scratch_written_keeps : (read_at : ℕ) (o : Opened) (d : Stores) (x : Written (List ℕ)) → RowKeeps o d (scratch_written read_at o d x)
scratch_written_keeps read_at o d (Wrote bytes place) = tt
scratch_written_keeps read_at o d (Unwritten why) = (refl, refl)

write_keeps : (s : Stream) (piece : List ℕ) (o : Opened) (d : Stores) → RowKeeps o d (write_stream s piece o d)
write_keeps (Input place) piece o d = (refl, refl)
write_keeps Output piece o d = tt
write_keeps Errors piece o d = tt
write_keeps Null piece o d = tt
write_keeps (File path place appends) piece o d = write_file_keeps (node_at d.files path) path place appends piece o d
write_keeps (Pipe held) piece o d =
    row_choice o d (o.readers == 0) (Says (answer.Refused Broken) o d) (if nat_lt most_held (length held + length piece) then Holds else taken (Pipe (held ++ piece)) o d) (refl, refl)
    (row_choice o d (nat_lt most_held (length held + length piece)) Holds (taken (Pipe (held ++ piece)) o d) tt tt)
write_keeps (Scratch bytes read_at write_at) piece o d = scratch_written_keeps read_at o d (write_bytes false write_at piece bytes)

module _ (k : Kernel) (who : List ℕ) where
  abbrev Keeps : Turn → Type 0
  Keeps (Answers a new) = IfRefused a (new ≡ k)
  Keeps Waits = Unit {0}

  choice_keeps : (b : Bool) (x y : Turn) → Keeps x → Keeps y → Keeps (if b then x else y)
  choice_keeps true x y h g = h
  choice_keeps false x y h g = g

  by_shell_keeps : (o : Option Shell) (f : Shell → Turn) → ((s : Shell) → Keeps (f s)) → Keeps (by_shell o f)
  by_shell_keeps None f h = tt
  by_shell_keeps (Some s) f h = h s

  unless_keeps : (why : Option Refusal) (turn : Turn) → Keeps turn → Keeps (unless k why turn)
  unless_keeps (Some why) turn h = refl
  unless_keeps None turn h = h

  as_it_was : (row : List ℕ) (o o' : Opened) (d : Stores) → at_name row k.opens ≡ Some o → (o' ≡ o) × (d ≡ k.stores) → record k { opens = set_name row o' k.opens; stores = d } ≡ k
  as_it_was row o o' d there h =
      let opens : set_name row o' k.opens ≡ k.opens = ap (λ x. set_name row x k.opens) h.0 ∙ set_value_same (is_at (slice_cmp nat_cmp row)) k.opens o there in
      let stores : d ≡ k.stores = h.1 in
      let whole : record k { opens = set_name row o' k.opens; stores = d } ≡ record { shells = k.shells; opens = k.opens; stores = k.stores } = cc in
      whole

  on_row_keeps : (row : List ℕ) (o : Opened) (turn : RowTurn) → at_name row k.opens ≡ Some o → RowKeeps o k.stores turn → Keeps (on_row k row turn)
  on_row_keeps row o (Says a o' d) there h = if_refused a ((o' ≡ o) × (d ≡ k.stores)) (record k { opens = set_name row o' k.opens; stores = d } ≡ k) (as_it_was row o o' d there) h
  on_row_keeps row o Holds there h = tt

  by_row_keeps : (row : List ℕ) (x : Option Opened) (f : Opened → RowTurn) → at_name row k.opens ≡ x → ((o : Opened) → RowKeeps o k.stores (f o)) → Keeps (by_row k row x f)
  by_row_keeps row None f there h = refl
  by_row_keeps row (Some o) f there h = on_row_keeps row o (f o) there (h o)

  by_held_keeps : (x : Option Held) (f : Opened → RowTurn) → ((o : Opened) → RowKeeps o k.stores (f o)) → Keeps (by_held k x f)
  by_held_keeps None f h = refl
  by_held_keeps (Some held) f h = by_row_keeps held.row (at_name held.row k.opens) f refl h

  stat_node_keeps : (n : Option Node) → Keeps (stat_node k n)
  stat_node_keeps None = refl
  stat_node_keeps (Some n) = tt

  stat_keeps : (path : List ℕ) → Keeps (stat_turn k who path)
  stat_keeps path = by_shell_keeps (at_name who k.shells) _ (λ s. unless_keeps (prefix_refusal k.stores.files path) _ (stat_node_keeps (node_at k.stores.files path)))

  list_keeps : (path : List ℕ) → Keeps (list_turn k who path)
  list_keeps path = by_shell_keeps (at_name who k.shells) _ (λ s. unless_keeps (list_refusal (prefix_refusal k.stores.files path) (node_at k.stores.files path)) _ tt)

  said : (b : Bool) → Keeps (Answers (if b then answer.Running else answer.Over) k)
  said true = tt
  said false = tt

  poll_fork_keeps : (f : Option Forked) → Keeps (poll_fork k f)
  poll_fork_keeps None = refl
  poll_fork_keeps (Some f) = choice_keeps (has_begun f.phase) _ _ (said (lives k f.name)) refl

  poll_keeps : (child : ℕ) → Keeps (poll_turn k who child)
  poll_keeps child = by_shell_keeps (at_name who k.shells) _ (λ s. poll_fork_keeps (at_number child s.forks))

  read_turn_keeps : (h : Handle) (max : ℕ) → Keeps (read_turn k who h max)
  read_turn_keeps h max = by_shell_keeps (at_name who k.shells) _ (λ s. by_held_keeps (held_for is_reading (at_number h.0 s.handles)) _ (λ o. read_keeps o.stream max o k.stores))

  write_turn_keeps : (h : Handle) (piece : List ℕ) → Keeps (write_turn k who h piece)
  write_turn_keeps h piece = by_shell_keeps (at_name who k.shells) _ (λ s. by_held_keeps (held_for is_writing (at_number h.0 s.handles)) _ (λ o. write_keeps o.stream piece o k.stores))

  dup_held_keeps : (s : Shell) (x : Option Held) → Keeps (dup_held k who s x)
  dup_held_keeps s None = refl
  dup_held_keeps s (Some held) = choice_keeps (lacks_handles s 1) _ _ refl tt

  dup_keeps : (h : Handle) → Keeps (dup_turn k who h)
  dup_keeps h = by_shell_keeps (at_name who k.shells) _ (λ s. dup_held_keeps s (at_number h.0 s.handles))

  close_held_keeps : (s : Shell) (n : ℕ) (x : Option Held) → Keeps (close_held k who s n x)
  close_held_keeps s n None = refl
  close_held_keeps s n (Some held) = tt

  close_keeps : (h : Handle) → Keeps (close_turn k who h)
  close_keeps h = by_shell_keeps (at_name who k.shells) _ (λ s. close_held_keeps s h.0 (at_number h.0 s.handles))

  on_output_keeps : (s : Shell) (status : ℕ) (row : List ℕ) (o : Opened) (turn : RowTurn) → at_name row k.opens ≡ Some o → RowKeeps o k.stores turn → Keeps (on_output k who s status row turn)
  on_output_keeps s status row o (Says answer.Taken o' d) there h = tt
  on_output_keeps s status row o (Says (answer.Refused why) o' d) there h = as_it_was row o o' d there h
  on_output_keeps s status row o (Says a o' d) there h = tt
  on_output_keeps s status row o Holds there h = tt

  start_row_keeps : (s : Shell) (run : Run) (row : List ℕ) (x : Option Opened) → at_name row k.opens ≡ x → Keeps (start_row k who s run row x)
  start_row_keeps s run row None there = refl
  start_row_keeps s run row (Some o) there = on_output_keeps s run.status row o (write_stream o.stream run.output o k.stores) there (write_keeps o.stream run.output o k.stores)

  start_output_keeps : (s : Shell) (run : Run) (x : Option Held) → Keeps (start_output k who s run x)
  start_output_keeps s run None = tt
  start_output_keeps s run (Some held) = start_row_keeps s run held.row (at_name held.row k.opens) refl

  start_run_keeps : (s : Shell) (p : Program) (x : Result Run Refusal) → Keeps (start_run k who s p x)
  start_run_keeps s p (Err why) = refl
  start_run_keeps s p (Ok run) = unless_keeps (start_refusal s p) _ (start_output_keeps s run (output_of s p.output))

  start_keeps : (p : Program) → Keeps (start_turn k who p)
  start_keeps p = by_shell_keeps (at_name who k.shells) _ (λ s. unless_keeps (prefix_refusal k.stores.files p.path) _ (start_run_keeps s p (run_of (node_at k.stores.files p.path))))

  wait_status_keeps : (s : Shell) (n : ℕ) (x : Option ℕ) → Keeps (wait_status k who s n x)
  wait_status_keeps s n None = refl
  wait_status_keeps s n (Some status) = tt

  wait_program_keeps : (n : ℕ) → Keeps (wait_program_turn k who n)
  wait_program_keeps n = by_shell_keeps (at_name who k.shells) _ (λ s. wait_status_keeps s n (at_number n s.programs))

  fork_kept_keeps : (s : Shell) (x : Option (List (ℕ × Held))) → Keeps (fork_kept k who s x)
  fork_kept_keeps s None = refl
  fork_kept_keeps s (Some handles) = tt

  fork_keeps : (keep : List Handle) → Keeps (fork_turn k who keep)
  fork_keeps keep = by_shell_keeps (at_name who k.shells) _ (λ s. unless_keeps (too_many (nat_le most_shells (length k.shells) || nat_le most_number (length s.forks))) _ (fork_kept_keeps s (kept_from s.handles keep [])))

  pipe_keeps : Keeps (pipe_turn k who)
  pipe_keeps = by_shell_keeps (at_name who k.shells) _ (λ s. unless_keeps (too_many (lacks_handles s 2)) _ tt)

  scratch_keeps : (s : Shell) → Keeps (scratch_by k who s)
  scratch_keeps s = unless_keeps (too_many (lacks_handles s 2 || is_full k.stores)) _ tt

  open_node_keeps : (s : Shell) (path : List ℕ) (m : Mode) (n : Option Node) → Keeps (open_node k who s path m n)
  open_node_keeps s path m n = unless_keeps (prefix_refusal k.stores.files path) _ (unless_keeps (node_refusal m n) _ (unless_keeps (too_many (lacks_handles s 1 || (is_none n && is_full k.stores))) _ tt))

  open_by_keeps : (s : Shell) (path : List ℕ) (m : Mode) → Keeps (open_by k who s path m)
  open_by_keeps s path mode.Read = open_node_keeps s path mode.Read (node_at k.stores.files path)
  open_by_keeps s path mode.Write = open_node_keeps s path mode.Write (node_at k.stores.files path)
  open_by_keeps s path mode.Append = open_node_keeps s path mode.Append (node_at k.stores.files path)
  open_by_keeps s path mode.ReadWrite = open_node_keeps s path mode.ReadWrite (node_at k.stores.files path)
  open_by_keeps s path mode.New = open_node_keeps s path mode.New (node_at k.stores.files path)
  open_by_keeps s path mode.Scratch = scratch_keeps s

  open_keeps : (path : List ℕ) (m : Mode) → Keeps (open_turn k who path m)
  open_keeps path m = by_shell_keeps (at_name who k.shells) _ (λ s. open_by_keeps s path m)

  call_keeps : (c : Call) → Keeps (call_turn k who c)
  call_keeps (call.Open path mode) = open_keeps path mode
  call_keeps (call.Read handle max) = read_turn_keeps handle max
  call_keeps (call.Write handle bytes) = write_turn_keeps handle bytes
  call_keeps call.Pipe = pipe_keeps
  call_keeps (call.Dup handle) = dup_keeps handle
  call_keeps (call.Close handle) = close_keeps handle
  call_keeps (call.List path) = list_keeps path
  call_keeps (call.Stat path) = stat_keeps path
  call_keeps (call.Start program) = start_keeps program
  call_keeps (call.WaitProgram number) = wait_program_keeps number
  call_keeps (call.Poll child) = poll_keeps child

  row_keeps : {F : Type 0} (ask : Ask F) (why : Refusal) (new : Kernel) → Row k who ask (answer.Refused why) new → new ≡ k
  row_keeps (Asked c) why new h = subst Keeps h (call_keeps c)
  row_keeps (Fork start keep) why new h = subst Keeps h (fork_keeps keep)
  row_keeps (Begin child) why new h = absurd h.marks
  row_keeps (WaitShell child) why new h = absurd h.tells

pub refusals_keep : (F : Type 0) → RefusalsKeep F
refusals_keep F k who ask why new step = row_keeps k who ask why new step.row
