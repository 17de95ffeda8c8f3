-- Each call keeps the count of nameless files.
use Rattle.std.proofs.Common.{◌≡◌, refl, sym, ap, ◌∙◌, subst, ℕ, ◌+◌, ◌||◌, ◌&&◌, Bool, true, false, List, [], length, Option, Some, None, Result, Ok, Err, arith, is_none, if◌then◌else◌, nat_le}
use Rattle.kernel_ask.specs.declared.ask.Answer.{Answer}
use Rattle.kernel_ask.specs.declared.ask.Answer.TheVariants as answer
use Rattle.kernel_ask.specs.declared.ask.Ask.{Ask}
use Rattle.kernel_ask.specs.declared.ask.Ask.TheVariants.{Asked, Fork, Begin, WaitShell}
use Rattle.kernel_ask.specs.declared.ask.Call.{Call}
use Rattle.kernel_ask.specs.declared.ask.Call.TheVariants as call
use Rattle.kernel_ask.specs.declared.ask.Handle.{Handle}
use Rattle.kernel_ask.specs.declared.ask.Mode.{Mode}
use Rattle.kernel_ask.specs.declared.ask.Mode.TheVariants as mode
use Rattle.kernel_ask.specs.declared.ask.Phase.{Phase}
use Rattle.kernel_ask.specs.declared.ask.Phase.TheVariants.{Begun, Unrun, Waited}
use Rattle.kernel_ask.specs.declared.ask.Program.{Program}
use Rattle.kernel_ask.specs.declared.ask.Refusal.{Refusal}
use Rattle.kernel_objects.specs.declared.files.Node.{Node}
use Rattle.kernel_objects.specs.declared.opened.Held.{Held}
use Rattle.kernel_objects.specs.declared.opened.Opened.{Opened}
use Rattle.kernel_objects.specs.declared.opened.Stream.TheVariants as stream
use Rattle.kernel_objects.specs.declared.plan.BoxFault.{BoxFault}
use Rattle.kernel_objects.specs.declared.shell.Forked.{Forked}
use Rattle.kernel_objects.specs.declared.shell.Shell.{Shell}
use Rattle.kernel_objects.specs.Paths.{FileRows, node_at, prefix_refusal}
use Rattle.kernel_objects.specs.Rows.{at_name, at_number, put_name}
use Rattle.kernel_core.specs.declared.kernel.Kernel.{Kernel}
use Rattle.kernel_core.specs.declared.programs.Run.{Run}
use Rattle.kernel_core.specs.Files.{is_full}
use Rattle.kernel_core.specs.Forks.{fork_kept, fork_turn, has_begun, kept_from, lives, lives_in, phase_set_in, poll_fork, poll_turn}
use Rattle.kernel_core.specs.Handles.{close_held, close_turn, dup_held, dup_turn, ended_by, is_reading, is_writing, lacks_handles}
use Rattle.kernel_core.specs.Limits.{most_number, most_shells}
use Rattle.kernel_core.specs.Look.{list_refusal, list_turn, stat_node, stat_turn}
use Rattle.kernel_core.specs.Open.{next_row, node_refusal, open_by, open_node, open_turn, pipe_turn, row_for, row_of_two, scratch_by, side_of, stream_of, too_many}
use Rattle.kernel_core.specs.Opening.{opened_files, opening, plan_files}
use Rattle.kernel_core.specs.Programs.{on_output, output_of, run_of, start_output, start_refusal, start_row, start_run, start_turn, wait_program_turn, wait_status}
use Rattle.kernel_core.specs.Step.{Marks, Row, call_turn}
use Rattle.kernel_core.specs.Transfer.{RowTurn, Says, Holds, by_held, by_row, held_for, on_row, read_turn, write_stream, write_turn}
use Rattle.kernel_core.specs.Turn.{Turn, Answers, Waits, by_shell, unless}
use Rattle.kernel_laws.specs.Nameless.{CountsNameless, nameless_in}
use Rattle.kernel_laws.specs.Reached.{Opens, Asks, Ends}
use Rattle.kernel_laws.proofs.Laws.{reached_sound}
use Rattle.kernel_laws.proofs.Moves.{row_is_new}
use Rattle.kernel_laws.proofs.Nameless.{Counted, KeepsKind, all_released_counted, all_retained_nameless, kind, nameless_put, nameless_set, opened_kind, read_kind, released_counted, retained_nameless, write_kind}
use Rattle.kernel_laws.proofs.Sound.{Sound}

abbrev IsCounting : Kernel → Type 0
IsCounting k = Counted k.opens k.stores

abbrev Keeps : Turn → Type 0
Keeps (Answers a k) = Counted k.opens k.stores
Keeps Waits = Unit {0}

choice_keeps : (b : Bool) (x y : Turn) → Keeps x → Keeps y → Keeps (if b then x else y)
choice_keeps true x y h g = h
choice_keeps false x y h g = g

by_shell_keeps : (o : Option Shell) (f : Shell → Turn) → ((s : Shell) → o ≡ Some s → Keeps (f s)) → Keeps (by_shell o f)
by_shell_keeps None f h = tt
by_shell_keeps (Some s) f h = h s refl

module _ (k : Kernel) (counted : Counted k.opens k.stores) where
  unless_keeps : (why : Option Refusal) (turn : Turn) → Keeps turn → Keeps (unless k why turn)
  unless_keeps (Some why) turn h = counted
  unless_keeps None turn h = h

  on_row_keeps : (row : List ℕ) (o : Opened) (turn : RowTurn) → at_name row k.opens ≡ Some o → KeepsKind o k.stores turn → Keeps (on_row k row turn)
  on_row_keeps row o (Says a o' d) there h = h.1 ∙ counted ∙ sym (nameless_set row o o' k.opens there h.0)
  on_row_keeps row o Holds there h = tt

  by_row_keeps : (row : List ℕ) (x : Option Opened) (f : Opened → RowTurn) → at_name row k.opens ≡ x → ((o : Opened) → KeepsKind o k.stores (f o)) → Keeps (by_row k row x f)
  by_row_keeps row None f there h = counted
  by_row_keeps row (Some o) f there h = on_row_keeps row o (f o) there (h o)

  by_held_keeps : (x : Option Held) (f : Opened → RowTurn) → ((o : Opened) → KeepsKind o k.stores (f o)) → Keeps (by_held k x f)
  by_held_keeps None f h = counted
  by_held_keeps (Some held) f h = by_row_keeps held.row (at_name held.row k.opens) f refl h

  stat_node_keeps : (n : Option Node) → Keeps (stat_node k n)
  stat_node_keeps None = counted
  stat_node_keeps (Some n) = counted

  stat_keeps : (who path : List ℕ) → Keeps (stat_turn k who path)
  stat_keeps who path = by_shell_keeps (at_name who k.shells) _ (λ s there. unless_keeps (prefix_refusal k.stores.files path) _ (stat_node_keeps (node_at k.stores.files path)))

  list_keeps : (who path : List ℕ) → Keeps (list_turn k who path)
  list_keeps who path = by_shell_keeps (at_name who k.shells) _ (λ s there. unless_keeps (list_refusal (prefix_refusal k.stores.files path) (node_at k.stores.files path)) _ counted)

  poll_fork_keeps : (f : Option Forked) → Keeps (poll_fork k f)
  poll_fork_keeps None = counted
  poll_fork_keeps (Some f) = choice_keeps (has_begun f.phase) _ _ counted counted

  poll_keeps : (who : List ℕ) (child : ℕ) → Keeps (poll_turn k who child)
  poll_keeps who child = by_shell_keeps (at_name who k.shells) _ (λ s there. poll_fork_keeps (at_number child s.forks))

  read_turn_keeps : (who : List ℕ) (h : Handle) (max : ℕ) → Keeps (read_turn k who h max)
  read_turn_keeps who h max = by_shell_keeps (at_name who k.shells) _ (λ s there. by_held_keeps (held_for is_reading (at_number h.0 s.handles)) _ (λ o. read_kind o.stream max o k.stores refl))

  write_turn_keeps : (who : List ℕ) (h : Handle) (piece : List ℕ) → Keeps (write_turn k who h piece)
  write_turn_keeps who h piece = by_shell_keeps (at_name who k.shells) _ (λ s there. by_held_keeps (held_for is_writing (at_number h.0 s.handles)) _ (λ o. write_kind o.stream piece o k.stores refl))

  dup_held_keeps : (who : List ℕ) (s : Shell) (x : Option Held) → Keeps (dup_held k who s x)
  dup_held_keeps who s None = counted
  dup_held_keeps who s (Some held) = choice_keeps (lacks_handles s 1) _ _ counted (counted ∙ sym (retained_nameless held k.opens))

  dup_keeps : (who : List ℕ) (h : Handle) → Keeps (dup_turn k who h)
  dup_keeps who h = by_shell_keeps (at_name who k.shells) _ (λ s there. dup_held_keeps who s (at_number h.0 s.handles))

  close_held_keeps : (who : List ℕ) (s : Shell) (n : ℕ) (x : Option Held) → Keeps (close_held k who s n x)
  close_held_keeps who s n None = counted
  close_held_keeps who s n (Some held) = released_counted k.opens k.stores held counted

  close_keeps : (who : List ℕ) (h : Handle) → Keeps (close_turn k who h)
  close_keeps who h = by_shell_keeps (at_name who k.shells) _ (λ s there. close_held_keeps who s h.0 (at_number h.0 s.handles))

  on_output_keeps : (who : List ℕ) (s : Shell) (status : ℕ) (row : List ℕ) (o : Opened) (turn : RowTurn) → at_name row k.opens ≡ Some o → KeepsKind o k.stores turn → Keeps (on_output k who s status row turn)
  on_output_keeps who s status row o (Says answer.Taken o' d) there h = h.1 ∙ counted ∙ sym (nameless_set row o o' k.opens there h.0)
  on_output_keeps who s status row o (Says a o' d) there h = h.1 ∙ counted ∙ sym (nameless_set row o o' k.opens there h.0)
  on_output_keeps who s status row o Holds there h = tt

  start_row_keeps : (who : List ℕ) (s : Shell) (run : Run) (row : List ℕ) (x : Option Opened) → at_name row k.opens ≡ x → Keeps (start_row k who s run row x)
  start_row_keeps who s run row None there = counted
  start_row_keeps who s run row (Some o) there = on_output_keeps who s run.status row o (write_stream o.stream run.output o k.stores) there (write_kind o.stream run.output o k.stores refl)

  start_output_keeps : (who : List ℕ) (s : Shell) (run : Run) (x : Option Held) → Keeps (start_output k who s run x)
  start_output_keeps who s run None = counted
  start_output_keeps who s run (Some held) = start_row_keeps who s run held.row (at_name held.row k.opens) refl

  start_run_keeps : (who : List ℕ) (s : Shell) (p : Program) (x : Result Run Refusal) → Keeps (start_run k who s p x)
  start_run_keeps who s p (Err why) = counted
  start_run_keeps who s p (Ok run) = unless_keeps (start_refusal s p) _ (start_output_keeps who s run (output_of s p.output))

  start_keeps : (who : List ℕ) (p : Program) → Keeps (start_turn k who p)
  start_keeps who p = by_shell_keeps (at_name who k.shells) _ (λ s there. unless_keeps (prefix_refusal k.stores.files p.path) _ (start_run_keeps who s p (run_of (node_at k.stores.files p.path))))

  wait_status_keeps : (who : List ℕ) (s : Shell) (n : ℕ) (x : Option ℕ) → Keeps (wait_status k who s n x)
  wait_status_keeps who s n None = counted
  wait_status_keeps who s n (Some status) = counted

  wait_program_keeps : (who : List ℕ) (n : ℕ) → Keeps (wait_program_turn k who n)
  wait_program_keeps who n = by_shell_keeps (at_name who k.shells) _ (λ s there. wait_status_keeps who s n (at_number n s.programs))

  fork_kept_keeps : (who : List ℕ) (s : Shell) (x : Option (List (ℕ × Held))) → Keeps (fork_kept k who s x)
  fork_kept_keeps who s None = counted
  fork_kept_keeps who s (Some handles) = counted ∙ sym (all_retained_nameless handles k.opens)

  fork_keeps : (who : List ℕ) (keep : List Handle) → Keeps (fork_turn k who keep)
  fork_keeps who keep = by_shell_keeps (at_name who k.shells) _ (λ s there. unless_keeps (too_many (nat_le most_shells (length k.shells) || nat_le most_number (length s.forks))) _ (fork_kept_keeps who s (kept_from s.handles keep [])))

  phase_set_keeps : (who : List ℕ) (child : ℕ) (p : Phase) (x : Option Shell) → IsCounting (phase_set_in k who child p x)
  phase_set_keeps who child p None = counted
  phase_set_keeps who child p (Some s) = counted

  ended_by_keeps : (who : List ℕ) (x : Option Shell) → IsCounting (ended_by k who x)
  ended_by_keeps who None = counted
  ended_by_keeps who (Some s) = all_released_counted s.handles k.opens k.stores counted

  -- ---- new rows

  module _ (sound : Sound k.shells k.opens) (who : List ℕ) (live : lives k who ≡ true) where
    entered_keeps : (s : Shell) (o : Opened) → at_name who k.shells ≡ Some s → nameless_in (put_name (next_row who s) o k.opens) ≡ k.stores.nameless + kind o
    entered_keeps s o there = nameless_put (next_row who s) o k.opens sound.opens_named (row_is_new k.shells k.opens sound who s there (sym (ap lives_in there) ∙ live)) ∙ ap (λ n. n + kind o) (sym counted)

    pipe_keeps : Keeps (pipe_turn k who)
    pipe_keeps = by_shell_keeps (at_name who k.shells) _ (λ s there. unless_keeps (too_many (lacks_handles s 2)) _ (let e = entered_keeps s (row_of_two (stream.Pipe [])) there in omega arith))

    scratch_keeps : (s : Shell) → at_name who k.shells ≡ Some s → Keeps (scratch_by k who s)
    scratch_keeps s there = unless_keeps (too_many (lacks_handles s 2 || is_full k.stores)) _ (let e = entered_keeps s (row_of_two (stream.Scratch [] 0 0)) there in omega arith)

    open_node_keeps : (s : Shell) (path : List ℕ) (m : Mode) (n : Option Node) → at_name who k.shells ≡ Some s → Keeps (open_node k who s path m n)
    open_node_keeps s path m n there =
        unless_keeps (prefix_refusal k.stores.files path) _
        (unless_keeps (node_refusal m n) _
        (unless_keeps (too_many (lacks_handles s 1 || (is_none n && is_full k.stores))) _
        (let e = entered_keeps s (row_for (side_of m) (stream_of path m n)) there in let z = opened_kind (side_of m) path m n in omega arith)))

    open_by_keeps : (s : Shell) (path : List ℕ) (m : Mode) → at_name who k.shells ≡ Some s → Keeps (open_by k who s path m)
    open_by_keeps s path mode.Read there = open_node_keeps s path mode.Read (node_at k.stores.files path) there
    open_by_keeps s path mode.Write there = open_node_keeps s path mode.Write (node_at k.stores.files path) there
    open_by_keeps s path mode.Append there = open_node_keeps s path mode.Append (node_at k.stores.files path) there
    open_by_keeps s path mode.ReadWrite there = open_node_keeps s path mode.ReadWrite (node_at k.stores.files path) there
    open_by_keeps s path mode.New there = open_node_keeps s path mode.New (node_at k.stores.files path) there
    open_by_keeps s path mode.Scratch there = scratch_keeps s there

    open_keeps : (path : List ℕ) (m : Mode) → Keeps (open_turn k who path m)
    open_keeps path m = by_shell_keeps (at_name who k.shells) _ (λ s there. open_by_keeps s path m there)

    call_keeps : (c : Call) → Keeps (call_turn k who c)
    call_keeps (call.Open path mode) = open_keeps path mode
    call_keeps (call.Read handle max) = read_turn_keeps who handle max
    call_keeps (call.Write handle bytes) = write_turn_keeps who handle bytes
    call_keeps call.Pipe = pipe_keeps
    call_keeps (call.Dup handle) = dup_keeps who handle
    call_keeps (call.Close handle) = close_keeps who handle
    call_keeps (call.List path) = list_keeps who path
    call_keeps (call.Stat path) = stat_keeps who path
    call_keeps (call.Start program) = start_keeps who program
    call_keeps (call.WaitProgram number) = wait_program_keeps who number
    call_keeps (call.Poll child) = poll_keeps who child

    marks_keeps : (child : ℕ) (a : Answer) (new : Kernel) → Marks k who child a new → IsCounting new
    marks_keeps child answer.Begun new h = subst IsCounting (sym h) (phase_set_keeps who child Begun (at_name who k.shells))
    marks_keeps child answer.NoThread new h = subst IsCounting (sym h) (phase_set_keeps who child Unrun (at_name who k.shells))
    marks_keeps child a new h = absurd h

    row_keeps : {F : Type 0} (ask : Ask F) (a : Answer) (new : Kernel) → Row k who ask a new → IsCounting new
    row_keeps (Asked c) a new h = subst Keeps h (call_keeps c)
    row_keeps (Fork start keep) a new h = subst Keeps h (fork_keeps who keep)
    row_keeps (Begin child) a new h = marks_keeps child a new h.marks
    row_keeps (WaitShell child) a new h = subst IsCounting (sym h.waits) (phase_set_keeps who child Waited (at_name who k.shells))

opened_counts : (input : List ℕ) (files : Result FileRows BoxFault) (k : Kernel) → opened_files input files ≡ Ok k → IsCounting k
opened_counts input (Ok files) k e = let same : opening files input ≡ k = cc in subst IsCounting same refl
opened_counts input (Err fault) k e = absurd cc

pub nameless : (F : Type 0) → CountsNameless F
nameless F plan k (Opens same e) = opened_counts plan.input (plan_files plan.entries) same e
nameless F plan now (Asks k who ask a new before step) = row_keeps k (nameless F plan k before) (reached_sound plan k before) who step.live ask a new step.row
nameless F plan now (Ends k who new before live e) = subst IsCounting (sym e) (ended_by_keeps k (nameless F plan k before) who (at_name who k.shells))
