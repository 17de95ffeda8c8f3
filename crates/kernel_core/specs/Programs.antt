-- Start and WaitProgram.
use Rattle.std.specs.Prelude.{◌≡◌, ℕ, ◌+◌, ◌&&◌, Bool, true, is_some, nat_le, List, Option, Some, None, Result, Ok, Err, if◌then◌else◌}
use Rattle.kernel_ask.specs.declared.ask.Answer.{Answer}
use Rattle.kernel_ask.specs.declared.ask.Answer.TheVariants.{Started, ProgramEnded, Taken}
use Rattle.kernel_ask.specs.declared.ask.Handle.{Handle}
use Rattle.kernel_ask.specs.declared.ask.Program.{Program}
use Rattle.kernel_ask.specs.declared.ask.Refusal.{Refusal}
use Rattle.kernel_ask.specs.declared.ask.Refusal.TheVariants.{NoEntry, IsDir, Denied, BadHandle}
use Rattle.ksh_base.specs.declared.memory.Memory.{Memory}
use Rattle.kernel_objects.specs.declared.files.Node.{Node}
use Rattle.kernel_objects.specs.declared.files.Node.TheVariants as node
use Rattle.kernel_objects.specs.declared.opened.Side.{Side}
use Rattle.kernel_objects.specs.declared.opened.Held.{Held}
use Rattle.kernel_objects.specs.declared.opened.Opened.{Opened}
use Rattle.kernel_objects.specs.declared.shell.Shell.{Shell}
use Rattle.kernel_objects.specs.Paths.{node_at, prefix_refusal}
use Rattle.kernel_objects.specs.Rows.{at_name, set_name, at_number, drop_number}
use Rattle.kernel_objects.specs.Shells.{with_program}
use Rattle.kernel_core.specs.declared.kernel.Kernel.{Kernel}
use Rattle.kernel_core.specs.declared.kernel.Stores.{Stores}
use Rattle.kernel_core.specs.declared.programs.Run.{Run}
use Rattle.kernel_core.specs.Handles.{is_reading, is_writing}
use Rattle.kernel_core.specs.Limits.{most_number}
use Rattle.kernel_core.specs.Open.{too_many}
use Rattle.kernel_core.specs.Transfer.{RowTurn, Says, Holds, held_for, write_stream}
use Rattle.kernel_core.specs.Turn.{Turn, Answers, Waits, refused, unless, by_shell, with_shell}

-- the program that stands there, or why there is none
abbrev pub run_of : Option Node → Result Run Refusal
run_of None = Err NoEntry
run_of (Some node.Folder) = Err IsDir
run_of (Some (node.File bytes writable)) = Err Denied
run_of (Some node.Null) = Err Denied
run_of (Some (node.Program output status)) = Ok (record { output = output; status = status })

-- a handle is held for that, or none is given
abbrev pub is_given : (Side → Bool) → Shell → Option Handle → Bool
is_given good s None = true
is_given good s (Some h) = is_some (held_for good (at_number h.0 s.handles))

abbrev pub are_given : Shell → Program → Bool
are_given s p = is_given is_reading s p.input && (is_given is_writing s p.output && is_given is_writing s p.errors)

abbrev pub start_refusal : Shell → Program → Option Refusal
start_refusal s p = if are_given s p then too_many (nat_le most_number s.started) else Some BadHandle

-- the row of the second handle
abbrev pub output_of : Shell → Option Handle → Option Held
output_of s None = None
output_of s (Some h) = held_for is_writing (at_number h.0 s.handles)

-- the program is noted where its output was taken; else the answer is the write's
abbrev pub on_output : Kernel → List ℕ → Shell → ℕ → List ℕ → RowTurn → Turn
on_output k who s status row (Says Taken o d) =
    Answers (Started (s.started + 1)) (record k { shells = set_name who (with_program s status) k.shells; opens = set_name row o k.opens; stores = d })
on_output k who s status row (Says a o d) = Answers a (record k { opens = set_name row o k.opens; stores = d })
on_output k who s status row Holds = Waits

abbrev pub start_row : Kernel → List ℕ → Shell → Run → List ℕ → Option Opened → Turn
start_row k who s run row None = refused k BadHandle
start_row k who s run row (Some o) = on_output k who s run.status row (write_stream o.stream run.output o k.stores)

-- without a second handle the output is lost
abbrev pub start_output : Kernel → List ℕ → Shell → Run → Option Held → Turn
start_output k who s run None = Answers (Started (s.started + 1)) (with_shell k who (with_program s run.status))
start_output k who s run (Some held) = start_row k who s run held.row (at_name held.row k.opens)

abbrev pub start_run : Kernel → List ℕ → Shell → Program → Result Run Refusal → Turn
start_run k who s p (Err why) = refused k why
start_run k who s p (Ok run) = unless k (start_refusal s p) (start_output k who s run (output_of s p.output))

abbrev pub start_turn : Kernel → List ℕ → Program → Turn
start_turn k who p =
    by_shell (at_name who k.shells) (λ s. unless k (prefix_refusal k.stores.files p.path) (start_run k who s p (run_of (node_at k.stores.files p.path))))

abbrev pub wait_status : Kernel → List ℕ → Shell → ℕ → Option ℕ → Turn
wait_status k who s number None = refused k BadHandle
wait_status k who s number (Some status) = Answers (ProgramEnded status) (with_shell k who (record s { programs = drop_number number s.programs }))

abbrev pub wait_program_turn : Kernel → List ℕ → ℕ → Turn
wait_program_turn k who number = by_shell (at_name who k.shells) (λ s. wait_status k who s number (at_number number s.programs))

-- what a call does to a shell and an open row: the shell has one program more where the output was taken
abbrev pub DoesOutput : Shell → ℕ → RowTurn → Result (Option Answer) Memory → Shell → Opened → Opened → Stores → Stores → Type 0
DoesOutput s status (Says Taken to td) (Ok (Some a)) s' o o' d d' = (a ≡ Started (s.started + 1)) × (s' ≡ with_program s status) × (o' ≡ to) × (d' ≡ td)
DoesOutput s status turn (Ok (Some a)) s' o o' d d' = (turn ≡ Says a o' d') × (s' ≡ s)
DoesOutput s status turn (Ok None) s' o o' d d' = (turn ≡ Holds) × (s' ≡ s) × (o' ≡ o) × (d' ≡ d)
DoesOutput s status turn (Err m) s' o o' d d' = (s' ≡ s) × (o' ≡ o) × (d' ≡ d)
