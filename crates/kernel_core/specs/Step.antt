-- One step of the kernel: which answer stands for an ask of a shell, and the kernel afterwards.
use Rattle.std.specs.Prelude.{◌≡◌, ℕ, Bool, true, false, not, List, Option, Some, None, Result, Ok, Err}
use Rattle.kernel_ask.specs.declared.ask.Answer.{Answer}
use Rattle.kernel_ask.specs.declared.ask.Answer.TheVariants.{Begun as SaysBegun, NoThread, ShellEnded}
use Rattle.kernel_ask.specs.declared.ask.Ask.{Ask}
use Rattle.kernel_ask.specs.declared.ask.Ask.TheVariants.{Asked, Fork, Begin, WaitShell}
use Rattle.kernel_ask.specs.declared.ask.Call.{Call}
use Rattle.kernel_ask.specs.declared.ask.Call.TheVariants.{Open, Read, Write, Pipe, Dup, Close, List as Lists, Stat, Start, WaitProgram, Poll}
use Rattle.kernel_ask.specs.declared.ask.Phase.TheVariants.{Made, Begun, Unrun, Waited}
use Rattle.ksh_base.specs.declared.memory.Memory.{Memory}
use Rattle.kernel_objects.specs.declared.shell.Forked.{Forked}
use Rattle.kernel_core.specs.declared.kernel.Kernel.{Kernel}
use Rattle.kernel_core.specs.Forks.{fork_at, fork_turn, forks, lives, phase, poll_turn, with_phase}
use Rattle.kernel_core.specs.Handles.{close_turn, dup_turn}
use Rattle.kernel_core.specs.Look.{list_turn, stat_turn}
use Rattle.kernel_core.specs.Open.{open_turn, pipe_turn}
use Rattle.kernel_core.specs.Programs.{start_turn, wait_program_turn}
use Rattle.kernel_core.specs.Transfer.{read_turn, write_turn}
use Rattle.kernel_core.specs.Turn.{Turn, Answers}

-- what a call leads to
abbrev pub call_turn : Kernel → List ℕ → Call → Turn
call_turn k who (Open path mode) = open_turn k who path mode
call_turn k who (Read handle max) = read_turn k who handle max
call_turn k who (Write handle bytes) = write_turn k who handle bytes
call_turn k who Pipe = pipe_turn k who
call_turn k who (Dup handle) = dup_turn k who handle
call_turn k who (Close handle) = close_turn k who handle
call_turn k who (Lists path) = list_turn k who path
call_turn k who (Stat path) = stat_turn k who path
call_turn k who (Start program) = start_turn k who program
call_turn k who (WaitProgram number) = wait_program_turn k who number
call_turn k who (Poll child) = poll_turn k who child

-- Begin is answered as the shell marks it
abbrev pub Marks : Kernel → List ℕ → ℕ → Answer → Kernel → Type 0
Marks k who child SaysBegun new = new ≡ with_phase k who child Begun
Marks k who child NoThread new = new ≡ with_phase k who child Unrun
Marks k who child answer new = ⊥

-- Begin of the last fork, which isn't marked yet
pub record Begins (k : Kernel) (who : List ℕ) (child : ℕ) (answer : Answer) (new : Kernel) : Type 0 where
  pub last : child ≡ forks k who
  pub made : phase k who child ≡ Some Made
  pub marks : Marks k who child answer new

-- the forked shell has ended
abbrev pub fork_ended : Kernel → Option Forked → Bool
fork_ended k None = false
fork_ended k (Some f) = not (lives k f.name)

abbrev pub has_ended : Kernel → List ℕ → ℕ → Bool
has_ended k who child = fork_ended k (fork_at k who child)

-- WaitShell is answered with the status that the shell tells
abbrev pub TellsEnd : Answer → Type 0
TellsEnd (ShellEnded status) = Unit {0}
TellsEnd answer = ⊥

-- WaitShell of a begun fork that wasn't waited for, once it has ended
pub record WaitsFor (k : Kernel) (who : List ℕ) (child : ℕ) (answer : Answer) (new : Kernel) : Type 0 where
  pub begun : phase k who child ≡ Some Begun
  pub over : has_ended k who child ≡ true
  pub tells : TellsEnd answer
  pub waits : new ≡ with_phase k who child Waited

-- the row of the ask
abbrev pub Row : {F : Type 0} → Kernel → List ℕ → Ask F → Answer → Kernel → Type 0
Row k who (Asked call) answer new = call_turn k who call ≡ Answers answer new
Row k who (Fork start keep) answer new = fork_turn k who keep ≡ Answers answer new
Row k who (Begin child) answer new = Begins k who child answer new
Row k who (WaitShell child) answer new = WaitsFor k who child answer new

-- a shell that lives asks: the answer stands, and leads to that kernel
pub record Step {F : Type 0} (k : Kernel) (who : List ℕ) (ask : Ask F) (answer : Answer) (new : Kernel) : Type 0 where
  pub live : lives k who ≡ true
  pub row : Row k who ask answer new

-- no answer stands: the ask isn't ready
abbrev pub NotReady : {F : Type 0} → Kernel → List ℕ → Ask F → Type 0
NotReady k who ask = (answer : Answer) (new : Kernel) → Step k who ask answer new → ⊥

-- neither Begin nor WaitShell
abbrev pub is_tried : {F : Type 0} → Ask F → Bool
is_tried (Asked call) = true
is_tried (Fork start keep) = true
is_tried (Begin child) = false
is_tried (WaitShell child) = false

-- a call made the step that stands, or nothing where none stands or memory was wanted
abbrev pub Tries : {F : Type 0} → Kernel → List ℕ → Ask F → Result (Option Answer) Memory → Kernel → Type 0
Tries k who ask (Ok (Some answer)) new = Step k who ask answer new
Tries k who ask (Ok None) new = NotReady k who ask × (new ≡ k)
Tries k who ask (Err m) new = new ≡ k

-- `waited` made the step, or nothing where it isn't ready
abbrev pub AnswersWait : Kernel → List ℕ → ℕ → ℕ → Bool → Kernel → Type 0
AnswersWait k who child status true new = WaitsFor k who child (ShellEnded status) new
AnswersWait k who child status false new = (has_ended k who child ≡ false) × (new ≡ k)
