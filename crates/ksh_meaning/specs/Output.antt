-- What builtins write: texts on descriptor 2, and their output in Writes of 4,096 bytes and a rest.
use Rattle.std.specs.Prelude.{ℕ, zero, suc, ◌+◌, ◌/◌, Bool, true, false, ◌||◌, List, length, Option, Some, None, if◌then◌else◌}
use Rattle.std.proofs.Common.{take, drop}
use Rattle.kernel_ask.specs.declared.ask.Answer.{Answer}
use Rattle.kernel_ask.specs.declared.ask.Answer.TheVariants.{Closed}
use Rattle.kernel_ask.specs.declared.ask.Handle.{Handle}
use Rattle.kernel_ask.specs.declared.ask.Call.{Call}
use Rattle.kernel_ask.specs.declared.ask.Call.TheVariants.{Write}
use Rattle.kernel_ask.specs.declared.ask.Refusal.{Refusal}
use Rattle.shell_state.specs.declared.state.ShellState.{ShellState}
use Rattle.shell_state.specs.declared.state.Flow.{Flow}
use Rattle.shell_state.specs.declared.state.Flow.TheVariants.{Next, Exit}
use Rattle.shell_state.specs.declared.task.Task.{Task}
use Rattle.shell_state.specs.declared.task.Task.TheVariants.{Ask}
use Rattle.shell_state.specs.declared.task.Told.{Told}
use Rattle.shell_state.specs.declared.task.Told.TheVariants.{Answered, Ran}
use Rattle.ksh_meaning.specs.Units.{End, with_status}
use Rattle.ksh_meaning.specs.Answers.{write_refused, is_broken}
use Rattle.ksh_meaning.specs.Texts.{fault_line, refused_words}
use Rattle.ksh_meaning.specs.Tasks.{Tasks, Ends, Asks, followed_by}

-- what a builtin does: each task is done in a state, and what is told comes with the state that it left
abbrev pub Works : Type 0 → Type 0
Works = Tasks (ShellState × Task) (ShellState × Told)

-- the answer that was told; an ask is told no flow
abbrev pub answer_of : Told → Answer
answer_of (Answered a) = a
answer_of (Ran f) = Closed

-- an ask of the world, and what follows its answer
abbrev pub asks : {A : Type 0} → Call → (ShellState → Answer → Works A) → ShellState → Works A
asks c k s = Asks (s, Ask c) (λ x. k x.0 (answer_of x.1))

-- a Write on one of the handles that a shell has from the start
abbrev pub write : ℕ → List ℕ → Call
write n bytes = Write (record { 0 = n }) bytes

-- a shell whose Write finds no reader ends at once with 141, without a text
abbrev pub broken : ShellState → End
broken s = (with_status s 141, Exit)

-- after a text on descriptor 2: it is lost where it was refused, unless it found no reader
abbrev pub text_left : Option Refusal → ShellState → End
text_left None s = (s, Next)
text_left (Some r) s = if is_broken r then broken s else (s, Next)

abbrev pub tells : ℕ → List ℕ → ShellState → Works End
tells line words s = asks (write 2 (fault_line line words)) (λ s a. Ends (text_left (write_refused a) s)) s

-- after a Write of a builtin, with whether it was refused: a refusal has its text
abbrev pub after_write : ℕ → List ℕ → ShellState → Option Refusal → Works (End × Bool)
after_write line name s None = Ends ((s, Next), false)
after_write line name s (Some r) =
    if is_broken r then Ends (broken s, true) else followed_by (tells line (refused_words name r) s) (λ e. Ends (e, true))

unfoldable pub piece : ℕ → List ℕ → List ℕ → ShellState → Works (End × Bool)
piece line name bytes s = asks (write 1 bytes) (λ s a. after_write line name s (write_refused a)) s

-- the next piece follows, unless the flow leaves; bad says whether one was refused so far
abbrev pub after_piece : (Bool → ShellState → Works End) → Bool → End × Bool → Works End
after_piece rest bad ((s, Next), refused) = rest (bad || refused) s
after_piece rest bad ((s, Exit), refused) = Ends (s, Exit)

-- that many pieces, each in a Write; the status is 1 where one was refused
abbrev pub writes : ℕ → List ℕ → ℕ → List ℕ → Bool → ShellState → Works End
writes line name zero bytes bad s = Ends (with_status s (if bad then 1 else 0), Next)
writes line name (suc n) bytes bad s = followed_by (piece line name (take 4096 bytes) s) (after_piece (writes line name n (drop 4096 bytes)) bad)

-- all that a builtin prints is one text; an empty one makes no ask
unfoldable pub puts_out : ℕ → List ℕ → List ℕ → ShellState → Works End
puts_out line name bytes s = writes line name ((length bytes + 4095) / 4096) bytes false s
