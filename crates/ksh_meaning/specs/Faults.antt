-- Texts on descriptor 2, and the faults that end a shell.
use Rattle.std.specs.Prelude.{ℕ, List}
use Rattle.kernel_ask.specs.declared.ask.Ask.TheVariants.{Asked}
use Rattle.kernel_ask.specs.declared.ask.Answer.{Answer}
use Rattle.shell_state.specs.declared.state.ShellState.{ShellState}
use Rattle.shell_state.specs.declared.state.Flow.{Flow}
use Rattle.shell_state.specs.declared.state.Flow.TheVariants.{Next, Exit}
use Rattle.ksh_meaning.specs.Prog.{Prog, Done, and_then}
use Rattle.ksh_meaning.specs.Units.{End, ends, with_status, asked}
use Rattle.ksh_meaning.specs.Answers.{write_refused}
use Rattle.ksh_meaning.specs.Texts.{fault_line}
use Rattle.ksh_meaning.specs.Output.{write, text_left}

-- after one part the next one follows, unless the flow leaves
abbrev pub goes_on : (ShellState → Prog End) → End → Prog End
goes_on rest (s, Next) = rest s
goes_on rest (s, Exit) = ends s Exit

abbrev pub told : ShellState × Answer → Prog End
told (s, a) = Done (text_left (write_refused a) s)

-- a text on descriptor 2
unfoldable pub tell : ℕ → List ℕ → ShellState → Prog End
tell line words s = and_then (asked (Asked (write 2 (fault_line line words))) s) told

-- a fault has its text and the status 1, and the shell ends
unfoldable pub fail : ℕ → List ℕ → ShellState → Prog End
fail line words s = and_then (tell line words s) (goes_on (λ s. ends (with_status s 1) Exit))
