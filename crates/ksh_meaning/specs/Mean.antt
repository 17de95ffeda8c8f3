-- What a list means: fuel bounds how deep commands stand in one another, and each nesting spends a unit.
use Rattle.std.specs.Prelude.{ℕ, zero, suc, List, [], ◌∷◌, codes}
use Rattle.kernel_ask.specs.declared.ask.Ask.TheVariants.{Asked}
use Rattle.kernel_ask.specs.declared.ask.Answer.{Answer}
use Rattle.ksh_script.specs.declared.tree.Item.{Item, out-Item}
use Rattle.ksh_script.specs.declared.tree.Command.{Command, out-Command}
use Rattle.ksh_script.specs.declared.tree.Command.TheOpen.{Command-F}
use Rattle.shell_state.specs.declared.start.Start.{Start}
use Rattle.shell_state.specs.declared.state.ShellState.{ShellState}
use Rattle.shell_state.specs.declared.state.Flow.{Flow}
use Rattle.shell_state.specs.declared.state.Flow.TheVariants.{Next, Exit}
use Rattle.shell_state.specs.declared.task.Task.{Task}
use Rattle.shell_state.specs.declared.task.Task.TheVariants as task
use Rattle.shell_state.specs.declared.task.Told.{Told}
use Rattle.shell_state.specs.declared.task.Told.TheVariants.{Answered, Ran}
use Rattle.shell_state.specs.declared.task.Builtin.{Builtin}
use Rattle.shell_state.specs.declared.task.Builtin.TheVariants.{Print}
use Rattle.ksh_meaning.specs.Prog.{Prog, Done, Spent, and_then, Fed, feed}
use Rattle.ksh_meaning.specs.Units.{End, ends, units, asked}
use Rattle.ksh_meaning.specs.Tasks.{Tasks, doing}
use Rattle.ksh_meaning.specs.Builtins.{builtin}
use Rattle.ksh_meaning.specs.Expand.{words_of}
use Rattle.ksh_meaning.specs.Faults.{goes_on, fail}
use Rattle.ksh_meaning.specs.Assign.{assigned, settled}
use Rattle.ksh_meaning.specs.Subshell.{subshell}

-- what runs inside a form: a command
abbrev pub Runs : Type 0
Runs = Item → ShellState → Prog End

-- the commands of a list, one after another
abbrev pub list_of : Runs → List Item → ShellState → Prog End
list_of runs [] s = ends s Next
list_of runs (x ∷ xs) s = and_then (runs x s) (goes_on (list_of runs xs))

-- what a task of a builtin does
abbrev pub perform : Runs → ShellState × Task → Prog (ShellState × Told)
perform runs (s, task.Ask c) = and_then (asked (Asked c) s) (λ x. Done (x.0, Answered x.1))
perform runs (s, task.Run list) = and_then (list_of runs list s) (λ e. Done (e.0, Ran e.1))

-- a builtin with its words
unfoldable pub run_builtin : Runs → Builtin → ℕ → List (List ℕ) → ShellState → Prog End
run_builtin runs which line words s = doing (perform runs) (builtin which line words s)

-- ---- the forms, each from what runs inside it

abbrev pub form : Runs → ℕ → Command-F Command Item → ShellState → Prog End
form runs line (Command-F.Print words) s = run_builtin runs Print line (words_of s.vars words) s
form runs line (Command-F.Assign assigns) s = settled line (assigned assigns s)
form runs line (Command-F.Subshell body) s = subshell line body s
form runs line Command-F.NotBuilt s = fail line (codes "not built") s

abbrev pub inside : Runs → Item → ShellState → Prog End
inside runs x s = form runs (out-Item x).line (out-Command (out-Item x).command) s

-- a command, with at most that many in one another; one unit is spent as it begins
unfoldable pub work : ℕ → Runs
work zero x s = Spent
work (suc n) x s = and_then (units 1 s) (inside (work n) x)

-- a list, fed answers
abbrev pub Mean : List Item → ShellState → List Answer → Fed End
Mean list s answers = feed (list_of (work s.budget) list s) answers

-- a shell from its start
abbrev pub Whole : Start → List Answer → Fed End
Whole start answers = Mean start.body start.state answers
