-- The builtins, each by its name, the line of its texts and its words.
use Rattle.std.specs.Prelude.{ℕ, List}
use Rattle.shell_state.specs.declared.state.ShellState.{ShellState}
use Rattle.shell_state.specs.declared.task.Builtin.{Builtin}
use Rattle.shell_state.specs.declared.task.Builtin.TheVariants.{Print}
use Rattle.ksh_meaning.specs.Units.{End}
use Rattle.ksh_meaning.specs.Output.{Works}
use Rattle.ksh_meaning.specs.Print.{print}

abbrev pub builtin : Builtin → ℕ → List (List ℕ) → ShellState → Works End
builtin Print line words s = print line words s
