-- Assignments without a command word, from the left; the status is then 0. One that is refused is a fault, and the last.
use Rattle.std.specs.Prelude.{ℕ, List, [], ◌∷◌, Option, Some, None, Result, Ok, Err}
use Rattle.ksh_script.specs.declared.tree.Assign.{Assign}
use Rattle.var_store.specs.Calls.{Change, put_of}
use Rattle.shell_state.specs.Names.{named}
use Rattle.shell_state.specs.declared.state.ShellState.{ShellState}
use Rattle.shell_state.specs.declared.state.Flow.TheVariants.{Next}
use Rattle.ksh_meaning.specs.Prog.{Prog}
use Rattle.ksh_meaning.specs.Expand.{word_text}
use Rattle.ksh_meaning.specs.Texts.{var_refused_words}
use Rattle.ksh_meaning.specs.Units.{End, ends, with_status}
use Rattle.ksh_meaning.specs.Faults.{fail}

-- the state that is left, and the words of the fault where there was one
abbrev pub Assigned : Type 0
Assigned = ShellState × Option (List ℕ)

-- a refused change leaves all as it was
abbrev pub changed : List ℕ → ShellState → Change (List ℕ) → Assigned
changed name s (Ok vars) = (record s { vars = vars }, None)
changed name s (Err f) = (s, Some (var_refused_words name f))

abbrev pub assigned_one : Assign → ShellState → Assigned
assigned_one a s = changed a.name s (put_of s.vars (named a.name) (word_text s.vars a.value))

abbrev pub unless_refused : (ShellState → Assigned) → Assigned → Assigned
unless_refused rest (s, None) = rest s
unless_refused rest (s, Some words) = (s, Some words)

abbrev pub assigned : List Assign → ShellState → Assigned
assigned [] s = (with_status s 0, None)
assigned (a ∷ rest) s = unless_refused (assigned rest) (assigned_one a s)

abbrev pub settled : ℕ → Assigned → Prog End
settled line (s, None) = ends s Next
settled line (s, Some words) = fail line words s
