-- The states that a shell begins in.
use Rattle.std.specs.Prelude.{ℕ, ◌+◌, List, [], ◌∷◌, codes}
use Rattle.shell_state.specs.Names.{named, holding}
use Rattle.shell_state.specs.declared.state.ShellState.{ShellState}

-- the root's: OPTIND is 1, and no other variable is set
abbrev pub root_state : ℕ → ShellState
root_state budget = record { vars = ((named (codes "OPTIND"), holding (codes "1")) ∷ [], 0); status = 0; level = 0; budget = budget }

-- that of a forked shell: all is as in its parent, but that it is one level further down
abbrev pub forked_state : ShellState → ShellState
forked_state s = record s { level = s.level + 1 }
