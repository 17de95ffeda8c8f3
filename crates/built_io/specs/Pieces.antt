-- How a part of a builtin's output ends.
use Rattle.std.specs.Prelude.{Bool, Result, Ok, Err}
use Rattle.shell_state.specs.declared.state.ShellState.{ShellState}
use Rattle.shell_state.specs.declared.state.Flow.{Flow}
use Rattle.shell_state.specs.declared.state.Stop.{Stop}
use Rattle.ksh_meaning.specs.Units.{End}

-- the state beside the flow, and whether the piece was refused
abbrev pub piece_ended : ShellState → Result (Flow × Bool) Stop → Result (End × Bool) Stop
piece_ended s (Ok x) = Ok ((s, x.0), x.1)
piece_ended s (Err e) = Err e
