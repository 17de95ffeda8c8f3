-- The step budget, and asks, before each of which a unit is spent.
use Rattle.std.specs.Prelude.{ℕ, ◌-◌, Bool, true, false, if◌then◌else◌, nat_le}
use Rattle.kernel_ask.specs.declared.ask.Ask.{Ask}
use Rattle.kernel_ask.specs.declared.ask.Answer.{Answer}
use Rattle.ksh_meaning.specs.Prog.{Prog, Done, Spent, Asks, and_then}
use Rattle.shell_state.specs.declared.start.Start.{Start}
use Rattle.shell_state.specs.declared.state.ShellState.{ShellState}
use Rattle.shell_state.specs.declared.state.Flow.{Flow}

-- how a part of a shell ends: the state and the flow
abbrev pub End : Type 0
End = ShellState × Flow

abbrev pub ends : ShellState → Flow → Prog End
ends s f = Done (s, f)

abbrev pub with_status : ShellState → ℕ → ShellState
with_status s n = record s { status = n }

-- that many units are spent together, or fewer are left and nothing more is done
unfoldable pub units : ℕ → ShellState → Prog ShellState
units n s = if nat_le n s.budget then Done (record s { budget = s.budget - n }) else Spent

-- the same, as what a test said and left
abbrev pub left_by : Bool → ShellState → Prog ShellState
left_by true s = Done s
left_by false s = Spent

-- an ask whose unit has been spent
unfoldable pub put : Ask Start → ShellState → Prog (ShellState × Answer)
put c s = Asks c (λ a. Done (s, a))

-- an ask, before which a unit is spent
unfoldable pub asked : Ask Start → ShellState → Prog (ShellState × Answer)
asked c s = and_then (units 1 s) (put c)
