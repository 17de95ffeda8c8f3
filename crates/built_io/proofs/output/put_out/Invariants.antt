use Rattle.std.proofs.Common.{◌≡◌, ◌≤◌, ◌-◌}
use Rattle.shell_state.specs.declared.state.Stop.TheVariants as stop
use Rattle.ksh_meaning.specs.Output.{puts_out, writes}
use Rattle.ksh_meaning.specs.Serving.{Serves, Did}
use Rattle.ksh_meaning.specs.Tasks.{Left}
use Rattle.built_io.proofs.output.put_out.Given as goal

abbrev pub invariant-loop-turn : goal.invariant-loop-turn
invariant-loop-turn g l = record {
  serves : Serves g.C.FnMut l.state.level l.state.budget (l.ctx, l.rest);
  budget : l.state.budget ≤ l.fn.state.budget;
  level : l.state.level ≡ l.fn.state.level;
  left : Left (Did g.C.FnMut) stop.Memory (l.fn.ctx, l.fn.rest) (l.ctx, l.rest) (puts_out l.line l.name l.fn.bytes l.fn.state) (writes l.line l.name (l.turn-end - l.turn) l.left l.refused l.state);
}
