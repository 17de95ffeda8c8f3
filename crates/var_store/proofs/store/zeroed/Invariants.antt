use Rattle.std.proofs.Common.{◌≡◌}
use Rattle.var_store.specs.Calls.{zeroed, zeroed_by}
use Rattle.var_store.proofs.store.zeroed.Given as goal

-- the path so far leads where the path does
abbrev pub invariant-loop-left : goal.invariant-loop-left
invariant-loop-left g l = zeroed_by l.left l.rows l.zero ≡ zeroed l.rows l.path

abbrev pub decreases-loop-left : goal.decreases-loop-left
decreases-loop-left g l = l.left
