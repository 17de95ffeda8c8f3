use Rattle.std.proofs.Common.{◌↔◌}
use Rattle.ast_equal.specs.Equal.{AreEqual, AllEqual, waiting}
use Rattle.ast_equal.proofs.equal.all_equal.Given as goal

-- the sides are equal exactly where all that wait are
abbrev pub invariant-loop : goal.invariant-loop
invariant-loop l = AreEqual l.fn.sides ↔ AllEqual (waiting l.unsettled)
