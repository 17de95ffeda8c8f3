use Rattle.std.proofs.Common.{◌≡◌, ◌+◌, drop}
use Rattle.ksh_scan.specs.After.{before_less}
use Rattle.ksh_scan.proofs.after.before_less.Given as goal

abbrev pub invariant-loop-i : goal.invariant-loop-i
invariant-loop-i l = l.i + before_less (drop l.i l.bytes) ≡ before_less l.bytes
