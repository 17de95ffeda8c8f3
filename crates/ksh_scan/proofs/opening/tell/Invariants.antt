use Rattle.std.proofs.Common.{◌≡◌, drop}
use Rattle.ksh_scan.specs.Openings.{told_all}
use Rattle.ksh_scan.proofs.opening.tell.Given as goal

abbrev pub invariant-loop-mark : goal.invariant-loop-mark
invariant-loop-mark l = told_all (drop l.mark-index l.marks) l.opening l.openings ≡ told_all l.marks l.opening l.initial.openings
