use Rattle.std.proofs.Common.{◌≡◌, drop}
use Rattle.ksh_scan.specs.Openings.{in_backquotes}
use Rattle.ksh_scan.proofs.opening.in_backquotes.Given as goal

abbrev pub invariant-loop-opening : goal.invariant-loop-opening
invariant-loop-opening l = in_backquotes (drop l.opening-index l.openings) ≡ in_backquotes l.openings
