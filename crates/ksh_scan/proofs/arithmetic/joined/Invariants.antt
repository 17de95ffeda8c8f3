use Rattle.std.proofs.Common.{◌≡◌, ◌++◌, length}
use Rattle.ksh_scan.specs.Arithmetic.{joined}
use Rattle.ksh_scan.proofs.arithmetic.joined.Given as goal

-- what was kept, and what is joined of what is left
abbrev pub invariant-loop-first : goal.invariant-loop-first
invariant-loop-first l = l.kept ++ joined l.rest ≡ joined l.text

abbrev pub decreases-loop-first : goal.decreases-loop-first
decreases-loop-first l = length l.rest
