use Rattle.std.proofs.Common.{◌≡◌, length}
use Rattle.ksh_arith.specs.Grammar.{skipped}
use Rattle.ksh_arith.proofs.scan.skip.Given as goal

-- the blanks that are left are those of the whole
abbrev pub invariant-loop-first : goal.invariant-loop-first
invariant-loop-first l = skipped l.text ≡ skipped l.fn.text

abbrev pub decreases-loop-first : goal.decreases-loop-first
decreases-loop-first l = length l.text
