use Rattle.ksh_base.specs.Name.{Fits}
use Rattle.ksh_base.proofs.name.first_bad.Given as goal

abbrev pub invariant-loop-i : goal.invariant-loop-i
invariant-loop-i l = Fits l.bytes l.i
