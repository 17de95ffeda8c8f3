use Rattle.ksh_pattern.specs.Ends.{NoMatch}
use Rattle.ksh_pattern.proofs.search.first_in.Given as goal

-- no match begins at an earlier start
abbrev pub invariant-loop-start : goal.invariant-loop-start
invariant-loop-start l = NoMatch l.parts l.text l.from l.start
