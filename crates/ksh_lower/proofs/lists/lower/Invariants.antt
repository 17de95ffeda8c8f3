use Rattle.ksh_lower.specs.Lowers.{Waits}
use Rattle.ksh_lower.proofs.lists.lower.Given as goal

-- what is run so far is a front of what is run
abbrev pub invariant-loop : goal.invariant-loop
invariant-loop l = Waits l.list l.outer l.level.line l.level.rest.now l.level.done
