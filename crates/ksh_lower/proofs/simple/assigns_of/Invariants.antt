use Rattle.std.proofs.Common.{◌≡◌, drop}
use Rattle.ksh_lower.specs.Simple.{collected, assign_of}
use Rattle.ksh_lower.proofs.Fronts.{before}
use Rattle.ksh_lower.proofs.simple.assigns_of.Given as goal

-- what was found stands before what the rest gives
abbrev pub invariant-loop-assign : goal.invariant-loop-assign
invariant-loop-assign l = collected assign_of l.assigns ≡ before l.found (collected assign_of (drop l.assign-index l.assigns))
