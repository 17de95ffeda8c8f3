use Rattle.std.proofs.Common.{◌≡◌, take}
use Rattle.ksh_ast.proofs.assign_copies.copy_assigns.Given as goal

-- the copies of the assignments so far
abbrev pub invariant-loop-assign : goal.invariant-loop-assign
invariant-loop-assign l = l.copies ≡ take l.assign-index l.assigns
