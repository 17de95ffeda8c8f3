use Rattle.std.proofs.Common.{w64, pos, lit<, FitsSigned}
use Rattle.std.proofs.lemmas.Int.{wrapping_add_is, wrapping_sub_is}
use Rattle.ksh_arith.proofs.compute.step.Goals as goal

one : FitsSigned w64 (pos 1)
one = record { sfits = lit< tt }

pub returns-then-way : goal.returns-then-way
returns-then-way c = rw c.if-way.true (wrapping_sub_is w64 c.args.value (pos 1) c.ranges.value one)

pub returns-else-way : goal.returns-else-way
returns-else-way c = rw c.if-way.false (wrapping_add_is w64 c.args.value (pos 1) c.ranges.value one)
