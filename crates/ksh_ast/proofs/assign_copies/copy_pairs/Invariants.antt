use Rattle.std.proofs.Common.{◌≡◌, take}
use Rattle.ksh_ast.proofs.assign_copies.copy_pairs.Given as goal

-- the copies of the pairs so far
abbrev pub invariant-loop-pair : goal.invariant-loop-pair
invariant-loop-pair l = l.copies ≡ take l.pair-index l.pairs
