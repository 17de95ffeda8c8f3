use Rattle.std.proofs.Common.{◌≡◌, ◌++◌, length}
use Rattle.tree_parts.specs.Values.{pairs}
use Rattle.tree_parts.proofs.values.pairs_of.Given as goal

-- the pairs so far stand before the rest
abbrev pub invariant-loop-entry : goal.invariant-loop-entry
invariant-loop-entry l = l.found ++ pairs l.left ≡ pairs l.fn.entries

abbrev pub decreases-loop-entry : goal.decreases-loop-entry
decreases-loop-entry l = length l.left
