use Rattle.std.proofs.Common.{◌≡◌, ◌++◌, length}
use Rattle.tree_parts.specs.Values.{words}
use Rattle.tree_parts.proofs.values.words_of.Given as goal

-- the words so far stand before the rest
abbrev pub invariant-loop-entry : goal.invariant-loop-entry
invariant-loop-entry l = l.found ++ words l.left ≡ words l.fn.entries

abbrev pub decreases-loop-entry : goal.decreases-loop-entry
decreases-loop-entry l = length l.left
