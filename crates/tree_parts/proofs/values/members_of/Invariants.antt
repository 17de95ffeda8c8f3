use Rattle.std.proofs.Common.{◌≡◌, ◌++◌, length, None}
use Rattle.tree_parts.specs.Values.{members}
use Rattle.tree_parts.proofs.values.members_of.Given as goal

-- the members so far stand before the rest
abbrev pub invariant-loop-entry : goal.invariant-loop-entry
invariant-loop-entry l = l.found ++ members l.declaring l.left ≡ members None l.fn.entries

abbrev pub decreases-loop-entry : goal.decreases-loop-entry
decreases-loop-entry l = length l.left
