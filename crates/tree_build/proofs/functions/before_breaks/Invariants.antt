use Rattle.std.proofs.Common.{◌≡◌, ◌++◌, List, length, true}
use Rattle.tree_parts.specs.declared.entry.Entry.{Entry}
use Rattle.tree_build.specs.Reads.{are_breaks}
use Rattle.tree_build.proofs.functions.before_breaks.Given as goal

-- what was taken are newlines and `;`
abbrev pub invariant-loop-entry : goal.invariant-loop-entry
invariant-loop-entry l = (gap : List Entry) × (l.fn.entries ≡ l.entries ++ gap) × (are_breaks gap ≡ true)

abbrev pub decreases-loop-entry : goal.decreases-loop-entry
decreases-loop-entry l = length l.entries
