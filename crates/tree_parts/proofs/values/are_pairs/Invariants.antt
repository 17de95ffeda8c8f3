use Rattle.std.proofs.Common.{◌≡◌, drop}
use Rattle.tree_parts.specs.Values.{are_pairs}
use Rattle.tree_parts.proofs.values.are_pairs.Given as goal

-- the entries so far are pairs
abbrev pub invariant-loop-entry : goal.invariant-loop-entry
invariant-loop-entry l = are_pairs (drop l.entry-index l.entries) ≡ are_pairs l.entries
