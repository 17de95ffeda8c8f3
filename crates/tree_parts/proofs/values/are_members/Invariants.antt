use Rattle.std.proofs.Common.{◌≡◌, drop, Some, false}
use Rattle.tree_parts.specs.Values.{are_members}
use Rattle.tree_parts.proofs.values.are_members.Given as goal

-- the entries so far are members
abbrev pub invariant-loop-entry : goal.invariant-loop-entry
invariant-loop-entry l = are_members (Some l.is_open) (drop l.entry-index l.entries) ≡ are_members (Some false) l.entries
