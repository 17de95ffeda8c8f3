use Rattle.std.proofs.Common.{◌≡◌, length}
use Rattle.tree_parts.specs.Parts.{with_parts_text}
use Rattle.tree_parts.proofs.names.with_parts.Given as goal

-- the pieces so far, with the parts that are left, are all
abbrev pub invariant-loop-part : goal.invariant-loop-part
invariant-loop-part l = with_parts_text l.pieces l.left ≡ with_parts_text l.fn.front l.fn.parts

abbrev pub decreases-loop-part : goal.decreases-loop-part
decreases-loop-part l = length l.left
