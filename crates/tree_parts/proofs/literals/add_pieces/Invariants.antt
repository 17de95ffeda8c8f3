use Rattle.std.proofs.Common.{◌≡◌, length}
use Rattle.tree_parts.specs.Literals.{joined}
use Rattle.tree_parts.proofs.literals.add_pieces.Given as goal

-- the pieces so far, with those that are left, are all
abbrev pub invariant-loop-piece : goal.invariant-loop-piece
invariant-loop-piece l = joined l.pieces l.left ≡ joined l.fn.pieces l.fn.more

abbrev pub decreases-loop-piece : goal.decreases-loop-piece
decreases-loop-piece l = length l.left
