use Rattle.std.proofs.Common.{◌≡◌, take}
use Rattle.arith_tree.proofs.copies.copy_parts.Given as goal

-- the copies of the parts so far
abbrev pub invariant-loop-part : goal.invariant-loop-part
invariant-loop-part l = l.copies ≡ take l.part-index l.parts
