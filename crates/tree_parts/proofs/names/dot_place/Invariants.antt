use Rattle.std.proofs.Common.{◌≡◌, drop, take}
use Rattle.tree_parts.specs.Parts.{between_dots}
use Rattle.tree_parts.proofs.Dots.{to_front}
use Rattle.tree_parts.proofs.names.dot_place.Given as goal

-- the bytes so far have no dot
abbrev pub invariant-loop-i : goal.invariant-loop-i
invariant-loop-i l = between_dots l.bytes ≡ to_front (take l.i l.bytes) (between_dots (drop l.i l.bytes))
