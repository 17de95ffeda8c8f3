use Rattle.std.proofs.Common.{◌≡◌, take}
use Rattle.ast_equal.proofs.equal_assigns.names_equal.Given as goal

-- the names so far are equal
abbrev pub invariant-loop-i : goal.invariant-loop-i
invariant-loop-i l = take l.i l.left ≡ take l.i l.right
