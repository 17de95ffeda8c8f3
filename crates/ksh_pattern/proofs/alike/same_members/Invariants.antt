use Rattle.std.proofs.Common.{◌≡◌, length, take}
use Rattle.ksh_pattern.proofs.alike.same_members.Given as goal

-- the members so far are the same
abbrev pub invariant-loop-index : goal.invariant-loop-index
invariant-loop-index l = (length l.a ≡ length l.b) × (take l.index l.a ≡ take l.index l.b)
