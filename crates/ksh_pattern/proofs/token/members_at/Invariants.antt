use Rattle.std.proofs.Common.{◌≡◌, ◌==◌, true, drop}
use Rattle.ksh_pattern.specs.Reading.{members_at, behind}
use Rattle.ksh_pattern.proofs.token.members_at.Given as goal

-- the members so far, and those ahead
abbrev pub invariant-loop-index : goal.invariant-loop-index
invariant-loop-index l = members_at 0 true l.marks ≡ behind l.members l.index (members_at l.skip (l.index == 0) (drop l.index l.marks))
