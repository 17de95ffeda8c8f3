use Rattle.std.proofs.Common.{◌≤◌, length}
use Rattle.ksh_syntax.proofs.Laws.{Behind}
use Rattle.ksh_syntax.proofs.reading.Reading.mode.Given as goal

-- the places behind are actions alone
abbrev pub invariant-loop-at : goal.invariant-loop-at
invariant-loop-at l = record {
  behind : Behind l.self.left.items l.at;
  within : l.at ≤ length l.self.left.items;
}

abbrev pub decreases-loop-at : goal.decreases-loop-at
decreases-loop-at l = l.at
