use Rattle.std.proofs.Common.{◌≡◌, ◌≤◌, length, drop}
use Rattle.ksh_pattern.specs.Reading.{spells}
use Rattle.ksh_pattern.proofs.token.spells.Given as goal

-- the bytes so far are there
abbrev pub invariant-loop-at : goal.invariant-loop-at
invariant-loop-at l = record {
  within : l.at ≤ length l.marks;
  same : spells l.text l.marks ≡ spells (drop l.at l.text) (drop l.at l.marks);
}
