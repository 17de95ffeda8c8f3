use Rattle.std.proofs.Common.{◌≡◌, ◌≤◌, ◌-◌, length, drop}
use Rattle.ksh_pattern.specs.Match.{matches}
use Rattle.ksh_pattern.proofs.search.without_front.Given as goal

-- the parts and the bytes so far match each other
abbrev pub invariant-loop-at : goal.invariant-loop-at
invariant-loop-at l = record {
  parts : l.at ≤ length l.parts;
  text : l.at ≤ length l.text;
  same : matches (drop l.at l.parts) (drop l.at l.text) ≡ matches l.parts l.text;
}

abbrev pub decreases-loop-at : goal.decreases-loop-at
decreases-loop-at l = length l.parts - l.at
