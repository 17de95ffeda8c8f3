use Rattle.std.proofs.Common.{◌≡◌, ◌≤◌, ◌-◌, length, take}
use Rattle.ksh_pattern.specs.Match.{matches}
use Rattle.ksh_pattern.proofs.search.without_back.Given as goal

-- the parts and the bytes behind match each other
abbrev pub invariant-loop-end : goal.invariant-loop-end
invariant-loop-end l = record {
  parts : l.end ≤ length l.parts;
  text : l.to ≤ length l.text;
  same : matches (take l.end l.parts) (take l.to l.text) ≡ matches l.parts l.text;
}

abbrev pub decreases-loop-end : goal.decreases-loop-end
decreases-loop-end l = l.end
