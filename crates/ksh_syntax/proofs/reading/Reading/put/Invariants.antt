use Rattle.std.proofs.Common.{◌≡◌, ◌≤◌, ◌++◌, drop, map, reverse, length}
use Rattle.ksh_syntax.specs.Steps.{placed}
use Rattle.ksh_syntax.proofs.reading.Reading.put.Given as goal

-- the places behind are put
abbrev pub invariant-loop-at : goal.invariant-loop-at
invariant-loop-at l = record {
  put : reverse l.self.left.items ≡ map (placed l.depth l.inner) (drop l.at l.rule) ++ reverse l.initial.self.left.items;
  within : l.at ≤ length l.rule;
}

abbrev pub decreases-loop-at : goal.decreases-loop-at
decreases-loop-at l = l.at
