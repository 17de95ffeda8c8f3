use Rattle.std.proofs.Common.{◌≡◌, ◌+◌, ◌++◌, ℕ, List, take}
use Rattle.ksh_pattern.specs.Match.{matches}
use Rattle.ksh_pattern.specs.Ends.{IsGreatest, front_matches}
use Rattle.ksh_pattern.specs.Cells.{rest_all}
use Rattle.ksh_pattern.proofs.search.longest_front.Given as goal

-- the bytes so far lead to the marks, and of the shorter fronts the longest was found
abbrev pub invariant-loop-index : goal.invariant-loop-index
invariant-loop-index l = record {
  state : (w : List ℕ) → rest_all l.cells.items w ≡ matches l.parts (take (l.index + 1) l.text ++ w);
  longest : IsGreatest (front_matches l.parts l.text) l.index l.longest;
}
