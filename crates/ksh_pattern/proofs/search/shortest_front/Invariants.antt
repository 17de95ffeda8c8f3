use Rattle.std.proofs.Common.{◌≡◌, ◌+◌, ◌≤◌, ◌++◌, ℕ, List, false, take}
use Rattle.ksh_pattern.specs.Match.{matches}
use Rattle.ksh_pattern.specs.Ends.{front_matches}
use Rattle.ksh_pattern.specs.Cells.{rest_all}
use Rattle.ksh_pattern.proofs.search.shortest_front.Given as goal

-- the bytes so far lead to the marks, and no shorter front matches
abbrev pub invariant-loop-index : goal.invariant-loop-index
invariant-loop-index l = record {
  state : (w : List ℕ) → rest_all l.cells.items w ≡ matches l.parts (take (l.index + 1) l.text ++ w);
  none : (m : ℕ) → m ≤ l.index → front_matches l.parts l.text m ≡ false;
}
