use Rattle.std.proofs.Common.{◌≡◌, ℕ, ◌≤◌, ◌-◌, List, length}
use Rattle.ksh_pattern.specs.Cells.{rest_copies}
use Rattle.ksh_pattern.proofs.alike.drop_doubles.Given as goal

-- what is dropped so far is no loss
abbrev pub invariant-loop-at : goal.invariant-loop-at
invariant-loop-at l = record {
  begun : 1 ≤ l.at;
  same : (w : List ℕ) → rest_copies l.copies.items w ≡ rest_copies l.fn.copies.items w;
}

abbrev pub decreases-loop-at : goal.decreases-loop-at
decreases-loop-at l = length l.copies.items - l.at
