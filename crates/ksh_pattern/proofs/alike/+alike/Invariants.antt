use Rattle.std.proofs.Common.{◌≡◌, ℕ, ◌+◌, ◌*◌, List, take, length}
use Rattle.ksh_pattern.specs.Cells.{whole_all, rest_all, whole_some, rest_some}
use Rattle.ksh_pattern.proofs.alike.+alike.Given as goal

-- the parts so far are alike
abbrev pub invariant-same_all-loop-index : goal.invariant-same_all-loop-index
invariant-same_all-loop-index l = record {
  len : length l.a ≡ length l.b;
  whole : (w : List ℕ) → whole_all (take l.index l.a) w ≡ whole_all (take l.index l.b) w;
  rest : (w : List ℕ) → rest_all (take l.index l.a) w ≡ rest_all (take l.index l.b) w;
}

abbrev pub invariant-same_some-loop-index : goal.invariant-same_some-loop-index
invariant-same_some-loop-index l = record {
  len : length l.a ≡ length l.b;
  whole : (w : List ℕ) → whole_some (take l.index l.a) w ≡ whole_some (take l.index l.b) w;
  rest : (w : List ℕ) → rest_some (take l.index l.a) w ≡ rest_some (take l.index l.b) w;
}

abbrev pub decreases-same_cell : goal.decreases-same_cell
decreases-same_cell l = 3 * goal.size-same_cell l

abbrev pub decreases-same_all : goal.decreases-same_all
decreases-same_all l = 3 * goal.size-same_all l + 1

abbrev pub decreases-same_some : goal.decreases-same_some
decreases-same_some l = 3 * goal.size-same_some l + 2
