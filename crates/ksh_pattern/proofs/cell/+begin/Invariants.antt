use Rattle.std.proofs.Common.{◌≡◌, ℕ, ◌+◌, ◌*◌, ◌&&◌, List, [], ◌∷◌, take}
use Rattle.ksh_pattern.specs.Match.{matches, one_matches}
use Rattle.ksh_pattern.specs.Cells.{whole_all, rest_all, whole_some, rest_some}
use Rattle.ksh_pattern.proofs.cell.+begin.Given as goal

-- the cells of the parts so far, and whether a match goes on past these without a byte
abbrev pub invariant-begin_all-loop-part : goal.invariant-begin_all-loop-part
invariant-begin_all-loop-part l = record {
  whole : (w : List ℕ) → whole_all l.cells.items w ≡ matches (take l.part-index l.parts) w;
  rest : (w : List ℕ) → rest_all l.cells.items w ≡ (l.entering && matches (take l.part-index l.parts) (l.byte ∷ w));
  enters : l.enters ≡ (l.entering && matches (take l.part-index l.parts) []);
}

abbrev pub invariant-begin_some-loop-parts : goal.invariant-begin_some-loop-parts
invariant-begin_some-loop-parts l = record {
  whole : (w : List ℕ) → whole_some l.begun.items w ≡ one_matches (take l.parts-index l.alternatives) w;
  rest : (w : List ℕ) → rest_some l.begun.items w ≡ (l.entering && one_matches (take l.parts-index l.alternatives) (l.byte ∷ w));
}

-- a part is as high as it is, and a list as its highest part
abbrev pub decreases-begin_part : goal.decreases-begin_part
decreases-begin_part l = 5 * goal.size-begin_part l

abbrev pub decreases-begin_group : goal.decreases-begin_group
decreases-begin_group l = 5 * goal.size-begin_group l + 4

abbrev pub decreases-begin_copies : goal.decreases-begin_copies
decreases-begin_copies l = 5 * goal.size-begin_copies l + 3

abbrev pub decreases-begin_some : goal.decreases-begin_some
decreases-begin_some l = 5 * goal.size-begin_some l + 2

abbrev pub decreases-begin_all : goal.decreases-begin_all
decreases-begin_all l = 5 * goal.size-begin_all l + 1
