use Rattle.std.proofs.Common.{◌≡◌, ℕ, ◌+◌, ◌*◌, ◌&&◌, ◌||◌, false, List, [], ◌∷◌, length, take, drop}
use Rattle.ksh_pattern.specs.Cells.{whole_all, rest_all, whole_some, rest_some, rest_copies}
use Rattle.ksh_pattern.proofs.cell.+shift.Given as goal

-- the parts so far are shifted, and those ahead are as they were
abbrev pub invariant-shift_all-loop-cell : goal.invariant-shift_all-loop-cell
invariant-shift_all-loop-cell l = record {
  last : l.so_far.before.last ≡ rest_all (take l.cell-index l.fn.cells.items) [];
  empty : l.so_far.before.empty ≡ whole_all (take l.cell-index l.fn.cells.items) [];
  same : (w : List ℕ) → whole_all (take l.cell-index l.cell-items) w ≡ whole_all (take l.cell-index l.fn.cells.items) w;
  shifts : (w : List ℕ) → rest_all (take l.cell-index l.cell-items) w
      ≡ (rest_all (take l.cell-index l.fn.cells.items) (l.byte ∷ w) || (l.entering && whole_all (take l.cell-index l.fn.cells.items) (l.byte ∷ w)));
  live : l.so_far.live ≡ false → (w : List ℕ) → rest_all (take l.cell-index l.cell-items) w ≡ false;
  ahead : drop l.cell-index l.cell-items ≡ drop l.cell-index l.fn.cells.items;
  len : length l.cell-items ≡ length l.fn.cells.items;
}

abbrev pub invariant-shift_some-loop-cells : goal.invariant-shift_some-loop-cells
invariant-shift_some-loop-cells l = record {
  last : l.so_far.before.last ≡ rest_some (take l.cells-index l.fn.alternatives.items) [];
  empty : l.so_far.before.empty ≡ whole_some (take l.cells-index l.fn.alternatives.items) [];
  same : (w : List ℕ) → whole_some (take l.cells-index l.cells-items) w ≡ whole_some (take l.cells-index l.fn.alternatives.items) w;
  shifts : (w : List ℕ) → rest_some (take l.cells-index l.cells-items) w
      ≡ (rest_some (take l.cells-index l.fn.alternatives.items) (l.byte ∷ w) || (l.entering && whole_some (take l.cells-index l.fn.alternatives.items) (l.byte ∷ w)));
  live : l.so_far.live ≡ false → (w : List ℕ) → rest_some (take l.cells-index l.cells-items) w ≡ false;
  ahead : drop l.cells-index l.cells-items ≡ drop l.cells-index l.fn.alternatives.items;
  len : length l.cells-items ≡ length l.fn.alternatives.items;
}

abbrev pub invariant-shift_copies-loop-copy : goal.invariant-shift_copies-loop-copy
invariant-shift_copies-loop-copy l = record {
  last : l.last ≡ rest_copies (take l.copy-index l.fn.copies.items) [];
  shifts : (w : List ℕ) → rest_copies (take l.copy-index l.copy-items) w ≡ rest_copies (take l.copy-index l.fn.copies.items) (l.byte ∷ w);
  ahead : drop l.copy-index l.copy-items ≡ drop l.copy-index l.fn.copies.items;
  len : length l.copy-items ≡ length l.fn.copies.items;
}

abbrev pub decreases-shift_cell : goal.decreases-shift_cell
decreases-shift_cell l = 5 * goal.size-shift_cell l

abbrev pub decreases-shift_all : goal.decreases-shift_all
decreases-shift_all l = 5 * goal.size-shift_all l + 1

abbrev pub decreases-shift_some : goal.decreases-shift_some
decreases-shift_some l = 5 * goal.size-shift_some l + 2

abbrev pub decreases-shift_group : goal.decreases-shift_group
decreases-shift_group l = 5 * goal.size-shift_group l + 3

abbrev pub decreases-shift_copies : goal.decreases-shift_copies
decreases-shift_copies l = 5 * goal.size-shift_copies l + 3

abbrev pub decreases-shift_not : goal.decreases-shift_not
decreases-shift_not l = 5 * goal.size-shift_not l + 4
