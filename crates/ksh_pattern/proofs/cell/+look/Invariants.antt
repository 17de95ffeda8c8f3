use Rattle.std.proofs.Common.{◌≡◌, ◌+◌, ◌*◌, [], take, drop}
use Rattle.ksh_pattern.specs.Cells.{whole_all, rest_all, whole_some, rest_some, rest_copies}
use Rattle.ksh_pattern.proofs.cell.+look.Given as goal

-- what is true behind the parts so far
abbrev pub invariant-look_all-loop-cell : goal.invariant-look_all-loop-cell
invariant-look_all-loop-cell l = record {
  last : l.before.last ≡ rest_all (take l.cell-index l.cells) [];
  empty : l.before.empty ≡ whole_all (take l.cell-index l.cells) [];
}

-- what is true of one of the alternatives so far
abbrev pub invariant-look_some-loop-cells : goal.invariant-look_some-loop-cells
invariant-look_some-loop-cells l = record {
  last : l.before.last ≡ rest_some (take l.cells-index l.alternatives) [];
  empty : l.before.empty ≡ whole_some (take l.cells-index l.alternatives) [];
}

-- the copies so far match the text
abbrev pub invariant-look_copies-loop-copy : goal.invariant-look_copies-loop-copy
invariant-look_copies-loop-copy l = rest_copies l.copies [] ≡ rest_copies (drop l.copy-index l.copies) []

abbrev pub decreases-look_cell : goal.decreases-look_cell
decreases-look_cell l = 4 * goal.size-look_cell l

abbrev pub decreases-look_all : goal.decreases-look_all
decreases-look_all l = 4 * goal.size-look_all l + 1

abbrev pub decreases-look_some : goal.decreases-look_some
decreases-look_some l = 4 * goal.size-look_some l + 2

abbrev pub decreases-look_copies : goal.decreases-look_copies
decreases-look_copies l = 4 * goal.size-look_copies l + 3
