use Rattle.std.proofs.Common.{◌-◌, ◌≤◌, length}
use Rattle.var_store.specs.Fronts.{front, AreBefore, AreBehind}
use Rattle.var_store.proofs.row_list.place.Given as goal

-- the rows below `low` are before the path, and those from `high` on behind it
abbrev pub invariant-loop-low : goal.invariant-loop-low
invariant-loop-low g l = record {
  ordered : l.low ≤ l.high;
  within : l.high ≤ length l.rows;
  before : AreBefore l.rows (front l.depth l.path) l.low;
  behind : AreBehind l.rows (front l.depth l.path) l.high;
}

abbrev pub decreases-loop-low : goal.decreases-loop-low
decreases-loop-low g l = l.high - l.low
