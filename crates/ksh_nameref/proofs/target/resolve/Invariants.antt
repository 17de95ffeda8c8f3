use Rattle.std.proofs.Common.{◌≡◌, ◌≤◌, length}
use Rattle.ksh_nameref.specs.Targets.{front, NoneFrom}
use Rattle.ksh_nameref.proofs.target.resolve.Given as goal

-- the front of so many steps; neither it nor a longer one is a reference row
abbrev pub invariant-loop-kept : goal.invariant-loop-kept
invariant-loop-kept g l = record {
  within : l.kept ≤ length l.path.steps;
  front : l.front ≡ front l.path l.kept;
  none : NoneFrom (g.C.Cells.rows l.cells) l.path l.kept;
}

abbrev pub decreases-loop-kept : goal.decreases-loop-kept
decreases-loop-kept g l = l.kept
