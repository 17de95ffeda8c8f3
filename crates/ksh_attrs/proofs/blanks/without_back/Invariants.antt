use Rattle.std.proofs.Common.{◌≡◌, ◌≤◌, take, length}
use Rattle.ksh_attrs.specs.Shapes.{without_back}
use Rattle.ksh_attrs.proofs.blanks.without_back.Given as goal

-- the bytes behind are blanks
abbrev pub invariant-loop-end : goal.invariant-loop-end
invariant-loop-end l = record {
  within : l.end ≤ length l.text;
  same : without_back l.text ≡ without_back (take l.end l.text);
}

abbrev pub decreases-loop-end : goal.decreases-loop-end
decreases-loop-end l = l.end
