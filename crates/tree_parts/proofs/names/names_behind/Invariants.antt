use Rattle.std.proofs.Common.{◌≡◌, ◌++◌, length}
use Rattle.tree_parts.specs.Parts.{all_names, between_dots}
use Rattle.tree_parts.proofs.names.names_behind.Given as goal

-- the names so far stand before the rest, whose parts are names where all are
abbrev pub invariant-loop-at : goal.invariant-loop-at
invariant-loop-at l = record {
  same : l.found ++ between_dots l.rest ≡ l.fn.names ++ between_dots l.fn.bytes;
  named : all_names (between_dots l.rest) ≡ all_names (between_dots l.fn.bytes);
}

abbrev pub decreases-loop-at : goal.decreases-loop-at
decreases-loop-at l = length l.rest
