use Rattle.std.proofs.Common.{◌≡◌, ◌≤◌, length}
use Rattle.tree_parts.specs.Parts.{all_names, between_dots}
use Rattle.tree_parts.proofs.names.are_between_dots.Given as goal

-- the rest's parts are names where all are
abbrev pub invariant-loop-at : goal.invariant-loop-at
invariant-loop-at l = record {
  named : all_names (between_dots l.rest) ≡ all_names (between_dots l.fn.bytes);
  within : length l.rest ≤ length l.fn.bytes;
}

abbrev pub decreases-loop-at : goal.decreases-loop-at
decreases-loop-at l = length l.rest
