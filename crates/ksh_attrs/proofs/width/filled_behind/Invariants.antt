use Rattle.std.proofs.Common.{◌≡◌, ◌≤◌, ◌-◌, ◌++◌, length, replicate}
use Rattle.ksh_attrs.proofs.width.filled_behind.Given as goal

-- the text and some blanks
abbrev pub invariant-loop-filled : goal.invariant-loop-filled
invariant-loop-filled l = record {
  least : length l.text ≤ length l.filled;
  most : length l.filled ≤ l.width;
  blanks : l.filled ≡ l.text ++ replicate (length l.filled - length l.text) 32;
}

abbrev pub decreases-loop-filled : goal.decreases-loop-filled
decreases-loop-filled l = l.width - length l.filled
