use Rattle.std.proofs.Common.{◌≡◌, ◌≤◌, ◌-◌, length, replicate}
use Rattle.ksh_attrs.proofs.width.filled_before.Given as goal

-- some of the bytes that are missing
abbrev pub invariant-loop-filled : goal.invariant-loop-filled
invariant-loop-filled l = record {
  most : length l.filled ≤ l.width - length l.text;
  fills : l.filled ≡ replicate (length l.filled) l.fill;
}

abbrev pub decreases-loop-filled : goal.decreases-loop-filled
decreases-loop-filled l = l.width - length l.text - length l.filled
