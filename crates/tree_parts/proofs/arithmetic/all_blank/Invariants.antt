use Rattle.std.proofs.Common.{◌≡◌, drop}
use Rattle.tree_parts.specs.Parts.{all_blank}
use Rattle.tree_parts.proofs.arithmetic.all_blank.Given as goal

-- the bytes so far are blank
abbrev pub invariant-loop-byte : goal.invariant-loop-byte
invariant-loop-byte l = all_blank (drop l.byte-index l.text) ≡ all_blank l.text
