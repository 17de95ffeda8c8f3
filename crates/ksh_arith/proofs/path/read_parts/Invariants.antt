use Rattle.std.proofs.Common.{◌≡◌, ◌≤◌, [], length}
use Rattle.ksh_arith.specs.Grammar.{parts_read}
use Rattle.ksh_arith.proofs.path.read_parts.Given as goal

-- the parts that are left stand behind those so far
abbrev pub invariant-loop-left : goal.invariant-loop-left
invariant-loop-left l = record {
  left : parts_read (length l.fn.text) l.levels [] 1 l.fn.text ≡ parts_read l.left l.levels l.parts l.height l.rest;
  low : l.height ≤ 2;
}

abbrev pub decreases-loop-left : goal.decreases-loop-left
decreases-loop-left l = l.left
