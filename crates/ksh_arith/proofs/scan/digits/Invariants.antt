use Rattle.std.proofs.Common.{◌≡◌, ◌≤◌, length}
use Rattle.ksh_arith.specs.Grammar.{digits_by}
use Rattle.ksh_arith.proofs.scan.digits.Given as goal

-- the digits that are left stand behind the number so far
abbrev pub invariant-loop-first : goal.invariant-loop-first
invariant-loop-first l = record {
  left : digits_by l.base 0 l.fn.text ≡ digits_by l.base l.value l.text;
  bound : l.value ≤ 9223372036854775808;
}

abbrev pub decreases-loop-first : goal.decreases-loop-first
decreases-loop-first l = length l.text
