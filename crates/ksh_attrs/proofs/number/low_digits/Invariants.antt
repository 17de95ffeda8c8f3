use Rattle.std.proofs.Common.{◌≡◌, ◌≤◌, ◌++◌, map}
use Rattle.ksh_attrs.specs.Numbers.{digit, low_digits}
use Rattle.ksh_attrs.proofs.number.low_digits.Given as goal

-- the digits so far, and those of what is left behind them
abbrev pub invariant-loop-left : goal.invariant-loop-left
invariant-loop-left l = record {
  wide : l.wide ≡ l.base;
  small : (2 ≤ l.base) × (l.base ≤ 36);
  digits : map digit (low_digits l.number l.base l.number) ≡ l.digits.items ++ map digit (low_digits l.left l.base l.left);
}

abbrev pub decreases-loop-left : goal.decreases-loop-left
decreases-loop-left l = l.left
