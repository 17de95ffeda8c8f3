use Rattle.std.proofs.Common.{◌≡◌, ℕ, ◌-◌, ◌<◌, ◌≤◌, true, length}
use Rattle.ksh_lexer.specs.Class.{in_class}
use Rattle.ksh_lexer.specs.Reach.{at_byte}
use Rattle.ksh_lexer.proofs.scan.class_end.Given as goal

-- each byte so far is of the class
abbrev pub invariant-loop-end : goal.invariant-loop-end
invariant-loop-end l = record {
  ordered : l.from ≤ l.end;
  within : l.end ≤ length l.text;
  each : (k : ℕ) → l.from ≤ k → k < l.end → at_byte (in_class l.class) l.text k ≡ true;
}

abbrev pub decreases-loop-end : goal.decreases-loop-end
decreases-loop-end l = length l.text - l.end
