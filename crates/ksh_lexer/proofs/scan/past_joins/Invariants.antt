use Rattle.std.proofs.Common.{◌≡◌, ◌+◌, ◌-◌, ◌≤◌, length, drop}
use Rattle.ksh_lexer.specs.Reach.{no_byte, span}
use Rattle.ksh_lexer.proofs.scan.past_joins.Given as goal

-- what was passed, and what is left of the span
abbrev pub invariant-loop-end : goal.invariant-loop-end
invariant-loop-end l = record {
  within : l.end ≤ length l.text;
  spanned : l.end + span no_byte (drop l.end l.text) ≡ l.from + span no_byte (drop l.from l.text);
}

abbrev pub decreases-loop-end : goal.decreases-loop-end
decreases-loop-end l = length l.text - l.end
