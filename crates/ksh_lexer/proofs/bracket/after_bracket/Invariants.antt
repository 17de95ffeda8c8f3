use Rattle.std.proofs.Common.{◌≡◌, ◌≤◌, length}
use Rattle.ksh_lexer.specs.Brackets.{after_bracket}
use Rattle.ksh_lexer.proofs.bracket.after_bracket.Given as goal

-- so many are open, and what is left decides
abbrev pub invariant-loop-byte : goal.invariant-loop-byte
invariant-loop-byte l = record {
  open_ones : l.depth ≤ 63;
  same : after_bracket 0 l.fn.inside ≡ after_bracket l.depth l.rest;
}

abbrev pub decreases-loop-byte : goal.decreases-loop-byte
decreases-loop-byte l = length l.rest
