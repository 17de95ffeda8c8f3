use Rattle.std.proofs.Common.{◌≡◌, ◌≤◌, length}
use Rattle.ksh_lexer.specs.Escapes.{at_ansi_end}
use Rattle.ksh_lexer.proofs.lex.at_ansi_end.Given as goal

-- what is left has the end of the whole
abbrev pub invariant-loop-byte : goal.invariant-loop-byte
invariant-loop-byte l = record {
  shorter : length l.rest ≤ length l.fn.inside;
  same : at_ansi_end l.fn.inside ≡ at_ansi_end l.rest;
}

abbrev pub decreases-loop-byte : goal.decreases-loop-byte
decreases-loop-byte l = length l.rest
