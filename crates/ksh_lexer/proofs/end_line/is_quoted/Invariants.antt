use Rattle.std.proofs.Common.{◌≡◌, drop}
use Rattle.ksh_lexer.specs.EndWord.{is_quoted}
use Rattle.ksh_lexer.proofs.end_line.is_quoted.Given as goal

abbrev pub invariant-loop-byte : goal.invariant-loop-byte
invariant-loop-byte l = is_quoted (drop l.byte-index l.word) ≡ is_quoted l.word
