use Rattle.std.proofs.Common.{◌≡◌, ◌++◌, drop}
use Rattle.ksh_lexer.specs.EndWord.{end_word, unquoted}
use Rattle.ksh_lexer.proofs.end_line.end_word.Given as goal

abbrev pub invariant-loop-i : goal.invariant-loop-i
invariant-loop-i l = l.line ++ unquoted l.within (drop l.i l.word) ≡ end_word l.word
