use Rattle.std.proofs.Common.{◌≡◌, drop, if◌then◌else◌}
use Rattle.ksh_lexer.specs.Names.{are_more, are_names}
use Rattle.ksh_lexer.proofs.names.are_names.Given as goal

abbrev pub invariant-loop-byte : goal.invariant-loop-byte
invariant-loop-byte l = (if l.begins then are_names (drop l.byte-index l.word) else are_more (drop l.byte-index l.word)) ≡ are_names l.word
