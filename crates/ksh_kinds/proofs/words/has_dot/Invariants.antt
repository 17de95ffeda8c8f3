use Rattle.std.proofs.Common.{◌≡◌, drop}
use Rattle.ksh_kinds.specs.Words.{has_dot}
use Rattle.ksh_kinds.proofs.words.has_dot.Given as goal

abbrev pub invariant-loop-byte : goal.invariant-loop-byte
invariant-loop-byte l = has_dot (drop l.byte-index l.word) ≡ has_dot l.word
