use Rattle.std.proofs.Common.{◌≡◌, drop, take, ◌++◌}
use Rattle.ksh_kinds.specs.Words.{path_front}
use Rattle.ksh_kinds.proofs.words.path_len.Given as goal

abbrev pub invariant-loop-i : goal.invariant-loop-i
invariant-loop-i l = path_front l.word ≡ take l.i l.word ++ path_front (drop l.i l.word)
