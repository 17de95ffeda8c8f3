use Rattle.std.proofs.Common.{◌≡◌, take}
use Rattle.ksh_ast.proofs.assign_copies.copy_words.Given as goal

-- the copies of the words so far
abbrev pub invariant-loop-word : goal.invariant-loop-word
invariant-loop-word l = l.copies ≡ take l.word-index l.words
