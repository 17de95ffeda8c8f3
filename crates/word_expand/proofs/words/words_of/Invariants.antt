use Rattle.std.proofs.Common.{◌≡◌, ◌++◌, drop}
use Rattle.ksh_meaning.specs.Expand.{words_of}
use Rattle.word_expand.proofs.words.words_of.Given as goal

-- the texts so far and those of the words that are left are all
abbrev pub invariant-loop-word : goal.invariant-loop-word
invariant-loop-word l = l.texts ++ words_of l.fn.vars (drop l.word-index l.fn.words) ≡ words_of l.fn.vars l.fn.words
