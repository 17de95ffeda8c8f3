use Rattle.std.proofs.Common.{◌≡◌, length}
use Rattle.ksh_base.specs.Words.{options_plan, word_behind, words_plan}
use Rattle.ksh_base.proofs.words.read_words.Given as goal

-- what is left means, behind the options so far, what all the words mean
abbrev pub invariant-loop-word : goal.invariant-loop-word
invariant-loop-word l = record {
  place : words_plan l.fn.words ≡ options_plan l.seen l.at l.rest;
  at : l.at ≡ word_behind l.seen;
}

abbrev pub decreases-loop-word : goal.decreases-loop-word
decreases-loop-word l = length l.rest
