use Rattle.std.proofs.Common.{◌≡◌, ◌++◌, drop}
use Rattle.ksh_meaning.specs.Print.{joined, following}
use Rattle.built_io.proofs.join.joined.Given as goal

-- the text so far and the words that are left are the whole
abbrev pub invariant-loop-word : goal.invariant-loop-word
invariant-loop-word l = l.text ++ following (drop l.word-index l.others) ≡ joined l.fn.words
