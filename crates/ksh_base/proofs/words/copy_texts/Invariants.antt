use Rattle.std.proofs.Common.{◌≡◌, take}
use Rattle.ksh_base.proofs.words.copy_texts.Given as goal

-- the copies of the texts so far
abbrev pub invariant-loop-text : goal.invariant-loop-text
invariant-loop-text l = l.copies ≡ take l.text-index l.texts
