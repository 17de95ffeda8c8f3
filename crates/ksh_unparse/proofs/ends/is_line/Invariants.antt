use Rattle.std.proofs.Common.{◌≡◌, length}
use Rattle.ksh_unparse.specs.Layout.{is_line}
use Rattle.ksh_unparse.proofs.ends.is_line.Given as goal

-- what is left of the word and of the text
abbrev pub invariant-loop-wanted : goal.invariant-loop-wanted
invariant-loop-wanted l = is_line l.word l.rest ≡ is_line l.fn.word l.fn.text

abbrev pub decreases-loop-wanted : goal.decreases-loop-wanted
decreases-loop-wanted l = length l.word
