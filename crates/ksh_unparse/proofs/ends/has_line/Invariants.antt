use Rattle.std.proofs.Common.{◌≡◌, length, true}
use Rattle.ksh_unparse.specs.Layout.{has_line}
use Rattle.ksh_unparse.proofs.ends.has_line.Given as goal

-- the word is no line before what is left
abbrev pub invariant-loop-byte : goal.invariant-loop-byte
invariant-loop-byte l = has_line l.word l.start l.rest ≡ has_line l.fn.word true l.fn.text

abbrev pub decreases-loop-byte : goal.decreases-loop-byte
decreases-loop-byte l = length l.rest
