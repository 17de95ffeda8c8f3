use Rattle.std.proofs.Common.{◌≡◌, drop}
use Rattle.ksh_attrs.specs.Shapes.{without_front}
use Rattle.ksh_attrs.proofs.blanks.without_front.Given as goal

-- the bytes so far are blanks
abbrev pub invariant-loop-index : goal.invariant-loop-index
invariant-loop-index l = without_front l.text ≡ without_front (drop l.index l.text)
