use Rattle.std.proofs.Common.{◌≡◌, drop}
use Rattle.ksh_lower.specs.Simple.{collected, argument_of}
use Rattle.ksh_lower.proofs.Fronts.{before}
use Rattle.ksh_lower.proofs.simple.words_of.Given as goal

-- what was found stands before what the rest gives
abbrev pub invariant-loop-argument : goal.invariant-loop-argument
invariant-loop-argument l = collected argument_of l.arguments ≡ before l.words (collected argument_of (drop l.argument-index l.arguments))
