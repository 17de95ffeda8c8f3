use Rattle.std.proofs.Common.{◌≡◌, ◌++◌, drop}
use Rattle.ksh_pattern.specs.Reading.{tokens_of}
use Rattle.ksh_pattern.proofs.token.tokens_of.Given as goal

-- the tokens so far, and those ahead
abbrev pub invariant-loop-index : goal.invariant-loop-index
invariant-loop-index l = tokens_of 0 l.marks ≡ l.tokens ++ tokens_of l.skip (drop l.index l.marks)
