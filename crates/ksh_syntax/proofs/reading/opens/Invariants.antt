use Rattle.std.proofs.Common.{◌≡◌, drop}
use Rattle.ksh_grammar.specs.Rules.{opens}
use Rattle.ksh_syntax.proofs.reading.opens.Given as goal

abbrev pub invariant-loop-place : goal.invariant-loop-place
invariant-loop-place l = opens (drop l.place-index l.rule) ≡ opens l.rule
