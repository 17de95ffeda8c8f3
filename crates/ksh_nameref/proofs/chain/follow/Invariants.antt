use Rattle.std.proofs.Common.{◌≡◌, Some}
use Rattle.ksh_nameref.specs.Chains.{after}
use Rattle.ksh_nameref.proofs.chain.follow.Given as goal

-- so many references were followed
abbrev pub invariant-loop : goal.invariant-loop
invariant-loop g l = after (g.C.Cells.rows l.cells) l.counter l.from ≡ Some l.at
