use Rattle.std.proofs.Common.{◌≡◌, drop}
use Rattle.ksh_pattern.specs.Match.{matches}
use Rattle.ksh_pattern.specs.Cells.{rest_all}
use Rattle.ksh_pattern.proofs.search.walks_to_end.Given as goal

-- what is left of the text has to lead to the end
abbrev pub invariant-loop-byte : goal.invariant-loop-byte
invariant-loop-byte l = matches l.parts l.text ≡ rest_all l.cells.items (drop l.byte-index l.rest)
