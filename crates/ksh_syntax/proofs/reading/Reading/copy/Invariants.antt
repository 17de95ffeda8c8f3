use Rattle.std.proofs.Common.{◌≡◌, take}
use Rattle.ksh_syntax.proofs.reading.Reading.copy.Given as goal

abbrev pub invariant-loop-symbol : goal.invariant-loop-symbol
invariant-loop-symbol l = l.left.items ≡ take l.symbol-index l.self.left.items
