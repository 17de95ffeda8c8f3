use Rattle.std.proofs.Common.{◌≡◌, take}
use Rattle.ksh_syntax.proofs.reading.Reading.go_to.Given as goal

abbrev pub invariant-loop-symbol : goal.invariant-loop-symbol
invariant-loop-symbol l = l.self.left.items ≡ take l.symbol-index l.reading.left.items
