use Rattle.std.proofs.Common.{reverse}
use Rattle.ksh_syntax.proofs.Taking.{Passed}
use Rattle.ksh_syntax.proofs.Weights.{front_weight}
use Rattle.ksh_syntax.proofs.reading.Reading.take.Given as goal

-- marks were passed with the token in hand
abbrev pub invariant-loop-mark : goal.invariant-loop-mark
invariant-loop-mark l = Passed (l.mode, l.kind) l.fn.self.left.items l.self.left.items l.fn.marks.items l.marks.items

abbrev pub decreases-loop-mark : goal.decreases-loop-mark
decreases-loop-mark l = front_weight (reverse l.self.left.items)
