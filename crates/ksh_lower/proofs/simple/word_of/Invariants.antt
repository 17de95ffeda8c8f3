use Rattle.std.proofs.Common.{◌≡◌, drop}
use Rattle.ksh_lower.specs.Simple.{collected, piece_of}
use Rattle.ksh_lower.proofs.Fronts.{before}
use Rattle.ksh_lower.proofs.simple.word_of.Given as goal

-- what was found stands before what the rest gives
abbrev pub invariant-loop-piece : goal.invariant-loop-piece
invariant-loop-piece l = collected (piece_of l.quoting) l.word ≡ before l.pieces (collected (piece_of l.quoting) (drop l.piece-index l.word))
