use Rattle.std.proofs.Common.{◌≡◌, ◌++◌, drop}
use Rattle.ksh_meaning.specs.Expand.{pieces_text}
use Rattle.word_expand.proofs.words.word_text.Given as goal

-- the text so far and the pieces that are left are the whole
abbrev pub invariant-loop-piece : goal.invariant-loop-piece
invariant-loop-piece l = l.text ++ pieces_text l.fn.vars (drop l.piece-index l.fn.word.pieces) ≡ pieces_text l.fn.vars l.fn.word.pieces
