use Rattle.std.proofs.Common.{◌≡◌, take}
use Rattle.ksh_ast.proofs.word_copies.+words.Given as goal

abbrev pub invariant-copy_word-loop-piece : goal.invariant-copy_word-loop-piece
invariant-copy_word-loop-piece l = l.copies ≡ take l.piece-index l.word

abbrev pub invariant-copy_path-loop-part : goal.invariant-copy_path-loop-part
invariant-copy_path-loop-part l = l.parts ≡ take l.part-index l.path.parts
