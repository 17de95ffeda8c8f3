use Rattle.std.proofs.Common.{rules}
use Rattle.ksh_lexer.proofs.Widths.{wider}
use Rattle.ksh_lexer.proofs.piece.piece.Goals as goal

-- src/piece.rt:12:1
pub returns-in-Some-eq92-clause-fits : goal.returns-in-Some-eq92-clause-fits
returns-in-Some-eq92-clause-fits c = wider _ 92 92 _ _ _ (search rules) c.backslash.ensures.fits

-- src/piece.rt:12:1
pub returns-in-Some-clause-fits : goal.returns-in-Some-clause-fits
returns-in-Some-clause-fits c = wider _ c.in-Some.byte c.in-Some.byte _ _ _ (search rules) c.own.ensures.fits
