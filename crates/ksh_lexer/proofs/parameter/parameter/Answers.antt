use Rattle.std.proofs.Common.{rules}
use Rattle.ksh_lexer.proofs.Widths.{one}
use Rattle.ksh_lexer.proofs.parameter.parameter.Goals as goal

-- src/parameter.rt:14:1
pub returns-in-Some-eq35-clause-fits : goal.returns-in-Some-eq35-clause-fits
returns-in-Some-eq35-clause-fits c = one _ 35 _ _ _ (search rules) c.length_or_special.ensures.fits
