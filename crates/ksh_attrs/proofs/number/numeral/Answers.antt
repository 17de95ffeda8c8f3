use Rattle.std.proofs.Common.{rules}
use Rattle.ksh_attrs.proofs.Digits.{digits_law}
use Rattle.ksh_attrs.proofs.number.numeral.Goals as goal

pub returns-clause-law : goal.returns-clause-law
returns-clause-law c = digits_law c.args.base c.args.number (search rules)

pub returns-in_err-digits-clause-law : goal.returns-in_err-digits-clause-law
returns-in_err-digits-clause-law c = digits_law c.args.base c.args.number (search rules)
