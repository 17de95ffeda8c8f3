use Rattle.std.proofs.Common.{rules}
use Rattle.ksh_lexer.proofs.Found.{found, nowhere, tail_slice}
use Rattle.ksh_lexer.proofs.scan.find_set.Goals as goal

-- src/scan.rt:46:1
pub returns-in-Some : goal.returns-in-Some
returns-in-Some c = found _ _ _ _ _ (tail_slice c.args.text.now c.args.from) (search rules) c.in-Some.ensures.0.high c.in-Some.ensures.0.before c.in-Some.ensures.1

-- src/scan.rt:46:1
pub returns-in-None : goal.returns-in-None
returns-in-None c = nowhere _ _ _ _ (tail_slice c.args.text.now c.args.from) (search rules) c.in-None.ensures
