use Rattle.ksh_lexer.proofs.Lines.{line_taken, line_whole}
use Rattle.ksh_lexer.proofs.here.line.Goals as goal

-- src/here.rt:65:1
pub returns-in-Some : goal.returns-in-Some
returns-in-Some c = line_taken c.args.rest.now c.in-Some.end c.in-Some.ensures.0.high c.in-Some.ensures.0.before c.in-Some.ensures.1

-- src/here.rt:65:1
pub returns-in-None : goal.returns-in-None
returns-in-None c = line_whole c.args.rest.now c.in-None.ensures
