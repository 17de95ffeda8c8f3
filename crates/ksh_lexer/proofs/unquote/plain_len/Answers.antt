use Rattle.std.proofs.Common.{rules}
use Rattle.ksh_lexer.proofs.Ansi.{front_plain}
use Rattle.ksh_lexer.proofs.unquote.plain_len.Goals as goal

pub returns-in-Some-clause-front : goal.returns-in-Some-clause-front
returns-in-Some-clause-front c = front_plain c.args.bytes.now c.in-Some.end (search rules) c.in-Some.ensures.0.before

pub returns-in-None-clause-front : goal.returns-in-None-clause-front
returns-in-None-clause-front c = front_plain c.args.bytes.now _ (search rules) c.in-None.ensures
