use Rattle.std.proofs.Common.{rules}
use Rattle.ksh_lexer.proofs.Steps.{fault_comes_next}
use Rattle.ksh_lexer.proofs.lexer.Lexer.next.Goals as goal

-- src/lexer.rt:68:5
pub returns-in-Err-clause-fault : goal.returns-in-Err-clause-fault
returns-in-Err-clause-fault c =
    fault_comes_next c.args.mode c.args.self.now c.self.inside.text.now c.self.inside.at c.in-Err.fault c.fault_at.result
    (search rules) (search rules) c.in-Err.ensures.comes c.fault_at.ensures
