use Rattle.ksh_lexer.proofs.Unique.{one_token, no_token, one_fault}
use Rattle.ksh_lexer.proofs.laws.one_answer.Goals as goal

-- src/laws.rt:8:1
pub returns-clause-one : goal.returns-clause-one
returns-clause-one c = one_token

-- src/laws.rt:8:1
pub returns-clause-none : goal.returns-clause-none
returns-clause-none c = no_token

-- src/laws.rt:8:1
pub returns-clause-fault : goal.returns-clause-fault
returns-clause-fault c = one_fault
