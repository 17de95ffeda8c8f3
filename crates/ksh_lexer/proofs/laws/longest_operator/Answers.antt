use Rattle.ksh_lexer.proofs.Longest.{longest_operator, longest_redirection}
use Rattle.ksh_lexer.proofs.laws.longest_operator.Goals as goal

pub returns-clause-operator : goal.returns-clause-operator
returns-clause-operator c = longest_operator

pub returns-clause-redirection : goal.returns-clause-redirection
returns-clause-redirection c = longest_redirection
