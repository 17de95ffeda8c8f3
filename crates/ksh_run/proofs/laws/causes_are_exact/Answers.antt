use Rattle.ksh_run.proofs.Causes.{source_told, usage_told}
use Rattle.ksh_run.proofs.laws.causes_are_exact.Goals as goal

pub returns-clause-usage : goal.returns-clause-usage
returns-clause-usage c = usage_told

pub returns-clause-source : goal.returns-clause-source
returns-clause-source c = source_told
