use Rattle.kernel_laws.proofs.Laws.{counts, ended_hold_none}
use Rattle.kernel_laws.proofs.handles_are_counted.Goals as goal

pub returns-clause-counts : goal.returns-clause-counts
returns-clause-counts g c = counts _

pub returns-clause-ended : goal.returns-clause-ended
returns-clause-ended g c = ended_hold_none _
