use Rattle.syntax_laws.proofs.Exact.{one_fault}
use Rattle.syntax_laws.proofs.one_first_fault.Goals as goal

pub returns : goal.returns
returns c = one_fault
