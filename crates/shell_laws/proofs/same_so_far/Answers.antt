use Rattle.shell_laws.proofs.Agree.{same_so_far}
use Rattle.shell_laws.proofs.same_so_far.Goals as goal

pub returns : goal.returns
returns c = same_so_far
