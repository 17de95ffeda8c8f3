use Rattle.ksh_scan.proofs.Openings.{popped}
use Rattle.ksh_scan.proofs.opening.close.Goals as goal

pub returns : goal.returns
returns c = popped c.pop.result c.args.openings.now c.pop.new.self c.pop.ensures
