use Rattle.ksh_pattern.proofs.Unique.{one}
use Rattle.ksh_pattern.proofs.pattern.one_reading.Goals as goal

pub returns : goal.returns
returns c = one
