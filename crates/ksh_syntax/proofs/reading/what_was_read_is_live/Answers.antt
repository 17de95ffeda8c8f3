use Rattle.ksh_syntax.proofs.Laws.{live}
use Rattle.ksh_syntax.proofs.reading.what_was_read_is_live.Goals as goal

pub returns : goal.returns
returns c = live
