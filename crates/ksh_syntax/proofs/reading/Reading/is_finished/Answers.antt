use Rattle.std.proofs.Common.{rules}
use Rattle.ksh_syntax.proofs.Laws.{finished_script}
use Rattle.ksh_syntax.proofs.reading.Reading.is_finished.Goals as goal

pub returns-clause-script : goal.returns-clause-script
returns-clause-script c front events h done = finished_script front c.args.self.now.left.items events (search rules) h
