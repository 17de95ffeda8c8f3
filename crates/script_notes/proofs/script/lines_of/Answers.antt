use Rattle.std.proofs.Common.{rules}
use Rattle.script_notes.proofs.Keeping.{is_long}
use Rattle.script_notes.proofs.script.lines_of.Goals as goal

pub returns-in-Err-clause-refused : goal.returns-in-Err-clause-refused
returns-in-Err-clause-refused c = is_long c.args.text.now c.in-Err.fault c.in-Err.ensures.long.1 (search rules) (search rules)
