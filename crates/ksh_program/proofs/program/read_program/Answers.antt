use Rattle.std.proofs.Common.{rules}
use Rattle.ksh_program.proofs.Programs.{passes}
use Rattle.ksh_program.proofs.program.read_program.Goals as goal

pub returns-in-Err-clause-fault : goal.returns-in-Err-clause-fault
returns-in-Err-clause-fault c = passes c.args.text.now c.parse_script.result c.in-Err.why c.parse_script.ensures.fault (search rules)
