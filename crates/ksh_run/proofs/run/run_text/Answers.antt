use Rattle.std.proofs.Common.{rules}
use Rattle.ksh_run.proofs.Causes.{refused_text}
use Rattle.ksh_run.proofs.run.run_text.Goals as goal

pub returns-in-Err-Fault-clause-ends : goal.returns-in-Err-Fault-clause-ends
returns-in-Err-Fault-clause-ends g c =
    refused_text g.Po.Port.sees c.args.budget c.args.text.now c.in-Err-Fault.fault c.read_program.result c.in-Err-Fault.field-0 c.refuse_text.result
    c.read_program.ensures.fault (search rules) (search rules) c.refuse_text.ensures.refuses
