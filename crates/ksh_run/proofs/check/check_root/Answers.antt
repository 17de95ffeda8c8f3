use Rattle.std.proofs.Common.{rules}
use Rattle.ksh_run.proofs.Causes.{refused_check}
use Rattle.ksh_run.proofs.check.check_root.Goals as goal

pub returns-in-Err-Fault-clause-ends : goal.returns-in-Err-Fault-clause-ends
returns-in-Err-Fault-clause-ends g c =
    refused_check g.Po.Port.sees c.args.text.now c.in-Err-Fault.fault c.in-Err-Fault.field-0 c.refuse_text.result (search rules) c.in-Err-Fault.ensures.refused c.refuse_text.ensures.refuses
