use Rattle.std.proofs.Common.{rules}
use Rattle.ksh_run.proofs.Causes.{faulty_text}
use Rattle.ksh_run.proofs.check.check_bytes.Goals as goal

pub returns-in-Err-Fault : goal.returns-in-Err-Fault
returns-in-Err-Fault c = record {
  checks = faulty_text c.args.text.now c.in-Err-Fault.fault c.in-Err-Fault.field-0 c.faulty.result (search rules) c.in-Err-Fault.ensures.refused c.faulty.ensures;
}
