use Rattle.std.proofs.Common.{rules, ◌≡◌}
use Rattle.ksh_scan.specs.declared.refusal.SyntaxRefused.TheVariants as scan
use Rattle.ksh_parser.proofs.Building.{of_refused, told}
use Rattle.ksh_parser.proofs.parse.parse_script.Goals as goal

pub returns-in-Err-Fault-clause-fault : goal.returns-in-Err-Fault-clause-fault
returns-in-Err-Fault-clause-fault c =
    let refused : c.in-Err-Fault.field-0 ≡ scan.Fault c.in-Err-Fault.fault = search rules in
    rw refused (told c.args.text.now c.in-Err-Fault.fault
    (of_refused c.args.text.now c.note_script.result c.in-Err-Fault.field-0 c.in-Err-Fault.fault c.note_script.ensures.refused (search rules) refused))
