use Rattle.std.proofs.Common.{rules}
use Rattle.ksh_scan.proofs.Scans.{is_long}
use Rattle.ksh_scan.proofs.scanner.Scanner.new.Goals as goal

pub returns-in-Err-clause-refused : goal.returns-in-Err-clause-refused
returns-in-Err-clause-refused c = is_long c.args.text.now c.in-Err.fault c.in-Err.ensures.long.1 (search rules) (search rules)
