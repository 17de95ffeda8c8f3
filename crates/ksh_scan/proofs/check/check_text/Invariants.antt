use Rattle.ksh_scan.proofs.Scans.{Scanned}
use Rattle.ksh_scan.proofs.check.check_text.Given as goal

abbrev pub invariant-loop : goal.invariant-loop
invariant-loop l = Scanned l.text l.scanner.reading.left.items l.scanner.state
