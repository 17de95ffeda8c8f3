use Rattle.std.proofs.Common.{rules}
use Rattle.ksh_scan.proofs.Scans.{begins, finished, scan_fault}
use Rattle.ksh_scan.proofs.check.check_text.Goals as goal

pub loop-init : goal.loop-init
loop-init c = begins c.args.text.now c.in_ok-scanner.scanner.reading.left.items c.in_ok-scanner.scanner.state (search rules) (search rules) (search rules)

pub returns-in-Err-clause-refused : goal.returns-in-Err-clause-refused
returns-in-Err-clause-refused c =
    scan_fault c.args.text.now c.loop.scanner.reading.left.items c.step.new.self.reading.left.items c.loop.scanner.state c.step.new.self.state c.step.new.self.marks.items c.in-Err.refused
    c.loop.invariant c.in-Err.ensures (search rules)

pub returns-then-is_finished-clause-fine : goal.returns-then-is_finished-clause-fine
returns-then-is_finished-clause-fine c =
    finished c.args.text.now c.loop.scanner.reading.left.items c.loop.scanner.state c.loop.invariant (λ front events h. c.is_finished.ensures.script front events h (search rules)) (search rules)
