use Rattle.std.proofs.Common.{rules}
use Rattle.ksh_scan.proofs.Scans.{steps, stops}
use Rattle.ksh_scan.proofs.scanner.Scanner.step.Goals as goal

pub returns-in-Ok : goal.returns-in-Ok
returns-in-Ok c text front events at =
    steps text front events c.mode-mode.result c.in-Ok.seen c.args.self.now.state c.see.new.self c.take.new.self.state c.args.self.now.reading.left.items c.take.new.self.reading.left.items c.take.new.self.marks.items c.take.result
    at (λ n k. c.mode-mode.ensures front events n k at.read) (search rules) (c.take.ensures front events at.read)

pub returns-in-Err : goal.returns-in-Err
returns-in-Err c text front events at = stops front c.mode-mode.result c.args.self.now.state c.see.new.self c.in-Err.fault (λ n k. c.mode-mode.ensures front events n k at.read) (search rules)
