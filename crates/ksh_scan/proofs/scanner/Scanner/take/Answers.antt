use Rattle.std.proofs.Common.{rules, []}
use Rattle.ksh_scan.proofs.Scans.{takes_taken, takes_deep, takes_no_expression, takes_refused}
use Rattle.ksh_scan.proofs.scanner.Scanner.take.Goals as goal

pub returns-in-Some : goal.returns-in-Some
returns-in-Some c front events h =
    takes_no_expression front events c.args.mode c.args.seen c.args.self.now.state c.args.self.now.state c.args.self.now.reading.left.items c.take.new.self.left.items [] c.take.new.marks.items c.take.new.marks.items
    (c.in-Some.kind, c.in-Some.byte) c.fault.result h (search rules) (search rules) (search rules)

pub returns-in_ok-read-in-Taken : goal.returns-in_ok-read-in-Taken
returns-in_ok-read-in-Taken c front events h =
    takes_taken front events c.args.mode c.args.seen c.ends_here_word-ends_here_word.result c.args.self.now.state c.read.new.self c.args.self.now.reading.left.items c.take.new.self.left.items [] c.take.new.marks.items
    (search rules) h (search rules) (search rules) (search rules) (search rules) (search rules)

pub returns-in-TooDeep : goal.returns-in-TooDeep
returns-in-TooDeep c front events h =
    takes_deep front events c.args.mode c.args.seen c.args.self.now.state c.args.self.now.state c.args.self.now.reading.left.items c.take.new.self.left.items [] c.take.new.marks.items c.take.new.marks.items
    c.fault-in-TooDeep.result h (search rules) (search rules)

pub returns-in_ok-kind-in-Refused : goal.returns-in_ok-kind-in-Refused
returns-in_ok-kind-in-Refused c front events h =
    takes_refused front events c.args.mode c.args.seen c.args.self.now.state c.remember.new.self.state c.remember.new.self.state c.args.self.now.reading.left.items c.remember.new.self.before.left.items
    c.take.new.self.left.items [] c.take.new.marks.items c.take.new.marks.items c.unread_by-unread.result
    (c.in_ok-kind-in-Refused.kind, c.in_ok-kind-in-Refused.byte) c.fault-in-Refused.result h (search rules) (search rules) (search rules) (search rules)
    c.in_ok-kind-in-Refused.ensures (search rules)
