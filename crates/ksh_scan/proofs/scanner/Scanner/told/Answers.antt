use Rattle.std.proofs.Common.{rules}
use Rattle.ksh_scan.proofs.Scans.{told_word}
use Rattle.ksh_scan.proofs.scanner.Scanner.told.Goals as goal

pub returns-in_ok-assignments-in-Word : goal.returns-in_ok-assignments-in-Word
returns-in_ok-assignments-in-Word c front events h =
    let read = h c.in-Word.is in
    told_word c.args.unread front c.args.self.now.state c.args.seen c.in_ok-names-in-Word.names c.in_ok-others-in-Word.others c.in_ok-assignments-in-Word.assignments
    c.word_fault.result c.in-Word.is (c.in_ok-names-in-Word.ensures front events read) (c.in_ok-others-in-Word.ensures front events read) (c.in_ok-assignments-in-Word.ensures front events read) (search rules)
