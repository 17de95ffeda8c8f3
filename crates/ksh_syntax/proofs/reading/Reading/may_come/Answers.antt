use Rattle.std.proofs.Common.{rules}
use Rattle.ksh_syntax.proofs.Laws.{comes_taken, comes_deep, comes_not}
use Rattle.ksh_syntax.proofs.reading.Reading.may_come.Goals as goal

pub returns-in-Taken : goal.returns-in-Taken
returns-in-Taken c = comes_taken c.mode.result c.args.kind c.args.self.now.left.items c.in_ok-trial.trial.left.items c.take.new.self.left.items c.new-marks.result.items c.take.new.marks.items (search rules) (search rules)

pub returns-in-TooDeep : goal.returns-in-TooDeep
returns-in-TooDeep c = comes_deep c.mode.result c.args.kind c.args.self.now.left.items c.in_ok-trial.trial.left.items c.take.new.self.left.items c.new-marks.result.items c.take.new.marks.items (search rules) (search rules)

pub returns : goal.returns
returns c = comes_not c.mode.result c.args.kind c.args.self.now.left.items c.in_ok-trial.trial.left.items c.take.new.self.left.items c.new-marks.result.items c.take.new.marks.items (search rules) (search rules) (search rules)
