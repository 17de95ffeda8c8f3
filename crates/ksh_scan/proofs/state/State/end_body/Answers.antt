use Rattle.std.proofs.Common.{rules}
use Rattle.ksh_scan.proofs.Ends.{ends_outside, ends_inside}
use Rattle.ksh_scan.proofs.state.State.end_body.Goals as goal

pub returns-in-None-clause-ends : goal.returns-in-None-clause-ends
returns-in-None-clause-ends c = ends_outside c.args.self.now c.args.token c.without_body.result c.pop.new.self (search rules) (search rules) (search rules)

pub returns-in-Some-clause-ends : goal.returns-in-Some-clause-ends
returns-in-Some-clause-ends c = ends_inside c.args.self.now c.args.token c.pop.new.self c.in-Some.below c.take_body.result c.take_body.new.self (search rules) (search rules)
