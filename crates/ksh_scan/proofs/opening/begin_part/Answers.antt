use Rattle.std.proofs.Common.{rules}
use Rattle.ksh_scan.proofs.Openings.{part_begun}
use Rattle.ksh_scan.proofs.opening.begin_part.Goals as goal

pub returns-in_ok-push : goal.returns-in_ok-push
returns-in_ok-push c = part_begun c.args.at c.in-Some.last c.args.openings.now c.pop.new.self c.push.new.self (search rules) (search rules)
