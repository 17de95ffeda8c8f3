use Rattle.std.proofs.Common.{rules}
use Rattle.ksh_lower.proofs.Levels.{ends}
use Rattle.ksh_lower.proofs.lists.leave.Goals as goal

pub returns-in_default : goal.returns-in_default
returns-in_default c whole waits =
    ends whole c.args.level.rest.now c.args.outer.now c.args.level.line c.args.level.done c.in_ok-body.body (search rules) (search rules) (search rules) waits
