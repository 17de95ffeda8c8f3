use Rattle.std.proofs.Common.{rules}
use Rattle.ksh_lower.proofs.Levels.{enters, goes_on}
use Rattle.ksh_lower.proofs.lists.go.Goals as goal

pub returns-in-Some : goal.returns-in-Some
returns-in-Some c whole waits =
    enters whole c.args.level.rest.now c.args.behind.now c.in-Some.body.now c.as_slice.result.now c.args.outer.now c.push.new.self c.args.level.line c.args.first.now.line c.args.level.done c.new.result c.args.first.now
    (record { line = c.args.level.line; rest = c.args.behind; done = c.args.level.done }) (search rules) (search rules) (search rules) (search rules) (search rules) (search rules) (search rules) (search rules) (search rules) waits

pub returns : goal.returns
returns c whole waits =
    goes_on whole c.args.level.rest.now c.args.behind.now c.args.outer.now c.args.level.line c.args.level.done c.push-2.new.self c.args.first.now c.in_ok-command.command (search rules) (search rules) (search rules) waits
