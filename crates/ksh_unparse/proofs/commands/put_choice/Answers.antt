use Rattle.std.proofs.Common.{rules, ◌≡◌, OnOk, subst}
use Rattle.ksh_unparse.specs.Stack.{to_write}
use Rattle.ksh_unparse.proofs.Levels.{command_simple, put_if}
use Rattle.ksh_unparse.proofs.commands.put_choice.Goals as goal

pub returns-in-Simple : goal.returns-in-Simple
returns-in-Simple c = search (rules, command_simple)

pub returns-in-If : goal.returns-in-If
returns-in-If c = subst (λ marks. OnOk c.put_if.result (to_write c.put_if.new.left.tasks ≡ marks)) (put_if c.args.command.now c.in-If.arms c.as_slice-in-If.result.now c.in-If.otherwise c.in-If.redirects c.as_slice-in-If-2.result.now (to_write c.args.left.now.tasks) c.in-If.is c.as_slice-in-If.ensures c.as_slice-in-If-2.ensures) c.put_if.ensures
