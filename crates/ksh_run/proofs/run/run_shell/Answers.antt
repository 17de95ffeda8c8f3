use Rattle.ksh_run.proofs.Causes.{by_plan}
use Rattle.ksh_run.proofs.run.run_shell.Goals as goal

pub returns-in-Ok-root-clause-ends : goal.returns-in-Ok-root-clause-ends
returns-in-Ok-root-clause-ends g c =
    by_plan g.W.Port.Port.sees c.args.words.now c.in-Ok.plan (g.S.Source.left c.args.source.now) (g.S.Source.faults c.args.source.now) (g.S.Source.faults c.run_plan.new.source) c.run_plan.result
    c.in-Ok.ensures.means c.run_plan.ensures.ends
