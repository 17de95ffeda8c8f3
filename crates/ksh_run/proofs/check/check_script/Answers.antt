use Rattle.ksh_run.proofs.Causes.{checked_words}
use Rattle.ksh_run.proofs.check.check_script.Goals as goal

pub returns-in-Ok : goal.returns-in-Ok
returns-in-Ok g c = record {
  checks = checked_words c.args.words.now c.in-Ok.plan (g.S.Source.left c.args.source.now) (g.S.Source.faults c.args.source.now) (g.S.Source.faults c.check_plan.new.source) c.check_plan.result c.in-Ok.ensures.means c.check_plan.ensures.checks;
}
