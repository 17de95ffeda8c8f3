use Rattle.std.proofs.Common.{◌∙◌}
use Rattle.ksh_pattern.proofs.Buildings.{open_step}
use Rattle.ksh_pattern.proofs.build.Builder.open.Goals as goal

pub returns-clause-spelled : goal.returns-clause-spelled
returns-clause-spelled c = open_step _ _ _ _ _ _ _ c.in_ok-push.ensures.ok (c.replace-before.ensures.after ∙ c.new.ensures) c.replace-before.ensures.value c.new-2.ensures
