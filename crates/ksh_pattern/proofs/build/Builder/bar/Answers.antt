use Rattle.std.proofs.Common.{◌∙◌}
use Rattle.ksh_pattern.proofs.Buildings.{bar_step}
use Rattle.ksh_pattern.proofs.build.Builder.bar.Goals as goal

pub returns-clause-spelled : goal.returns-clause-spelled
returns-clause-spelled c =
    bar_step _ _ _ c.in-Some.group _ _ _ _ c.in-Some.ensures c.in_ok-push.ensures.ok c.replace-parts.ensures.value c.in_ok-push-2.ensures.ok (c.replace-parts.ensures.after ∙ c.new.ensures)
