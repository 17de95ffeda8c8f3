use Rattle.ksh_pattern.proofs.Buildings.{close_step}
use Rattle.ksh_pattern.proofs.build.Builder.close.Goals as goal

pub returns-clause-spelled : goal.returns-clause-spelled
returns-clause-spelled c =
    close_step _ _ c.in-Some.group _ _ _ _ _ _ c.in-Some.ensures c.in_ok-push.ensures.ok c.replace-parts.ensures.value c.in_ok-new.ensures c.replace-parts.ensures.after c.in_ok-push-2.ensures.ok
