use Rattle.std.proofs.Common.{rules, ◌≡◌, ap, Ok, Err}
use Rattle.shell_state.specs.declared.state.Flow.TheVariants.{Exit}
use Rattle.ksh_meaning.specs.Laws.{means_then, means_stop, means_done, means_no_memory}
use Rattle.ksh_meaning.specs.Faults.{tell, goes_on, fail}
use Rattle.ksh_meaning.specs.Units.{ends, with_status}
use Rattle.cmd_eval.proofs.plain.fail.Goals as goal

pub returns-in-Ok-Next-clause-means : goal.returns-in-Ok-Next-clause-means
unfolding fail
returns-in-Ok-Next-clause-means g c =
    means_then (λ n. tell c.args.line c.args.words.now c.args.state.now) (λ n. goes_on (λ s. ends (with_status s 1) Exit)) c.tell.ensures.budget
    (rw (c.in-Ok-Next.is, c.in-Ok-Next.field-0-is) at c.tell.ensures.means) (means_done _ _ _)

pub returns-in-Ok-Exit-clause-means : goal.returns-in-Ok-Exit-clause-means
unfolding fail
returns-in-Ok-Exit-clause-means g c =
    means_then (λ n. tell c.args.line c.args.words.now c.args.state.now) (λ n. goes_on (λ s. ends (with_status s 1) Exit)) c.tell.ensures.budget
    (rw (c.in-Ok-Exit.is, c.in-Ok-Exit.field-0-is) at c.tell.ensures.means) (means_done _ _ _)

pub returns-in-Err-clause-means : goal.returns-in-Err-clause-means
unfolding fail
returns-in-Err-clause-means g c =
    means_stop (λ n. tell c.args.line c.args.words.now c.args.state.now) (λ n. goes_on (λ s. ends (with_status s 1) Exit)) (rw (c.in-Err.is) at c.tell.ensures.means)
