use Rattle.std.proofs.Common.{rules, ◌≡◌, ap, Ok, Err, codes}
use Rattle.shell_state.specs.declared.state.Flow.TheVariants.{Next}
use Rattle.ksh_meaning.specs.Laws.{means_then, means_stop, means_done, means_no_memory}
use Rattle.ksh_meaning.specs.Faults.{tell, goes_on}
use Rattle.ksh_meaning.specs.Subshell.{not_forked}
use Rattle.ksh_meaning.specs.Texts.{refused_words}
use Rattle.ksh_meaning.specs.Units.{ends, with_status}
use Rattle.cmd_eval.proofs.plain.not_forked.Goals as goal

pub returns-in_default-clause-means : goal.returns-in_default-clause-means
returns-in_default-clause-means g c = means_no_memory _ _ _

pub returns-in-Ok-Next-clause-means : goal.returns-in-Ok-Next-clause-means
unfolding not_forked
returns-in-Ok-Next-clause-means g c =
    let w : c.bytes.result.now ≡ refused_words (codes "fork") c.args.refusal = search rules in
    means_then (λ n. tell c.args.line (refused_words (codes "fork") c.args.refusal) c.args.state.now) (λ n. goes_on (λ s. ends (with_status s 1) Next)) c.tell.ensures.budget
    (rw (w, c.in-Ok-Next.is, c.in-Ok-Next.field-0-is) at c.tell.ensures.means) (means_done _ _ _)

pub returns-in-Ok-Exit-clause-means : goal.returns-in-Ok-Exit-clause-means
unfolding not_forked
returns-in-Ok-Exit-clause-means g c =
    let w : c.bytes.result.now ≡ refused_words (codes "fork") c.args.refusal = search rules in
    means_then (λ n. tell c.args.line (refused_words (codes "fork") c.args.refusal) c.args.state.now) (λ n. goes_on (λ s. ends (with_status s 1) Next)) c.tell.ensures.budget
    (rw (w, c.in-Ok-Exit.is, c.in-Ok-Exit.field-0-is) at c.tell.ensures.means) (means_done _ _ _)

pub returns-clause-means : goal.returns-clause-means
unfolding not_forked
returns-clause-means g c =
    let w : c.bytes.result.now ≡ refused_words (codes "fork") c.args.refusal = search rules in
    means_stop (λ n. tell c.args.line (refused_words (codes "fork") c.args.refusal) c.args.state.now) (λ n. goes_on (λ s. ends (with_status s 1) Next)) (rw (w, c.in-Err.is) at c.tell.ensures.means)
