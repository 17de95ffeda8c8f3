use Rattle.std.proofs.Common.{rules, ◌≡◌, ap, Ok, Err}
use Rattle.kernel_ask.specs.declared.ask.Ask.TheVariants.{Asked}
use Rattle.ksh_meaning.specs.Laws.{means_then, means_stop, means_done, means_no_memory}
use Rattle.ksh_meaning.specs.Output.{write}
use Rattle.ksh_meaning.specs.Faults.{tell, told}
use Rattle.ksh_meaning.specs.Texts.{fault_line}
use Rattle.ksh_meaning.specs.Units.{asked}
use Rattle.cmd_eval.proofs.plain.tell.Goals as goal

pub returns-in_default-clause-means : goal.returns-in_default-clause-means
returns-in_default-clause-means g c = means_no_memory _ _ _

pub returns-in-Ok-ask-clause-means : goal.returns-in-Ok-ask-clause-means
unfolding tell
returns-in-Ok-ask-clause-means g c =
    means_then (λ n. asked (Asked (write 2 (fault_line c.args.line c.args.words.now))) c.args.state.now) (λ n. told) c.ask.ensures.budget
    (rw (c.in-Ok-ask.is, c.in-Ok.ensures) at c.ask.ensures.means) (rw c.settle_text.ensures.left (means_done _ _ _))

pub returns-in-Err-clause-means : goal.returns-in-Err-clause-means
unfolding tell
returns-in-Err-clause-means g c =
    means_stop (λ n. asked (Asked (write 2 (fault_line c.args.line c.args.words.now))) c.args.state.now) (λ n. told) (rw (c.in-Err.is, c.in-Ok.ensures) at c.ask.ensures.means)
