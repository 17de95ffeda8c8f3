use Rattle.std.proofs.Common.{◌≡◌, ap, ◌∙◌}
use Rattle.ksh_meaning.specs.Laws.{means_no_memory}
use Rattle.ksh_meaning.specs.Assign.{assigned}
use Rattle.cmd_eval.proofs.Settled.{settles, settles_refused}
use Rattle.cmd_eval.proofs.plain.eval_assign.Goals as goal

pub returns-in_default-clause-means : goal.returns-in_default-clause-means
returns-in_default-clause-means g c = means_no_memory _ _ _

pub returns-in-None-clause-means : goal.returns-in-None-clause-means
returns-in-None-clause-means g c =
    settles c.args.state.now.budget _ c.args.line (assigned c.args.assigns.now c.args.state.now) c.assign.new.state (c.in-Ok.ensures.done ∙ ap (λ w. (c.assign.new.state, w)) c.in-None.is)

pub returns-in-Some-clause-means : goal.returns-in-Some-clause-means
returns-in-Some-clause-means g c =
    settles_refused c.args.state.now.budget c.assign.new.state.budget _ _ c.args.line (assigned c.args.assigns.now c.args.state.now) c.assign.new.state c.in-Some.words _
    (c.in-Ok.ensures.done ∙ ap (λ w. (c.assign.new.state, w)) c.in-Some.is) c.in-Ok.ensures.budget (rw c.bytes.ensures at c.fail.ensures.means)
