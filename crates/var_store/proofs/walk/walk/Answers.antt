use Rattle.std.proofs.Common.{arith, ap, sym, refl, ◌≡◌, ◌∙◌, ◌+◌, ◌<◌, Some, suc, slice_get, length}
use Rattle.std.proofs.lemmas.Option.{slice_get_read}
use Rattle.var_store.proofs.Stands.{walked_more, stands_at}
use Rattle.var_store.proofs.walk.walk.Goals as goal

pub loop-step-preserved : goal.loop-step-preserved
loop-step-preserved g c =
    let there = slice_get_read c.as_slice-step-items.result.now (length c.as_slice-step-items.result.now) c.loop-step.step-index c.step-item.result refl c.loop-step-test.true c.step-item.is in
    let at : slice_get c.args.path.now.steps c.loop-step.depth ≡ Some c.step-item.result = ap (slice_get c.args.path.now.steps) c.loop-step.invariant.at ∙ ap (λ xs. slice_get xs c.loop-step.step-index) (sym c.as_slice-step-items.ensures) ∙ there in
    record {
      at = ap (λ n. n + 1) c.loop-step.invariant.at;
      faults = c.and-faults.ensures ∙ walked_more c.args.rows.now c.args.path.now c.loop-step.depth c.step-item.result c.loop-step.stands c.absent-absent.result c.subscripts_refused-refused.result c.loop-step.faults c.faults_of.result c.loop-step.invariant.faults at c.faults_of.ensures c.absent-absent.ensures c.subscripts_refused-refused.ensures c.loop-step.invariant.stands;
      stands = stands_at c.args.rows.now c.args.path.now c.loop-step.depth c.next_standing-stands.result (c.next_standing-stands.ensures c.loop-step.depth (omega arith) at c.loop-step.invariant.stands);
    }
