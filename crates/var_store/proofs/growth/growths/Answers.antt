use Rattle.std.proofs.Common.{arith, ap, sym, refl, ◌≡◌, ◌∙◌, ◌+◌, ◌<◌, Some, suc, slice_get, length}
use Rattle.std.proofs.lemmas.Option.{slice_get_read}
use Rattle.var_store.proofs.Stands.{grown_more, stands_at}
use Rattle.var_store.proofs.growth.growths.Goals as goal

pub loop-step-preserved : goal.loop-step-preserved
loop-step-preserved g c =
    let there = slice_get_read c.as_slice-step-items.result.now (length c.as_slice-step-items.result.now) c.loop-step.step-index c.step-item.result refl c.loop-step-test.true c.step-item.is in
    let at : slice_get c.args.path.now.steps c.loop-step.depth ≡ Some c.step-item.result = ap (slice_get c.args.path.now.steps) c.loop-step.invariant.at ∙ ap (λ xs. slice_get xs c.loop-step.step-index) (sym c.as_slice-step-items.ensures) ∙ there in
    record {
      at = ap (λ n. n + 1) c.loop-step.invariant.at;
      gathered = grown_more c.args.rows.now c.args.path.now c.loop-step.depth c.step-item.result c.loop-step.writes.items _ c.loop-step.invariant.gathered at (c.in_ok-turned.ensures c.loop-step.invariant.stands);
      stands = stands_at c.args.rows.now c.args.path.now c.loop-step.depth c.next_standing-stands.result (c.next_standing-stands.ensures c.loop-step.depth (omega arith) at c.loop-step.invariant.stands);
    }
