use Rattle.std.proofs.Common.{ap, ◌∙◌}
use Rattle.var_store.specs.Calls.{step_at, as_subscript}
use Rattle.var_store.proofs.Lists.{gathered}
use Rattle.var_store.proofs.looking.lists_subscripts.Goals as goal

pub loop-row-preserved : goal.loop-row-preserved
loop-row-preserved g c = record {
  items = c.loop-row.invariant.items;
  gathered = gathered (λ r. as_subscript (step_at c.args.path.now r.0)) c.rows-row-items.result.now c.loop-row.row-index c.row-item.result c.loop-row-test.true c.row-item.is c.in_ok-text.text c.loop-row.texts.items _ (c.in_ok-text.ensures ∙ ap as_subscript c.step_between.ensures) c.loop-row.invariant.gathered c.in_ok-add.ensures;
}
