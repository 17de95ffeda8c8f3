use Rattle.std.proofs.Common.{ap, ◌∙◌}
use Rattle.var_store.specs.Calls.{step_at, as_member}
use Rattle.var_store.proofs.Lists.{gathered}
use Rattle.var_store.proofs.looking.lists_members.Goals as goal

pub loop-row-preserved : goal.loop-row-preserved
loop-row-preserved g c = record {
  items = c.loop-row.invariant.items;
  gathered = gathered (λ r. as_member (step_at c.args.path.now r.0)) c.rows-row-items.result.now c.loop-row.row-index c.row-item.result c.loop-row-test.true c.row-item.is c.in_ok-name.name c.loop-row.names.items _ (c.in_ok-name.ensures ∙ ap as_member c.step_between.ensures) c.loop-row.invariant.gathered c.in_ok-add.ensures;
}
