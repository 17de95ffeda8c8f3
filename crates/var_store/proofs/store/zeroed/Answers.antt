use Rattle.std.proofs.Common.{◌≡◌, true, arith, sym, ap, ◌∙◌}
use Rattle.var_types.specs.Rows.{cell_at}
use Rattle.var_store.specs.Calls.{is_indexed}
use Rattle.var_store.proofs.Zeros.{zeroed_more}
use Rattle.var_store.proofs.store.zeroed.Goals as goal

pub loop-left-preserved : goal.loop-left-preserved
loop-left-preserved g c =
    let array : is_indexed (cell_at c.loop-left.zero c.args.rows.now) ≡ true = ap is_indexed (sym c.find_row-in-loop-left.ensures) ∙ sym c.is_array-in-loop-left.ensures ∙ c.if-is_array.true in
    zeroed_more c.args.rows.now c.loop-left.zero c.in_ok-zero-2.zero _ c.loop-left.left c.loop-left-test.true array c.in_ok-zero-2.ensures c.loop-left.invariant
