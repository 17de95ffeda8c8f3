use Rattle.std.proofs.Common.{arith, inr, ◌≡◌, ◌∙◌, sym, refl, Some, slice_get, length, ◌<◌, ◌+◌, ◌-◌, ◌/◌}
use Rattle.std.specs.declared.cmp.Ordering.TheVariants.{Less, Equal, Greater}
use Rattle.std.proofs.lemmas.Option.{slice_get_read}
use Rattle.var_types.specs.Totals.{path_total}
use Rattle.var_types.specs.Order.{path_cmp}
use Rattle.var_store.proofs.Sorted.{before_one, before_more, behind_more, there_one}
use Rattle.var_store.specs.Fronts.{front}
use Rattle.var_store.proofs.row_list.place.Goals as goal

pub loop-low-preserved-in-Less : goal.loop-low-preserved-in-Less
loop-low-preserved-in-Less g c =
    let inside : c.loop-low.low + (c.loop-low.high - c.loop-low.low) / 2 < length c.args.rows.now = (let w = c.loop-low.invariant.within in let t = c.loop-low-test.true in omega arith) in
    let at = slice_get_read c.args.rows.now (length c.args.rows.now) _ c.index-rows-middle.result refl inside c.index-rows-middle.is in
    record {
      ordered = omega arith;
      within = c.loop-low.invariant.within;
      before = before_more path_total (front c.args.depth c.args.path.now) c.args.rows.now c.requires.rising _ _ at (sym c.compare_front.ensures ∙ c.in-Less.is);
      behind = c.loop-low.invariant.behind;
    }

pub returns-in-Equal : goal.returns-in-Equal
returns-in-Equal g c =
    let inside : c.loop-low.low + (c.loop-low.high - c.loop-low.low) / 2 < length c.args.rows.now = (let w = c.loop-low.invariant.within in let t = c.loop-low-test.true in omega arith) in
    let at = slice_get_read c.args.rows.now (length c.args.rows.now) _ c.index-rows-middle.result refl inside c.index-rows-middle.is in
    let same : path_cmp c.index-rows-middle.result.0 (front c.args.depth c.args.path.now) ≡ Equal = sym c.compare_front.ensures ∙ c.in-Equal.is in (
      inside,
      record {
        within = omega arith;
        before = before_one path_total (front c.args.depth c.args.path.now) c.args.rows.now c.requires.rising _ _ at (inr same);
        there = there_one path_total (front c.args.depth c.args.path.now) c.args.rows.now c.requires.rising _ _ Equal at same;
      },
    )

pub loop-low-preserved : goal.loop-low-preserved
loop-low-preserved g c =
    let inside : c.loop-low.low + (c.loop-low.high - c.loop-low.low) / 2 < length c.args.rows.now = (let w = c.loop-low.invariant.within in let t = c.loop-low-test.true in omega arith) in
    let at = slice_get_read c.args.rows.now (length c.args.rows.now) _ c.index-rows-middle.result refl inside c.index-rows-middle.is in
    record {
      ordered = omega arith;
      within = omega arith;
      before = c.loop-low.invariant.before;
      behind = behind_more path_total (front c.args.depth c.args.path.now) c.args.rows.now c.requires.rising _ _ at (sym c.compare_front.ensures ∙ c.in-Greater.is);
    }
