use Rattle.std.proofs.Common.{◌≡◌, rules, sym, ◌∙◌}
use Rattle.std.specs.List.{insert}
use Rattle.var_types.specs.Rows.{IsRising}
use Rattle.var_store.specs.Changes.{with_row}
use Rattle.var_store.proofs.Places.{put_found, put_missing, rising_row}
use Rattle.var_store.proofs.row_list.write_one.Goals as goal

pub returns-in-Ok-clause-written : goal.returns-in-Ok-clause-written
returns-in-Ok-clause-written g c =
    let place = rw c.as_slice.ensures.value at c.in-Ok.ensures in
    put_found c.args.rows.now.items c.args.path _ c.index_mut.result.now c.args.cell place c.index_mut.ensures.value

pub returns-in-Ok-clause-rising : goal.returns-in-Ok-clause-rising
returns-in-Ok-clause-rising g c =
    let place = rw c.as_slice.ensures.value at c.in-Ok.ensures in
    rw (put_found c.args.rows.now.items c.args.path _ c.index_mut.result.now c.args.cell place c.index_mut.ensures.value) (rising_row c.args.rows.now.items c.args.path c.args.cell c.requires.rising)

pub returns-in-Err-clause-written : goal.returns-in-Err-clause-written
returns-in-Err-clause-written g c =
    let place = rw c.as_slice.ensures.value at c.in-Err.ensures in
    let is : c.insert-written.new.self.items ≡ insert c.args.rows.now.items c.in-Err.at (c.args.path, c.args.cell) = search rules in
    is ∙ put_missing c.args.rows.now.items c.args.path _ c.args.cell place

pub returns-in-Err-clause-rising : goal.returns-in-Err-clause-rising
returns-in-Err-clause-rising g c =
    let place = rw c.as_slice.ensures.value at c.in-Err.ensures in
    let is : c.insert-written.new.self.items ≡ insert c.args.rows.now.items c.in-Err.at (c.args.path, c.args.cell) = search rules in
    rw (is ∙ put_missing c.args.rows.now.items c.args.path _ c.args.cell place) (rising_row c.args.rows.now.items c.args.path c.args.cell c.requires.rising)
