use Rattle.std.proofs.Common.{rules, sym}
use Rattle.var_store.proofs.Places.{found, missing}
use Rattle.var_store.proofs.row_list.cell_of.Goals as goal

pub returns-in-Ok : goal.returns-in-Ok
returns-in-Ok g c = rw (sym c.index-rows-at.is) (found c.args.rows.now _ _ c.index-rows-at.result c.in-Ok.ensures c.index-rows-at.is)

pub returns-in-Err : goal.returns-in-Err
returns-in-Err g c = missing c.args.rows.now _ _ c.requires.rising c.in-Err.ensures
