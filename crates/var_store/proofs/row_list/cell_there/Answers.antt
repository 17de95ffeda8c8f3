use Rattle.std.proofs.Common.{sym}
use Rattle.var_store.proofs.Places.{found}
use Rattle.var_store.proofs.row_list.cell_there.Goals as goal

pub returns : goal.returns
returns g c = rw (sym c.index-rows-at.is) (found c.args.rows.now c.args._path.now c.args.at c.index-rows-at.result c.requires c.index-rows-at.is)
