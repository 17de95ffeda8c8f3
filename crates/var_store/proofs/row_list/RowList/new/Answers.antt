use Rattle.std.proofs.Common.{◌≡◌, List, [], sym}
use Rattle.var_types.specs.Rows.{IsRising, Row}
use Rattle.var_store.proofs.Places.{rising_none}
use Rattle.var_store.proofs.row_list.RowList.new.Goals as goal

pub invariant_of-result : goal.invariant_of-result
invariant_of-result g c = rising_none _ c.new.ensures.items
