use Rattle.std.proofs.Common.{◌≡◌, take}
use Rattle.std.specs.List.{filter_map}
use Rattle.var_store.specs.Calls.{name_in}
use Rattle.var_store.proofs.looking.names.Given as goal

-- what the rows so far give
abbrev pub invariant-loop-row : goal.invariant-loop-row
invariant-loop-row g l = record {
  items : l.row-items ≡ l.rows;
  gathered : l.names.items ≡ filter_map (λ r. name_in l.scope r.0) (take l.row-index l.row-items);
}
