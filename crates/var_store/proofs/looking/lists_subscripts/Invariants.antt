use Rattle.std.proofs.Common.{◌≡◌, take}
use Rattle.std.specs.List.{filter_map}
use Rattle.var_store.specs.Calls.{step_at, as_subscript}
use Rattle.var_store.proofs.looking.lists_subscripts.Given as goal

-- what the rows so far give
abbrev pub invariant-loop-row : goal.invariant-loop-row
invariant-loop-row g l = record {
  items : l.row-items ≡ l.rows;
  gathered : l.texts.items ≡ filter_map (λ r. as_subscript (step_at l.path r.0)) (take l.row-index l.row-items);
}
