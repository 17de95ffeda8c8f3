use Rattle.std.proofs.Common.{◌≡◌, take}
use Rattle.std.specs.List.{filter_map}
use Rattle.var_store.specs.Calls.{step_at, as_member}
use Rattle.var_store.proofs.looking.lists_members.Given as goal

-- what the rows so far give
abbrev pub invariant-loop-row : goal.invariant-loop-row
invariant-loop-row g l = record {
  items : l.row-items ≡ l.rows;
  gathered : l.names.items ≡ filter_map (λ r. as_member (step_at l.path r.0)) (take l.row-index l.row-items);
}
