use Rattle.std.proofs.Common.{◌≡◌, ◌≤◌, ◌+◌, length}
use Rattle.std.specs.Vec.{vec_len, vec_capacity}
use Rattle.std.specs.Vec.Iter.{into_iter_items}
use Rattle.var_types.specs.Rows.{IsRising}
use Rattle.var_store.specs.Changes.{with_rows}
use Rattle.var_store.proofs.row_list.RowList.write.Given as goal

-- what is left to be written has room, and gives the whole
abbrev pub invariant-loop-path : goal.invariant-loop-path
invariant-loop-path g l = record {
  next : (goal.iterator-loop-path g).can_next l.path-iterator;
  finite : (goal.iterator-loop-path g).is_finite l.path-iterator;
  rising : IsRising l.self-inside.rows.items;
  room : vec_len l.self-inside.rows + length (into_iter_items l.path-iterator) ≤ vec_capacity l.self-inside.rows;
  rest : with_rows (into_iter_items l.path-iterator) l.self-inside.rows.items ≡ with_rows l.fn.writes.items l.fn.self;
}
