use Rattle.std.proofs.Common.{◌≡◌, ◌≤◌, ◌<◌, ◌||◌, ◌&&◌, [], get_or, length, arith, sym, ap, refl, ◌∙◌}
use Rattle.std.proofs.lemmas.List.{length-set}
use denote.Param.Weighed.{at_most, most}
use Rattle.std.specs.Global.{Vec}
use Rattle.ksh_pattern.specs.Match.{goes_on}
use Rattle.ksh_pattern.specs.Cells.{whole_some, rest_some}
use Rattle.ksh_pattern.specs.declared.cell.Cell.{Cell, size-Cell}
use Rattle.std.proofs.lemmas.Result.{IfOk-weaker, on_ok_weaker}
use Rattle.ksh_pattern.proofs.Walks.{whole_some_next, rest_some_next, ahead_item, whole_next, rest_next}
use Rattle.ksh_pattern.proofs.Shifts.{ahead_next, old_item, same_next, shifts_next, dead_next, same_some_next, shifts_some_next, dead_some_next, copies_last_next, copies_shifts_next, group_shifts, repeated_dead, cell_shifts, cell_same, cell_dead, cell_last, cell_empty, not_shifts, not_last, not_dead}
use Rattle.ksh_pattern.proofs.cell.+shift.Goals as goal

pub shift_all-shift_cell-requires : goal.shift_all-shift_cell-requires
shift_all-shift_cell-requires t c =
    let e : get_or c.loop-cell.cell-items c.loop-cell.cell-index c.cell-item.result ≡ get_or c.args.cells.now.items c.loop-cell.cell-index c.cell-item.result = ahead_item c.loop-cell.cell-items c.args.cells.now.items c.loop-cell.cell-index c.cell-item.result c.loop-cell.invariant.ahead in
    let lt : c.loop-cell.cell-index < length c.args.cells.now.items = omega (arith, c.loop-cell-test.true, c.loop-cell.invariant.len) in
    let h : size-Cell (get_or c.args.cells.now.items c.loop-cell.cell-index c.cell-item.result) ≤ _ = at_most size-Cell c.args.cells.now.items c.loop-cell.cell-index c.cell-item.result lt in
    rw e (omega (arith, h, c.decreases), tt)

pub shift_all-loop-cell-preserved : goal.shift_all-loop-cell-preserved
shift_all-loop-cell-preserved t c =
    let lt : c.loop-cell.cell-index < length c.args.cells.now.items = omega (arith, c.loop-cell-test.true, c.loop-cell.invariant.len) in
    let here : c.loop-cell.cell-index < length c.loop-cell.cell-items = omega (arith, lt, c.loop-cell.invariant.len) in
    let o : get_or c.loop-cell.cell-items c.loop-cell.cell-index c.cell-item.result ≡ _ = old_item _ _ _ _ _ c.loop-cell.invariant.ahead c.loop-cell.invariant.len here refl in
    record {
      last = c.then-so_far.ensures.last
          ∙ (λ i. (c.loop-cell.invariant.last i && c.in_ok-step.ensures.empty i) || c.in_ok-step.ensures.last i)
          ∙ sym (rest_next _ _ _ lt o []);
      empty = c.then-so_far.ensures.empty
          ∙ (λ i. c.loop-cell.invariant.empty i && c.in_ok-step.ensures.empty i)
          ∙ sym (whole_next _ _ _ lt o []);
      same = same_next _ _ _ _ _ here lt o c.loop-cell.invariant.same c.in_ok-step.ensures.same;
      shifts = shifts_next _ _ _ _ _ _ _ _ _ _ here lt o c.loop-cell.invariant.shifts c.loop-cell.invariant.last c.loop-cell.invariant.empty c.reaches.ensures c.in_ok-step.ensures.same c.in_ok-step.ensures.shifts;
      live = dead_next _ _ _ _ _ _ here c.loop-cell.invariant.live c.in_ok-step.ensures.live c.then-so_far.ensures.live;
      ahead = ahead_next c.loop-cell.cell-items c.args.cells.now.items c.loop-cell.cell-index c.shift_cell.new.cell c.loop-cell.invariant.ahead;
      len = length-set _ _ _ ∙ c.loop-cell.invariant.len;
    }

pub shift_cell-returns-in-Group-clause-last : goal.shift_cell-returns-in-Group-clause-last
shift_cell-returns-in-Group-clause-last t c =
    IfOk-weaker c.shift_group.result _ _ (λ s h. cell_last _ _ _ _ _ _ c.in-Group.is c.in-Group.kind-is c.in-Group.alternatives-is h) c.shift_group.ensures.last

pub shift_cell-returns-in-Group-clause-empty : goal.shift_cell-returns-in-Group-clause-empty
shift_cell-returns-in-Group-clause-empty t c =
    IfOk-weaker c.shift_group.result _ _ (λ s h. cell_empty _ _ _ _ _ _ c.in-Group.is c.in-Group.kind-is c.in-Group.alternatives-is h) c.shift_group.ensures.empty

pub shift_cell-returns-in-Group-clause-same : goal.shift_cell-returns-in-Group-clause-same
shift_cell-returns-in-Group-clause-same t c =
    on_ok_weaker c.shift_group.result (λ h. cell_same _ _ _ _ _ _ c.in-Group.is c.in-Group.kind-is c.in-Group.alternatives-is h) c.shift_group.ensures.same

pub shift_cell-returns-in-Group-clause-shifts : goal.shift_cell-returns-in-Group-clause-shifts
shift_cell-returns-in-Group-clause-shifts t c =
    on_ok_weaker c.shift_group.result (λ h. cell_shifts _ _ _ _ _ _ _ _ c.in-Group.is c.in-Group.kind-is c.in-Group.alternatives-is h) c.shift_group.ensures.shifts

pub shift_cell-returns-in-Group-clause-live : goal.shift_cell-returns-in-Group-clause-live
shift_cell-returns-in-Group-clause-live t c =
    IfOk-weaker c.shift_group.result _ _ (λ s h off. cell_dead _ _ (h off)) c.shift_group.ensures.live

pub shift_cell-returns-in-Not-clause-last : goal.shift_cell-returns-in-Not-clause-last
shift_cell-returns-in-Not-clause-last t c =
    IfOk-weaker c.shift_not.result _ _ (λ s h. not_last _ _ _ _ _ c.in-Not.is c.in-Not.copies-is h) c.shift_not.ensures.last

pub shift_cell-returns-in-Not-clause-shifts : goal.shift_cell-returns-in-Not-clause-shifts
shift_cell-returns-in-Not-clause-shifts t c =
    on_ok_weaker c.shift_not.result (λ h. not_shifts _ _ _ _ _ _ _ _ _ c.in-Not.is c.in-Not.alternatives-is (c.as_slice.ensures ∙ c.get.ensures ∙ c.in-Not.alternatives-is) c.in-Not.copies-is h) c.shift_not.ensures.shifts

pub shift_cell-returns-in-Not-clause-live : goal.shift_cell-returns-in-Not-clause-live
shift_cell-returns-in-Not-clause-live t c =
    IfOk-weaker c.shift_not.result _ _ (λ s h off. not_dead _ _ (h off)) c.shift_not.ensures.live

pub shift_group-returns-clause-shifts : goal.shift_group-returns-clause-shifts
shift_group-returns-clause-shifts t c =
    group_shifts c.args.kind c.shift_some.new.alternatives c.args.alternatives.now _ _ _ c.in_ok-step.ensures.same c.in_ok-step.ensures.shifts
    (c.enters_group-enters.ensures ∙ ap (λ cs. c.args.entering || (goes_on c.args.kind && rest_some cs [])) c.deref.ensures.value)

pub shift_group-returns-clause-live : goal.shift_group-returns-clause-live
shift_group-returns-clause-live t c off =
    repeated_dead c.args.kind (whole_some c.shift_some.new.alternatives.items) (rest_some c.shift_some.new.alternatives.items) (c.in_ok-step.ensures.live off)

pub shift_some-shift_all-requires : goal.shift_some-shift_all-requires
shift_some-shift_all-requires t c =
    let e : get_or c.loop-cells.cells-items c.loop-cells.cells-index c.cells-item.result ≡ get_or c.args.alternatives.now.items c.loop-cells.cells-index c.cells-item.result = ahead_item c.loop-cells.cells-items c.args.alternatives.now.items c.loop-cells.cells-index c.cells-item.result c.loop-cells.invariant.ahead in
    let lt : c.loop-cells.cells-index < length c.args.alternatives.now.items = omega (arith, c.loop-cells-test.true, c.loop-cells.invariant.len) in
    let h : most size-Cell (get_or c.args.alternatives.now.items c.loop-cells.cells-index c.cells-item.result).items ≤ _ = at_most (λ (v : Vec Cell). most size-Cell v.items) c.args.alternatives.now.items c.loop-cells.cells-index c.cells-item.result lt in
    rw e (omega (arith, h, c.decreases), tt)

pub shift_copies-shift_some-requires : goal.shift_copies-shift_some-requires
shift_copies-shift_some-requires t c =
    let e : get_or c.loop-copy.copy-items c.loop-copy.copy-index c.copy-item.result ≡ get_or c.args.copies.now.items c.loop-copy.copy-index c.copy-item.result = ahead_item c.loop-copy.copy-items c.args.copies.now.items c.loop-copy.copy-index c.copy-item.result c.loop-copy.invariant.ahead in
    let lt : c.loop-copy.copy-index < length c.args.copies.now.items = omega (arith, c.loop-copy-test.true, c.loop-copy.invariant.len) in
    let h : most (λ (v : Vec Cell). most size-Cell v.items) (get_or c.args.copies.now.items c.loop-copy.copy-index c.copy-item.result).items ≤ _ = at_most (λ (u : Vec (Vec Cell)). most (λ (v : Vec Cell). most size-Cell v.items) u.items) c.args.copies.now.items c.loop-copy.copy-index c.copy-item.result lt in
    rw e (omega (arith, h, c.decreases), tt)

pub shift_some-loop-cells-preserved : goal.shift_some-loop-cells-preserved
shift_some-loop-cells-preserved t c =
    let lt : c.loop-cells.cells-index < length c.args.alternatives.now.items = omega (arith, c.loop-cells-test.true, c.loop-cells.invariant.len) in
    let here : c.loop-cells.cells-index < length c.loop-cells.cells-items = omega (arith, lt, c.loop-cells.invariant.len) in
    let o : get_or c.loop-cells.cells-items c.loop-cells.cells-index c.cells-item.result ≡ _ = old_item _ _ _ _ _ c.loop-cells.invariant.ahead c.loop-cells.invariant.len here refl in
    let was : Vec Cell = get_or c.loop-cells.cells-items c.loop-cells.cells-index c.cells-item.result in
    let new : Vec Cell = c.shift_all.new.cells in
    record {
      last = c.or-so_far.ensures.last
          ∙ (λ i. c.loop-cells.invariant.last i || c.in_ok-step.ensures.last i)
          ∙ sym (rest_some_next _ _ _ lt o []);
      empty = c.or-so_far.ensures.empty
          ∙ (λ i. c.loop-cells.invariant.empty i || c.in_ok-step.ensures.empty i)
          ∙ sym (whole_some_next _ _ _ lt o []);
      same = same_some_next _ _ _ was new here lt o c.loop-cells.invariant.same c.in_ok-step.ensures.same;
      shifts = shifts_some_next _ _ _ was new _ _ here lt o c.loop-cells.invariant.shifts c.in_ok-step.ensures.shifts;
      live = dead_some_next _ _ new _ _ _ here c.loop-cells.invariant.live c.in_ok-step.ensures.live c.or-so_far.ensures.live;
      ahead = ahead_next c.loop-cells.cells-items c.args.alternatives.now.items c.loop-cells.cells-index new c.loop-cells.invariant.ahead;
      len = length-set _ _ _ ∙ c.loop-cells.invariant.len;
    }

pub shift_copies-loop-copy-preserved : goal.shift_copies-loop-copy-preserved
shift_copies-loop-copy-preserved t c =
    let lt : c.loop-copy.copy-index < length c.args.copies.now.items = omega (arith, c.loop-copy-test.true, c.loop-copy.invariant.len) in
    let here : c.loop-copy.copy-index < length c.loop-copy.copy-items = omega (arith, lt, c.loop-copy.invariant.len) in
    let o : get_or c.loop-copy.copy-items c.loop-copy.copy-index c.copy-item.result ≡ _ = old_item _ _ _ _ _ c.loop-copy.invariant.ahead c.loop-copy.invariant.len here refl in
    let was : Vec (Vec Cell) = get_or c.loop-copy.copy-items c.loop-copy.copy-index c.copy-item.result in
    let new : Vec (Vec Cell) = c.shift_some.new.alternatives in
    record {
      last = copies_last_next _ _ was _ _ _ lt o c.fails_too-last.ensures c.loop-copy.invariant.last c.in_ok-step.ensures.last;
      shifts = copies_shifts_next _ _ _ was new _ here lt o c.loop-copy.invariant.shifts c.in_ok-step.ensures.shifts;
      ahead = ahead_next c.loop-copy.copy-items c.args.copies.now.items c.loop-copy.copy-index new c.loop-copy.invariant.ahead;
      len = length-set _ _ _ ∙ c.loop-copy.invariant.len;
    }
