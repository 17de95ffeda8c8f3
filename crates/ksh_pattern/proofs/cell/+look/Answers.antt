use Rattle.std.proofs.Common.{ap, sym, ◌∙◌, [], ◌&&◌, ◌||◌}
use Rattle.ksh_pattern.specs.Match.{may_vanish}
use Rattle.ksh_pattern.specs.Cells.{whole_all, rest_all, whole_some, rest_some, rest_copies}
use Rattle.ksh_pattern.proofs.Walks.{whole_next, rest_next, whole_some_next, rest_some_next, group_rest_here, group_whole_here, not_rest_is}
use Rattle.ksh_pattern.proofs.cell.+look.Goals as goal

pub look_all-loop-cell-preserved : goal.look_all-loop-cell-preserved
look_all-loop-cell-preserved t c = record {
  last = c.then-before.ensures.last
      ∙ (λ i. (c.loop-cell.invariant.last i && c.look_cell-here.ensures.empty i) || c.look_cell-here.ensures.last i)
      ∙ sym (rest_next _ _ _ c.loop-cell-test.true c.cell-item.is []);
  empty = c.then-before.ensures.empty
      ∙ (λ i. c.loop-cell.invariant.empty i && c.look_cell-here.ensures.empty i)
      ∙ sym (whole_next _ _ _ c.loop-cell-test.true c.cell-item.is []);
}

pub look_some-loop-cells-preserved : goal.look_some-loop-cells-preserved
look_some-loop-cells-preserved t c = record {
  last = c.or-before.ensures.last
      ∙ (λ i. c.loop-cells.invariant.last i || (c.look_all-here.ensures.last ∙ ap (λ cs. rest_all cs []) c.deref.ensures.value) i)
      ∙ sym (rest_some_next _ _ _ c.loop-cells-test.true c.cells-item.is []);
  empty = c.or-before.ensures.empty
      ∙ (λ i. c.loop-cells.invariant.empty i || (c.look_all-here.ensures.empty ∙ ap (λ cs. whole_all cs []) c.deref.ensures.value) i)
      ∙ sym (whole_some_next _ _ _ c.loop-cells-test.true c.cells-item.is []);
}

pub look_cell-returns-in-Group-clause-last : goal.look_cell-returns-in-Group-clause-last
look_cell-returns-in-Group-clause-last t c =
    c.look_some-inner.ensures.last ∙ ap (λ cs. rest_some cs []) c.deref.ensures.value ∙ sym (group_rest_here _ _ _ c.in-Group.is)

pub look_cell-returns-in-Group-clause-empty : goal.look_cell-returns-in-Group-clause-empty
look_cell-returns-in-Group-clause-empty t c =
    c.may_vanish.ensures
    ∙ ap (may_vanish c.in-Group.kind) (c.look_some-inner.ensures.empty ∙ ap (λ cs. whole_some cs []) c.deref.ensures.value)
    ∙ sym (group_whole_here _ _ _ c.in-Group.is)

pub look_cell-returns-in-Not-clause-last : goal.look_cell-returns-in-Not-clause-last
look_cell-returns-in-Not-clause-last t c =
    c.look_copies.ensures ∙ ap (λ cs. rest_copies cs []) c.deref-in-Not.ensures.value ∙ sym (not_rest_is _ _ _ c.in-Not.is [])
