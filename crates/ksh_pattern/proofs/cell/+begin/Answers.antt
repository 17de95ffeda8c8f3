use Rattle.std.proofs.Common.{ap, sym, ◌∙◌, ◌&&◌, ◌∷◌, not, refl}
use Rattle.std.proofs.lemmas.Result.{IfOk-weaker}
use Rattle.ksh_pattern.specs.Match.{matches, one_matches}
use Rattle.ksh_pattern.specs.Cells.{whole_all, rest_all, whole_some, rest_some}
use Rattle.ksh_pattern.proofs.Levels.{group_is}
use Rattle.ksh_pattern.proofs.Walks.{begin_rest, begin_whole, begin_some_rest, begin_some_whole, passes_on, group_begins_whole, group_begins_rest, not_begins_rest}
use Rattle.ksh_pattern.proofs.cell.+begin.Goals as goal

pub begin_all-loop-part-preserved : goal.begin_all-loop-part-preserved
begin_all-loop-part-preserved t c = record {
  whole = λ w. ap (λ cs. whole_all cs w) c.in_ok-push.ensures.items
      ∙ begin_whole _ _ _ _ _ c.loop-part-test.true c.part-item.is c.loop-part.invariant.whole c.in_ok-cell.ensures.whole w;
  rest = λ w. ap (λ cs. rest_all cs w) c.in_ok-push.ensures.items
      ∙ begin_rest _ _ _ _ _ _ _ _ c.loop-part-test.true c.part-item.is c.loop-part.invariant.rest c.loop-part.invariant.enters c.in_ok-cell.ensures.whole c.in_ok-cell.ensures.rest w;
  enters = c.passes-enters.ensures ∙ passes_on _ _ _ _ _ c.loop-part-test.true c.part-item.is c.loop-part.invariant.enters;
}

pub begin_some-loop-parts-preserved : goal.begin_some-loop-parts-preserved
begin_some-loop-parts-preserved t c = record {
  whole = λ w. ap (λ cs. whole_some cs w) c.in_ok-push.ensures.items
      ∙ begin_some_whole _ _ _ c.loop-parts.begun.items c.in_ok-cells.cells c.loop-parts-test.true c.parts-item.is c.loop-parts.invariant.whole (λ x. c.in_ok-cells.ensures.whole x ∙ ap (λ ps. matches ps x) c.as_slice.ensures) w;
  rest = λ w. ap (λ cs. rest_some cs w) c.in_ok-push.ensures.items
      ∙ begin_some_rest _ _ _ c.loop-parts.begun.items c.in_ok-cells.cells _ _ c.loop-parts-test.true c.parts-item.is c.loop-parts.invariant.rest (λ x. c.in_ok-cells.ensures.rest x ∙ ap (λ ps. c.args.entering && matches ps (c.args.byte ∷ x)) c.as_slice.ensures) w;
}

pub begin_part-returns-in-Group-clause-whole : goal.begin_part-returns-in-Group-clause-whole
begin_part-returns-in-Group-clause-whole t c =
    IfOk-weaker c.begin_group.result _ _ (λ d h w. h w ∙ sym (group_is _ _ _ _ c.in-Group.is refl w)) c.begin_group.ensures.whole

pub begin_part-returns-in-Group-clause-rest : goal.begin_part-returns-in-Group-clause-rest
begin_part-returns-in-Group-clause-rest t c =
    IfOk-weaker c.begin_group.result _ _ (λ d h w. h w ∙ ap (λ b. c.args.entering && b) (sym (group_is _ _ _ _ c.in-Group.is refl (c.args.byte ∷ w)))) c.begin_group.ensures.rest

pub begin_group-returns-clause-whole : goal.begin_group-returns-clause-whole
begin_group-returns-clause-whole t c =
    group_begins_whole _ _ c.as_slice-2.result.now c.in_ok-cells.cells (sym c.is_not.ensures ∙ c.if-is_not.false) (c.as_slice-2.ensures ∙ c.get-2.ensures) c.in_ok-cells.ensures.whole

pub begin_group-returns-clause-rest : goal.begin_group-returns-clause-rest
begin_group-returns-clause-rest t c =
    group_begins_rest _ _ c.as_slice-2.result.now c.in_ok-cells.cells _ _ (sym c.is_not.ensures ∙ c.if-is_not.false) (c.as_slice-2.ensures ∙ c.get-2.ensures) c.in_ok-cells.ensures.whole c.in_ok-cells.ensures.rest

pub begin_group-returns-then-is_not-clause-rest : goal.begin_group-returns-then-is_not-clause-rest
begin_group-returns-then-is_not-clause-rest t c =
    not_begins_rest _ _ c.in_ok-copy.field-0 c.in_ok-copies.copies _ _ (sym c.is_not.ensures ∙ c.if-is_not.true) c.in_ok-copy.ensures
    (λ w. c.in_ok-copies.ensures w ∙ ap (λ a. c.args.entering && not (one_matches a (c.args.byte ∷ w))) (c.as_slice.ensures ∙ c.get.ensures ∙ sym c.in_ok-copy.ensures))
