use Rattle.std.proofs.Common.{rules, refl, ap, sym, ◌∙◌, ◌<◌, length, arith}
use Rattle.ksh_pattern.specs.Cells.{whole_all, rest_all, whole_some, rest_some}
use Rattle.ksh_pattern.proofs.Doubles.{group_whole_alike, group_rest_alike, all_whole_alike, all_rest_alike, some_whole_alike, some_rest_alike}
use Rattle.ksh_pattern.proofs.alike.+alike.Goals as goal

pub same_all-loop-index-preserved : goal.same_all-loop-index-preserved
same_all-loop-index-preserved t c =
    let there : c.loop-index.index < length c.args.b.now = omega (arith, c.loop-index-test.true, c.loop-index.invariant.len) in
    record {
      len = c.loop-index.invariant.len;
      whole = all_whole_alike _ _ _ _ _ c.loop-index-test.true there c.index-a-index.is c.index-b-index.is c.loop-index.invariant.whole (c.if-not-same_cell.ensures.whole refl);
      rest = all_rest_alike _ _ _ _ _ c.loop-index-test.true there c.index-a-index.is c.index-b-index.is c.loop-index.invariant.rest (c.if-not-same_cell.ensures.whole refl) (c.if-not-same_cell.ensures.rest refl);
    }

pub same_cell-returns-then-eq-clause-whole : goal.same_cell-returns-then-eq-clause-whole
same_cell-returns-then-eq-clause-whole t c said =
    group_whole_alike _ _ _ _ c.in-Group.alternatives c.in-Group-b.others c.in-Group.is c.in-Group-b.is (search rules)
    (λ w. ap (λ cs. whole_some cs w) (sym c.deref.ensures.value) ∙ c.same_some.ensures.whole said w ∙ ap (λ cs. whole_some cs w) c.deref-then-eq.ensures.value)

pub same_cell-returns-then-eq-clause-rest : goal.same_cell-returns-then-eq-clause-rest
same_cell-returns-then-eq-clause-rest t c said =
    group_rest_alike _ _ _ _ c.in-Group.alternatives c.in-Group-b.others c.in-Group.is c.in-Group-b.is (search rules)
    (λ w. ap (λ cs. whole_some cs w) (sym c.deref.ensures.value) ∙ c.same_some.ensures.whole said w ∙ ap (λ cs. whole_some cs w) c.deref-then-eq.ensures.value)
    (λ w. ap (λ cs. rest_some cs w) (sym c.deref.ensures.value) ∙ c.same_some.ensures.rest said w ∙ ap (λ cs. rest_some cs w) c.deref-then-eq.ensures.value)

pub same_some-loop-index-preserved : goal.same_some-loop-index-preserved
same_some-loop-index-preserved t c =
    let there : c.loop-index.index < length c.args.b.now = omega (arith, c.loop-index-test.true, c.loop-index.invariant.len) in
    record {
      len = c.loop-index.invariant.len;
      whole = some_whole_alike _ _ _ _ _ c.loop-index-test.true there c.index-a-index.is c.index-b-index.is c.loop-index.invariant.whole
          (λ w. ap (λ cs. whole_all cs w) (sym c.deref.ensures.value) ∙ c.if-not-same_all.ensures.whole refl w ∙ ap (λ cs. whole_all cs w) c.deref-in-loop-index.ensures.value);
      rest = some_rest_alike _ _ _ _ _ c.loop-index-test.true there c.index-a-index.is c.index-b-index.is c.loop-index.invariant.rest
          (λ w. ap (λ cs. rest_all cs w) (sym c.deref.ensures.value) ∙ c.if-not-same_all.ensures.rest refl w ∙ ap (λ cs. rest_all cs w) c.deref-in-loop-index.ensures.value);
    }
