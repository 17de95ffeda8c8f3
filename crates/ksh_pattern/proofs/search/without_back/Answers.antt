use Rattle.std.proofs.Common.{◌≡◌, ◌<◌, ◌≤◌, ◌+◌, ◌-◌, ◌&&◌, ap, sym, refl, ◌∙◌, arith, length, take}
use Rattle.ksh_pattern.specs.Match.{matches}
use Rattle.ksh_pattern.proofs.Texts.{back_step, back_stop, refused_last, taken_last}
use Rattle.ksh_pattern.proofs.search.without_back.Goals as goal

pub returns-then-to-eq0-clause-none : goal.returns-then-to-eq0-clause-none
returns-then-to-eq0-clause-none c =
    let e : c.loop-end.end ≡ (c.loop-end.end - 1) + 1 = omega (arith, c.loop-end-test.true) in
    let n : c.loop-end.to ≡ 0 = omega arith in
    sym c.loop-end.invariant.same
    ∙ back_stop _ _ _ _ _ _ _ e n c.loop-end.invariant.parts c.index-parts-end.is c.in-One.is

pub returns-then-not-accepts-clause-none : goal.returns-then-not-accepts-clause-none
returns-then-not-accepts-clause-none c =
    let e : c.loop-end.end ≡ (c.loop-end.end - 1) + 1 = omega (arith, c.loop-end-test.true) in
    let n : c.loop-end.to ≡ (c.loop-end.to - 1) + 1 = omega arith in
    sym c.loop-end.invariant.same
    ∙ back_step _ _ _ _ _ _ _ _ 0 e n c.loop-end.invariant.parts c.loop-end.invariant.text c.index-parts-end.is c.in-One.is
    ∙ refused_last _ _ (sym c.accepts.ensures ∙ c.if-not-accepts.true)

pub loop-end-preserved : goal.loop-end-preserved
loop-end-preserved c =
    let e : c.loop-end.end ≡ (c.loop-end.end - 1) + 1 = omega (arith, c.loop-end-test.true) in
    let n : c.loop-end.to ≡ (c.loop-end.to - 1) + 1 = omega arith in
    record {
      parts = omega (arith, c.loop-end.invariant.parts);
      text = omega (arith, c.loop-end.invariant.text);
      same = sym (back_step _ _ _ _ _ _ _ _ 0 e n c.loop-end.invariant.parts c.loop-end.invariant.text c.index-parts-end.is c.in-One.is
          ∙ taken_last _ _ (sym c.accepts.ensures ∙ c.if-not-accepts.false))
          ∙ c.loop-end.invariant.same;
    }
