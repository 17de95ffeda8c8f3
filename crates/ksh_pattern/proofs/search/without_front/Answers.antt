use Rattle.std.proofs.Common.{◌≡◌, ◌<◌, ◌≤◌, ◌+◌, ◌&&◌, ap, sym, refl, ◌∙◌, arith, length, drop}
use Rattle.ksh_pattern.specs.Match.{matches}
use Rattle.ksh_pattern.proofs.Texts.{front_step, front_stop}
use Rattle.ksh_pattern.proofs.search.without_front.Goals as goal

pub returns-then-at-text-clause-none : goal.returns-then-at-text-clause-none
returns-then-at-text-clause-none c =
    let end : length c.args.text.now ≤ c.loop-at.at = omega arith in
    sym c.loop-at.invariant.same
    ∙ front_stop _ _ _ _ _ c.loop-at-test.true end c.index-parts-at.is c.in-One.is

pub returns-then-not-accepts-clause-none : goal.returns-then-not-accepts-clause-none
returns-then-not-accepts-clause-none c =
    let lt : c.loop-at.at < length c.args.text.now = omega (arith, c.loop-at.invariant.text) in
    sym c.loop-at.invariant.same
    ∙ front_step _ _ _ _ _ 0 c.loop-at-test.true lt c.index-parts-at.is c.in-One.is
    ∙ ap (λ b. b && matches (drop (c.loop-at.at + 1) c.args.parts.now) (drop (c.loop-at.at + 1) c.args.text.now)) (sym c.accepts.ensures ∙ c.if-not-accepts.true)

pub loop-at-preserved : goal.loop-at-preserved
loop-at-preserved c =
    let lt : c.loop-at.at < length c.args.text.now = omega (arith, c.loop-at.invariant.text) in
    record {
      parts = omega (arith, c.loop-at-test.true);
      text = omega (arith, lt);
      same = sym (front_step _ _ _ _ _ 0 c.loop-at-test.true lt c.index-parts-at.is c.in-One.is
          ∙ ap (λ b. b && matches (drop (c.loop-at.at + 1) c.args.parts.now) (drop (c.loop-at.at + 1) c.args.text.now)) (sym c.accepts.ensures ∙ c.if-not-accepts.false))
          ∙ c.loop-at.invariant.same;
    }
