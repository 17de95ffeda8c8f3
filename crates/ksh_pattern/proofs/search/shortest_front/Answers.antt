use Rattle.std.proofs.Common.{◌≡◌, ◌∙◌, [], ap, arith, length}
use Rattle.ksh_pattern.specs.Cells.{rest_all}
use Rattle.ksh_pattern.proofs.Texts.{walk_more, least_here, least_dead, least_end, least_found}
use Rattle.ksh_pattern.proofs.search.shortest_front.Goals as goal

pub loop-index-preserved : goal.loop-index-preserved
loop-index-preserved c = record {
  state = walk_more _ _ _ _ _ (rest_all c.loop-index.cells.items) (rest_all c.shift_all.new.cells.items) c.in-Some.ensures.cases.0 c.loop-index-test.true c.loop-index.invariant.state c.in_ok-step.ensures.shifts;
  none = least_here _ _ _ (rest_all c.loop-index.cells.items) _ c.loop-index.invariant.none c.loop-index.invariant.state c.in_ok-step.ensures.last c.if-step.false;
}

pub returns-then-not-step : goal.returns-then-not-step
returns-then-not-step c =
    least_dead _ _ _ _ _ (rest_all c.loop-index.cells.items) (rest_all c.shift_all.new.cells.items) _ _ c.in-Some.ensures.cases.0 c.loop-index-test.true
    c.loop-index.invariant.none c.loop-index.invariant.state c.in_ok-step.ensures.last c.if-step.false
    (walk_more _ _ _ _ _ (rest_all c.loop-index.cells.items) (rest_all c.shift_all.new.cells.items) c.in-Some.ensures.cases.0 c.loop-index-test.true c.loop-index.invariant.state c.in_ok-step.ensures.shifts)
    c.in_ok-step.ensures.live c.if-not-step.true

pub returns : goal.returns
returns c =
    let end : c.loop-index.index ≡ length c.in-Some.rest.now = omega arith in
    least_end _ _ _ _ _ _ _ (rest_all c.loop-index.cells.items) c.in-Some.ensures.cases.0 end c.loop-index.invariant.state c.loop-index.invariant.none
    (c.look_all.ensures.last ∙ ap (λ cs. rest_all cs []) c.deref.ensures.value) c.or_place.ensures
