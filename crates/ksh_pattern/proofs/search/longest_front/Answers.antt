use Rattle.std.proofs.Common.{◌≡◌, ◌∙◌, [], ap, arith, length}
use Rattle.ksh_pattern.specs.Cells.{rest_all}
use Rattle.ksh_pattern.proofs.Texts.{walk_more, greatest_here, greatest_dead, greatest_end}
use Rattle.ksh_pattern.proofs.search.longest_front.Goals as goal

pub loop-index-preserved : goal.loop-index-preserved
loop-index-preserved c = record {
  state = walk_more _ _ _ _ _ (rest_all c.loop-index.cells.items) (rest_all c.shift_all.new.cells.items) c.in-Some.ensures.cases.0 c.loop-index-test.true c.loop-index.invariant.state c.in_ok-step.ensures.shifts;
  longest = greatest_here _ _ _ _ _ _ (rest_all c.loop-index.cells.items) c.loop-index.invariant.state c.loop-index.invariant.longest c.in_ok-step.ensures.last c.or_place-longest-in-loop-index.ensures;
}

pub returns-then-not-step : goal.returns-then-not-step
returns-then-not-step c =
    greatest_dead _ _ _ _ _ _ (rest_all c.shift_all.new.cells.items) _ c.in-Some.ensures.cases.0 c.loop-index-test.true
    (greatest_here _ _ _ _ _ _ (rest_all c.loop-index.cells.items) c.loop-index.invariant.state c.loop-index.invariant.longest c.in_ok-step.ensures.last c.or_place-longest-in-loop-index.ensures)
    (walk_more _ _ _ _ _ (rest_all c.loop-index.cells.items) (rest_all c.shift_all.new.cells.items) c.in-Some.ensures.cases.0 c.loop-index-test.true c.loop-index.invariant.state c.in_ok-step.ensures.shifts)
    c.in_ok-step.ensures.live c.if-not-step.true

pub returns : goal.returns
returns c =
    let end : c.loop-index.index ≡ length c.in-Some.rest.now = omega arith in
    greatest_end _ _ _ _ _ _ _ _ (rest_all c.loop-index.cells.items) c.in-Some.ensures.cases.0 end c.loop-index.invariant.state c.loop-index.invariant.longest
    (c.look_all.ensures.last ∙ ap (λ cs. rest_all cs []) c.deref.ensures.value) c.or_place.ensures
