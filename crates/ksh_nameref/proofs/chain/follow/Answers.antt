use Rattle.std.proofs.Common.{rules, ◌≡◌, ◌+◌, suc, Some, ap, ◌∙◌, length, arith}
use Rattle.ksh_nameref.specs.Chains.{next, after}
use Rattle.ksh_nameref.proofs.Trails.{after_more, comes_back}
use Rattle.ksh_nameref.proofs.chain.follow.Goals as goal

pub loop-preserved : goal.loop-preserved
loop-preserved g c =
    let on : next (g.C.Cells.rows c.args.cells.now) c.loop.at.now ≡ Some c.in-Some.target.now = search rules in
    let one : c.loop.counter + 1 ≡ suc c.loop.counter = omega arith in
    ap (λ n. after (g.C.Cells.rows c.args.cells.now) n c.args.from.now) one
    ∙ after_more (g.C.Cells.rows c.args.cells.now) c.loop.counter c.args.from.now c.loop.at.now c.loop.invariant ∙ on

pub returns-in-Some-next-clause-err : goal.returns-in-Some-next-clause-err
returns-in-Some-next-clause-err g c =
    let on : next (g.C.Cells.rows c.args.cells.now) c.loop.at.now ≡ Some c.in-Some-next.field-0.now = search rules in
    let all : suc (length (g.C.Cells.rows c.args.cells.now)) ≡ suc c.loop.counter = omega (arith, c.count-end.ensures, c.loop-test.false, c.loop.auto.counter-end) in
    comes_back (g.C.Cells.rows c.args.cells.now) c.args.from.now c.in-Some-next.field-0.now
    (ap (λ n. after (g.C.Cells.rows c.args.cells.now) n c.args.from.now) all
    ∙ after_more (g.C.Cells.rows c.args.cells.now) c.loop.counter c.args.from.now c.loop.at.now c.loop.invariant
    ∙ on)
