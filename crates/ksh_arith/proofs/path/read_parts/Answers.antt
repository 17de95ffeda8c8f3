use Rattle.std.proofs.Common.{rules, arith, ◌≡◌, ◌∙◌, [], ◌∷◌, ◌++◌}
use Rattle.ksh_arith.specs.Grammar.{higher}
use Rattle.ksh_arith.proofs.Scanning.{parts_end, parts_more, parts_refused, parts_none}
use Rattle.ksh_arith.proofs.path.read_parts.Goals as goal

pub returns-in-None-clause-means : goal.returns-in-None-clause-means
returns-in-None-clause-means c = c.loop-left.invariant.left ∙ parts_end c.args.levels c.loop-left.parts c.loop-left.height c.loop-left.rest.now c.loop-left.left (rw (c.in-Ok.is, c.in-None.is) at c.read_part.ensures)

pub returns-in-Err : goal.returns-in-Err
returns-in-Err c = record { means = rw c.loop-left.invariant.left (parts_refused c.args.levels c.loop-left.parts c.loop-left.height c.loop-left.rest.now c.loop-left.left c.in-Err.refused c.loop-left-test.true (rw c.in-Err.is at c.read_part.ensures)); low = tt }

pub loop-left-preserved : goal.loop-left-preserved
loop-left-preserved c =
    let pushed : c.push.new.self ≡ c.loop-left.parts ++ c.in-Some.part ∷ [] = search rules in
    let raised : c.higher-height.result ≡ higher c.in-Some.part c.loop-left.height = search rules in
    record {
      left = rw (pushed, raised) (c.loop-left.invariant.left ∙ parts_more c.args.levels c.loop-left.parts c.loop-left.height c.loop-left.rest.now c.loop-left.left (c.in-Some.part, c.in-Some.more.now) c.loop-left-test.true (rw (c.in-Ok.is, c.in-Some.is) at c.read_part.ensures));
      low = c.higher-height.ensures.low c.loop-left.invariant.low;
    }

pub returns-clause-means : goal.returns-clause-means
returns-clause-means c = c.loop-left.invariant.left ∙ parts_none c.args.levels c.loop-left.parts c.loop-left.height c.loop-left.rest.now c.loop-left.left (omega (arith, c.loop-left-test.false))
