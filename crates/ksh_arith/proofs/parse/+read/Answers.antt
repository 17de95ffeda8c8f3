use Rattle.std.proofs.Common.{rules, arith, ◌≡◌, ◌∙◌, [], ◌∷◌, ◌++◌, ◌≤◌, ◌+◌, ◌-◌, max, nat_le, true, false, Some, None}
use Rattle.ksh_arith.specs.Grammar.{skipped, operator_at, joins, height_of}
use Rattle.ksh_arith.proofs.Levels.{read_none, read_starts, read_failed, read_stays, read_goes, read_stops, read_ends, links_zero, links_none, links_deep, links_stop, links_more}
use Rattle.ksh_arith.proofs.parse.+read.Goals as goal

pub read-returns-then-levels-eq0-clause-means : goal.read-returns-then-levels-eq0-clause-means
read-returns-then-levels-eq0-clause-means t c = read_none c.args.levels c.args.level c.args.text.now c.if-levels-eq0.true

pub read-returns-in-Err-clause-means : goal.read-returns-in-Err-clause-means
read-returns-in-Err-clause-means t c = read_failed c.args.levels c.args.level c.args.text.now c.if-levels-eq0.false c.skip.result.now c.in-Err.refused c.skip.ensures (rw c.in-Err.is at c.read_signed.ensures.means)

pub read-loop-from-init : goal.read-loop-from-init
read-loop-from-init t c = record {
  so_far = read_starts c.args.levels c.args.level c.args.text.now c.skip.result.now c.in-Ok.signed.0 c.in-Ok.signed.1.now c.skip.ensures (rw c.in-Ok.is at c.read_signed.ensures.means);
  low = rw c.in-Ok.is at c.read_signed.ensures.small;
  within = omega arith;
}

pub read-returns-then-next-from-clause-means : goal.read-returns-then-next-from-clause-means
read-returns-then-next-from-clause-means t c = read_stays c.args.levels c.args.level c.args.text.now c.if-levels-eq0.false c.loop-from.from c.level_at-next.result c.loop-from.part c.loop-from.rest.now c.skip-front.result.now c.loop-from.invariant.so_far c.skip-front.ensures c.level_at-next.ensures c.requires.level c.loop-from-test.true c.then-next-from.either

pub read-returns-in-Err-read_behind-clause-means : goal.read-returns-in-Err-read_behind-clause-means
read-returns-in-Err-read_behind-clause-means t c = read_stops c.args.levels c.args.level c.args.text.now c.if-levels-eq0.false c.loop-from.from c.level_at-next.result c.loop-from.part c.loop-from.rest.now c.skip-front.result.now c.loop-from.invariant.so_far c.skip-front.ensures c.level_at-next.ensures c.requires.level c.in-Err-read_behind.refused c.if-next-from.false c.if-next-level.false (rw c.in-Err-read_behind.is at c.read_behind.ensures.means)

pub read-loop-from-preserved : goal.read-loop-from-preserved
read-loop-from-preserved t c = record {
  so_far = read_goes c.args.levels c.args.level c.args.text.now c.if-levels-eq0.false c.loop-from.from c.level_at-next.result c.loop-from.part c.loop-from.rest.now c.skip-front.result.now c.loop-from.invariant.so_far c.skip-front.ensures c.level_at-next.ensures c.requires.level c.in-Ok-read_behind.joined c.in-Ok-read_behind.more.now c.if-next-from.false c.if-next-level.false (rw c.in-Ok-read_behind.is at c.read_behind.ensures.means);
  low = rw c.in-Ok-read_behind.is at c.read_behind.ensures.small;
  within = omega (arith, c.if-next-level.false);
}

pub read-returns-clause-means : goal.read-returns-clause-means
read-returns-clause-means t c = read_ends c.args.levels c.args.level c.args.text.now c.if-levels-eq0.false c.loop-from.from c.loop-from.part c.loop-from.rest.now c.loop-from.invariant.so_far (omega (arith, c.loop-from.invariant.within, c.loop-from-test.false))

pub read_links-returns-in_default-clause-means : goal.read_links-returns-in_default-clause-means
read_links-returns-in_default-clause-means t c =
    let none : operator_at c.args.level (skipped c.loop-left.rest.now) ≡ None = search rules in
    rw (c.loop-left.invariant.left, links_none c.args.levels _ c.args.level c.args.tighter c.args.first c.loop-left.links c.loop-left.height c.loop-left.rest.now c.loop-left.left c.loop-left-test.true none) (rw (c.loop-left.invariant.same, c.skip-at.ensures) at c.chained.ensures.means)

pub read_links-returns-then-levels-height-clause-means : goal.read_links-returns-then-levels-height-clause-means
read_links-returns-then-levels-height-clause-means t c =
    let some : operator_at c.args.level (skipped c.loop-left.rest.now) ≡ Some (c.in-Some.op, c.in-Some.length) = search rules in
    let high : nat_le c.args.levels c.loop-left.height ≡ true = search rules in
    rw c.skip-at.ensures (c.loop-left.invariant.left ∙ links_deep c.args.levels _ c.args.level c.args.tighter c.args.first c.loop-left.links c.loop-left.height c.loop-left.rest.now c.loop-left.left (c.in-Some.op, c.in-Some.length) c.loop-left-test.true some high)

pub read_links-returns-in-Err-clause-means : goal.read_links-returns-in-Err-clause-means
read_links-returns-in-Err-clause-means t c =
    let some : operator_at c.args.level (skipped c.loop-left.rest.now) ≡ Some (c.in-Some.op, c.in-Some.length) = search rules in
    let low : nat_le c.args.levels c.loop-left.height ≡ false = search rules in
    rw c.loop-left.invariant.left (links_stop c.args.levels _ c.args.level c.args.tighter c.args.first c.loop-left.links c.loop-left.height c.loop-left.rest.now c.loop-left.left (c.in-Some.op, c.in-Some.length) c.in-Err.refused c.loop-left-test.true some low (rw (c.in-Err.is, c.behind.ensures, c.skip-at.ensures) at c.read.ensures.means))

pub read_links-loop-left-preserved : goal.read_links-loop-left-preserved
read_links-loop-left-preserved t c =
    let some : operator_at c.args.level (skipped c.loop-left.rest.now) ≡ Some (c.in-Some.op, c.in-Some.length) = search rules in
    let low : nat_le c.args.levels c.loop-left.height ≡ false = search rules in
    let pushed : c.push.new.self ≡ c.loop-left.links ++ joins c.in-Some.op c.in-Ok.part ∷ [] = search rules in
    let raised : c.max-height.result ≡ max c.loop-left.height (height_of c.in-Ok.part) = search rules in
    let small : height_of c.in-Ok.part ≤ c.args.levels - 1 + 2 = rw c.in-Ok.is at c.read.ensures.small in
    record {
      left = rw (pushed, raised) (c.loop-left.invariant.left ∙ links_more c.args.levels _ c.args.level c.args.tighter c.args.first c.loop-left.links c.loop-left.height c.loop-left.rest.now c.loop-left.left (c.in-Some.op, c.in-Some.length) c.in-Ok.part c.in-Ok.more.now c.loop-left-test.true some low (rw (c.in-Ok.is, c.behind.ensures, c.skip-at.ensures) at c.read.ensures.means));
      same = c.loop-left.invariant.same;
      low = omega (arith, raised, small, c.if-levels-height.false);
      chain = λ some. omega (arith, raised, small, c.if-levels-height.false);
    }

pub read_links-returns-clause-means : goal.read_links-returns-clause-means
read_links-returns-clause-means t c = rw (c.loop-left.invariant.left, links_zero c.args.levels _ c.args.level c.args.tighter c.args.first c.loop-left.links c.loop-left.height c.loop-left.rest.now c.loop-left.left (omega (arith, c.loop-left-test.false))) (rw c.loop-left.invariant.same at c.chained-2.ensures.means)

pub read_links-chained-requires-clause-low : goal.read_links-chained-requires-clause-low
read_links-chained-requires-clause-low t c = rw c.loop-left.invariant.same c.requires.low

pub read_links-chained-requires-2-clause-low : goal.read_links-chained-requires-2-clause-low
read_links-chained-requires-2-clause-low t c = rw c.loop-left.invariant.same c.requires.low
