use Rattle.std.proofs.Common.{rules, arith, ◌≤◌, ◌+◌, ◌∷◌, [], drop, take, length, sym, ◌∙◌, ap}
use Rattle.std.proofs.lemmas.List.{drop_all, drop_more, take_all, take_more}
use Rattle.tree_parts.specs.Parts.{between_dots}
use Rattle.tree_parts.proofs.Dots.{at_dot, no_dot, one_more, to_front}
use Rattle.tree_parts.proofs.names.dot_place.Goals as goal

pub returns-then-byte-eq46-clause-place : goal.returns-then-byte-eq46-clause-place
returns-then-byte-eq46-clause-place c =
    at_dot c.args.bytes.now (take c.loop-i.i c.args.bytes.now) (drop (c.loop-i.i + 1) c.args.bytes.now) (drop c.loop-i.i c.args.bytes.now) _
    (drop_more c.args.bytes.now c.loop-i.i 0 c.loop-i-test.true) (search rules) c.loop-i.invariant

pub loop-i-preserved : goal.loop-i-preserved
loop-i-preserved c =
    one_more c.args.bytes.now (take c.loop-i.i c.args.bytes.now) (drop (c.loop-i.i + 1) c.args.bytes.now) (drop c.loop-i.i c.args.bytes.now) _
    (drop_more c.args.bytes.now c.loop-i.i 0 c.loop-i-test.true) (search rules) c.loop-i.invariant
    ∙ sym (ap (λ front. to_front front (between_dots (drop (c.loop-i.i + 1) c.args.bytes.now))) (take_more c.args.bytes.now c.loop-i.i 0 c.loop-i-test.true))

pub returns-clause-place : goal.returns-clause-place
returns-clause-place c =
    let over : length c.args.bytes.now ≤ c.loop-i.i = omega (arith, c.loop-i-test.false) in
    no_dot c.args.bytes.now (take c.loop-i.i c.args.bytes.now) (drop c.loop-i.i c.args.bytes.now) (drop_all c.loop-i.i c.args.bytes.now over) c.loop-i.invariant
    ∙ ap (λ front. front ∷ []) (take_all c.loop-i.i c.args.bytes.now over)
