use Rattle.std.proofs.Common.{rules, arith, ◌≡◌, ◌∙◌, ap, ◌+◌, ◌-◌, true, false, ◌∷◌, length}
use Rattle.ksh_scan.specs.Arithmetic.{is_join, place_of}
use Rattle.ksh_scan.proofs.Expressions.{joins_on, keeps_on}
use Rattle.ksh_scan.proofs.arithmetic.place_of.Goals as goal

pub loop-first-preserved-then-is_join : goal.loop-first-preserved-then-is_join
loop-first-preserved-then-is_join c =
    let rest : c.loop-first.rest.now ≡ c.in-Some.first.now ∷ c.in-Some-split_first.second.now ∷ c.in-Some-split_first.more.now = search rules in
    let joins : is_join c.in-Some.first.now c.in-Some-split_first.second.now ≡ true = search rules in
    let ahead : c.loop-first.place + length (c.in-Some.first.now ∷ c.in-Some-split_first.second.now ∷ c.in-Some-split_first.more.now) ≡ length c.args.text.now = rw rest at c.loop-first.invariant.ahead in
    record {
      place = joins_on c.loop-first.place c.loop-first.left c.in-Some.first.now c.in-Some-split_first.second.now c.in-Some-split_first.more.now joins ∙ (rw rest at c.loop-first.invariant.place);
      ahead = omega (arith, ahead);
    }

pub loop-first-preserved : goal.loop-first-preserved
loop-first-preserved c =
    let behind : c.in-Some.behind.now ≡ c.in-Some-split_first.second.now ∷ c.in-Some-split_first.more.now = search rules in
    let rest : c.loop-first.rest.now ≡ c.in-Some.first.now ∷ c.in-Some-split_first.second.now ∷ c.in-Some-split_first.more.now = search rules in
    let keeps : is_join c.in-Some.first.now c.in-Some-split_first.second.now ≡ false = search rules in
    let ahead : c.loop-first.place + length (c.in-Some.first.now ∷ c.in-Some-split_first.second.now ∷ c.in-Some-split_first.more.now) ≡ length c.args.text.now = rw rest at c.loop-first.invariant.ahead in
    let longer : length c.in-Some.behind.now ≡ length (c.in-Some-split_first.second.now ∷ c.in-Some-split_first.more.now) = ap length behind in
    record {
      place = ap (λ bs. c.loop-first.place + 1 + place_of bs (c.loop-first.left - 1)) behind
          ∙ keeps_on c.loop-first.place c.loop-first.left c.in-Some.first.now c.in-Some-split_first.second.now c.in-Some-split_first.more.now keeps c.if-left-eq0-2.false ∙ (rw rest at c.loop-first.invariant.place);
      ahead = omega (arith, ahead, longer);
    }
