use Rattle.std.proofs.Common.{rules, arith, ◌≡◌, ◌∙◌, sym, ◌∷◌, ◌+◌, length, None, Some}
use Rattle.ksh_arith.specs.Grammar.{inner_after}
use Rattle.ksh_arith.proofs.Scanning.{bracket_goes, bracket_closes, bracket_open}
use Rattle.ksh_arith.proofs.path.bracket_end.Goals as goal

pub returns-in-None : goal.returns-in-None
returns-in-None c =
    let rest : c.loop-first.rest.now ≡ c.in-Some.first.now ∷ c.in-Some.more.now = search rules in
    let closes : inner_after c.in-Some.first.now c.loop-first.inner ≡ None = sym c.inner_after.ensures.value ∙ c.in-None.is in
    sym ((rw rest at c.loop-first.invariant.place) ∙ bracket_closes c.loop-first.at c.loop-first.inner c.in-Some.first.now c.in-Some.more.now closes)

pub loop-first-preserved : goal.loop-first-preserved
loop-first-preserved c =
    let rest : c.loop-first.rest.now ≡ c.in-Some.first.now ∷ c.in-Some.more.now = search rules in
    let goes : inner_after c.in-Some.first.now c.loop-first.inner ≡ Some c.in-Some-inner_after.next = sym c.inner_after.ensures.value ∙ c.in-Some-inner_after.is in
    let on : c.loop-first.at + length (c.in-Some.first.now ∷ c.in-Some.more.now) ≡ length c.args.text.now = rw rest at c.loop-first.invariant.on in
    record {
      place = (rw rest at c.loop-first.invariant.place) ∙ bracket_goes c.loop-first.at c.loop-first.inner c.in-Some-inner_after.next c.in-Some.first.now c.in-Some.more.now goes;
      on = omega (arith, on);
      inner = omega (arith, c.loop-first.invariant.inner, c.in-Some-inner_after.ensures.small);
    }

pub returns : goal.returns
returns c =
    let none : length c.loop-first.rest.now ≡ 0 = search rules in
    sym (c.loop-first.invariant.place ∙ bracket_open c.loop-first.at c.loop-first.inner c.loop-first.rest.now none)
