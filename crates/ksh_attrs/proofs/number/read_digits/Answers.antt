use Rattle.std.proofs.Common.{◌+◌, ◌*◌, ◌∙◌, sym, ap, arith, drop}
use Rattle.std.proofs.lemmas.Grind.{common_steps}
use Rattle.ksh_base.proofs.Digits.{behind, behind_next, digits_next, le_behind}
use Rattle.ksh_attrs.proofs.number.read_digits.Goals as goal

pub returns-then-value-most : goal.returns-then-value-most
returns-then-value-most c =
    let least = le_behind c.loop-digit.value (drop c.loop-digit.digit-index c.args.digits.now) in
    grind (arith, common_steps)

pub loop-digit-preserved : goal.loop-digit-preserved
loop-digit-preserved c = record {
  digits = digits_next c.args.digits.now c.loop-digit.digit-index c.loop-digit-test.true (sym c.if-not-is_ascii_digit.ensures.value) c.loop-digit.invariant.digits;
  value =
      behind_next c.args.digits.now c.loop-digit.digit-index c.loop-digit.value c.loop-digit-test.true c.loop-digit.invariant.value
      ∙ ap (λ d. behind (c.loop-digit.value * 10 + d) (drop (c.loop-digit.digit-index + 1) c.args.digits.now)) (sym c.from.ensures);
  bound = omega (arith, c.if-not-is_ascii_digit.ensures.cases);
}
