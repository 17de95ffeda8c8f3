use Rattle.std.proofs.Common.{rules, sym, ap, ◌∙◌, ◌/◌, ◌++◌, map}
use Rattle.ksh_attrs.specs.Numbers.{digit, low_digits}
use Rattle.ksh_attrs.proofs.Digits.{digits_next, digits_last}
use Rattle.ksh_attrs.proofs.number.low_digits.Goals as goal

pub loop-left-preserved : goal.loop-left-preserved
loop-left-preserved c = record {
  wide = c.loop-left.invariant.wide;
  small = c.loop-left.invariant.small;
  digits =
      digits_next (map digit (low_digits c.args.number c.args.base c.args.number)) c.loop-left.digits.items c.push.new.self.items c.args.base c.loop-left.left c.digit.result c.loop-left.invariant.small.0 (search rules) c.loop-left.invariant.digits (search rules) (search rules)
      ∙ ap (λ b. c.push.new.self.items ++ map digit (low_digits (c.loop-left.left / b) c.args.base (c.loop-left.left / b))) (sym c.loop-left.invariant.wide);
}

pub returns : goal.returns
returns c =
    digits_last (map digit (low_digits c.args.number c.args.base c.args.number)) c.loop-left.digits.items c.push-2.new.self.items c.args.base c.loop-left.left c.digit-2.result (search rules) c.loop-left.invariant.digits (search rules) (search rules)
