use Rattle.std.proofs.Common.{rules, sym, ◌∙◌, arith}
use Rattle.ksh_attrs.proofs.Ends.{blank_before, kept_before}
use Rattle.ksh_attrs.proofs.blanks.without_back.Goals as goal

pub returns-then-not-is_blank : goal.returns-then-not-is_blank
returns-then-not-is_blank c =
    sym (c.loop-end.invariant.same ∙ kept_before c.args.text.now c.loop-end.end c.loop-end-test.true c.loop-end.invariant.within (search rules))

pub loop-end-preserved : goal.loop-end-preserved
loop-end-preserved c = record {
  within = omega (arith, c.loop-end.invariant.within);
  same = c.loop-end.invariant.same ∙ blank_before c.args.text.now c.loop-end.end c.loop-end-test.true c.loop-end.invariant.within (search rules);
}
