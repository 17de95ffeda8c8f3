use Rattle.std.proofs.Common.{rules, arith, refl, ◌≡◌, true, drop}
use Rattle.ksh_lexer.specs.Reach.{joins_at, no_byte, span}
use Rattle.ksh_lexer.proofs.Span.{join_step, join_within, stop}
use Rattle.ksh_lexer.proofs.scan.past_joins.Goals as goal

-- src/scan.rt:84:5
pub loop-end-preserved : goal.loop-end-preserved
loop-end-preserved c =
    let joins : joins_at c.args.text.now c.loop-end.end ≡ true = search rules in
    let step = join_step no_byte c.args.text.now c.loop-end.end joins in
    record {
      within = join_within c.args.text.now c.loop-end.end joins;
      spanned = omega (arith, step, c.loop-end.invariant.spanned);
    }

-- src/scan.rt:77:1
pub returns-clause-past : goal.returns-clause-past
returns-clause-past c =
    let none : span no_byte (drop c.loop-end.end c.args.text.now) ≡ 0 = stop no_byte c.args.text.now c.loop-end.end (search rules) (λ _. refl) in
    omega (arith, none, c.loop-end.invariant.spanned)
