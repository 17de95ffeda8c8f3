use Rattle.std.proofs.Common.{rules, arith, ◌≡◌, true, drop}
use Rattle.ksh_lexer.specs.Bytes.{is_blank}
use Rattle.ksh_lexer.specs.Reach.{joins_at, span}
use Rattle.ksh_lexer.proofs.Span.{blank_step, join_step, join_within, stop}
use Rattle.ksh_lexer.proofs.scan.past_blanks.Goals as goal

-- src/scan.rt:65:5
pub loop-end-preserved-then-is_join : goal.loop-end-preserved-then-is_join
loop-end-preserved-then-is_join c =
    let joins : joins_at c.args.text.now c.loop-end.end ≡ true = search rules in
    let step = join_step is_blank c.args.text.now c.loop-end.end joins in
    record {
      within = join_within c.args.text.now c.loop-end.end joins;
      spanned = omega (arith, step, c.loop-end.invariant.spanned);
    }

-- src/scan.rt:65:5
pub loop-end-preserved : goal.loop-end-preserved
loop-end-preserved c =
    let step = blank_step c.args.text.now c.loop-end.end (search rules) (search rules) in
    record { within = search rules; spanned = omega (arith, step, c.loop-end.invariant.spanned) }

-- src/scan.rt:71:13
pub returns-else-end-text-clause-past : goal.returns-else-end-text-clause-past
returns-else-end-text-clause-past c =
    let none : span is_blank (drop c.loop-end.end c.args.text.now) ≡ 0 = stop is_blank c.args.text.now c.loop-end.end (search rules) (search rules) in
    omega (arith, none, c.loop-end.invariant.spanned)
