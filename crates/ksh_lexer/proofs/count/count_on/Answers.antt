use Rattle.std.proofs.Common.{arith, refl}
use Rattle.ksh_lexer.proofs.Counts.{counted_on}
use Rattle.ksh_lexer.proofs.count.count_on.Goals as goal

-- src/count.rt:29:1
pub returns-clause-mark : goal.returns-clause-mark
returns-clause-mark c =
    let more = counted_on c.args.text.now _ c.args.from.byte c.args.byte c.requires.byte.0 refl in
    record {
      within = c.requires.byte.1;
      line = omega (arith, more, c.requires.mark.line, c.newlines.ensures.count);
    }
