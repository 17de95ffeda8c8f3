use Rattle.std.proofs.Common.{rules}
use Rattle.ksh_lexer.proofs.Ansi.{escape_step, plain_step}
use Rattle.ksh_lexer.proofs.Found.{tail_slice}
use Rattle.ksh_lexer.proofs.unquote.ansi_text.Goals as goal

-- src/unquote.rt:14:5
pub loop-first-preserved-then-first-eq92 : goal.loop-first-preserved-then-first-eq92
loop-first-preserved-then-first-eq92 c =
    escape_step c.loop-first.text c.loop-first.rest.now c.in-Some.behind.now _ _ _ c.in-Some.first.now c.escape-byte.result.0 c.escape-byte.result.1
    (search rules) (search rules) (search rules) (search rules) (search rules) (tail_slice c.in-Some.behind.now c.escape-byte.result.1) c.loop-first.invariant

-- src/unquote.rt:14:5
pub loop-first-preserved : goal.loop-first-preserved
loop-first-preserved c =
    plain_step c.loop-first.text c.loop-first.rest.now c.in-Some.behind.now _ _ _ c.in-Some.first.now c.plain_len-plain.result
    (search rules) (search rules) c.plain_len-plain.ensures.front (search rules) (tail_slice c.in-Some.behind.now c.plain_len-plain.result) c.loop-first.invariant
