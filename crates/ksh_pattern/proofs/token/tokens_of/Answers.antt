use Rattle.std.proofs.Common.{◌≡◌, ◌<◌, ◌∙◌}
use Rattle.ksh_pattern.proofs.Tokens.{tokens_skip, no_mark}
use Rattle.ksh_pattern.proofs.token.tokens_of.Goals as goal

pub loop-index-preserved-then-skip-gt0 : goal.loop-index-preserved-then-skip-gt0
loop-index-preserved-then-skip-gt0 c =
    c.loop-index.invariant ∙ tokens_skip c.args.marks.now c.loop-index.tokens c.loop-index.index c.loop-index.skip no_mark c.loop-index-test.true c.if-skip-gt0.true
