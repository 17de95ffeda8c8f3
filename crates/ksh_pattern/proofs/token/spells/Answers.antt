use Rattle.std.proofs.Common.{◌≡◌, ◌∙◌, sym}
use Rattle.ksh_pattern.proofs.Tokens.{spells_short}
use Rattle.ksh_pattern.proofs.token.spells.Goals as goal

pub returns-then-at-marks : goal.returns-then-at-marks
returns-then-at-marks c = sym (c.loop-at.invariant.same ∙ spells_short _ _ _ 0 c.loop-at-test.true c.if-at-marks.true)
