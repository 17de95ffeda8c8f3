use Rattle.std.proofs.Common.{◌≡◌, ◌<◌, ◌∙◌, sym, arith, length}
use Rattle.std.proofs.lemmas.Bool.Decides.{nat_tests}
use Rattle.ksh_pattern.proofs.Texts.{barred_by_byte, off}
use Rattle.ksh_pattern.proofs.search.can_not_begin.Goals as goal

pub returns : goal.returns
returns c refused =
    let some : 0 < length c.args.parts.now = grind (arith, nat_tests, c.if-is_empty.ensures) in
    barred_by_byte _ _ _ _ some c.index-parts-0.is c.in-One.is (sym c.accepts.ensures ∙ off _ refused)
