use Rattle.std.proofs.Common.{◌≡◌, length, arith}
use Rattle.ksh_pattern.proofs.Texts.{only_any}
use Rattle.ksh_pattern.proofs.search.is_any_text.Goals as goal

pub returns : goal.returns
returns c held =
    let one : length c.args.parts.now ≡ 1 = omega arith in
    only_any _ _ one c.index-parts-0.is c.in-AnyText.is
