use Rattle.std.proofs.Common.{rules, arith, ◌≡◌, length, take}
use Rattle.std.proofs.lemmas.List.{length-take-le}
use Rattle.ksh_lexer.proofs.lexer.Lexer.new.Goals as goal

-- src/lexer.rt:55:24
pub fault_at-requires : goal.fault_at-requires
fault_at-requires c =
    let e : length (take 16777216 c.args.text.now) ≡ 16777216 = length-take-le 16777216 c.args.text.now (search rules) in
    omega (arith, e)
