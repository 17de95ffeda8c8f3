use Rattle.std.proofs.Common.{rules, ◌∙◌, ap, ◌*◌, ◌%◌, ◌^◌, ◌/◌, lit<, ◌≡◌}
use Rattle.std.proofs.lemmas.Nat.{div_below}
use Rattle.ksh_arith.proofs.Powers.{power_split}
use Rattle.ksh_arith.proofs.compute.raise.Goals as goal

pub overflow_cast-exponent-3 : goal.overflow_cast-exponent-3
overflow_cast-exponent-3 c = record { fits = div_below c.args.exponent 2147483648 4294967296 (lit< tt) c.requires }

pub returns : goal.returns
returns c =
    let high : c.wrapping_pow-high.result ≡ (c.args.base ^ 2147483648 % 18446744073709551616) ^ (c.args.exponent / 2147483648) % 18446744073709551616 = search rules in
    let low : c.wrapping_pow-low.result ≡ c.args.base ^ (c.args.exponent % 2147483648) % 18446744073709551616 = search rules in
    ap (λ a. a * c.wrapping_pow-low.result % 18446744073709551616) high
    ∙ ap (λ a. (c.args.base ^ 2147483648 % 18446744073709551616) ^ (c.args.exponent / 2147483648) % 18446744073709551616 * a % 18446744073709551616) low
    ∙ power_split c.args.base c.args.exponent 2147483648 18446744073709551616
