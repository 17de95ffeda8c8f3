use Rattle.std.proofs.Common.{w64, ◌∙◌, ap, FitsSigned}
use Rattle.std.specs.Int.{int_wrapping_neg}
use Rattle.std.proofs.lemmas.Int.{wrapping_neg_is, to_z-of_z}
use Rattle.ksh_arith.proofs.compute.unary.Goals as goal

pub returns-in-Minus : goal.returns-in-Minus
returns-in-Minus c =
    let fits : FitsSigned w64 c.wrapping_neg.result = record { sfits = c.wrapping_neg.type_inv } in
    rw c.in-Minus.is (to_z-of_z w64 c.wrapping_neg.result fits ∙ c.wrapping_neg.ensures ∙ ap (int_wrapping_neg w64) (to_z-of_z w64 c.args.value c.ranges.value) ∙ wrapping_neg_is w64 c.args.value c.ranges.value)
