use Rattle.std.proofs.Common.{rules, w64, FitsSigned, ◌≡◌, to_z, of_z}
use Rattle.std.proofs.lemmas.Int.{to_z-of_z}
use Rattle.ksh_arith.specs.Asks.{ended, failed}
use Rattle.ksh_arith.proofs.Serving.{served_then, served_stop}
use Rattle.ksh_arith.proofs.eval.write_result.Goals as goal

pub returns-in-Ok-clause-served : goal.returns-in-Ok-clause-served
returns-in-Ok-clause-served g c =
    let fits : FitsSigned w64 c.in-Ok.value = search rules in
    let same : to_z w64 (of_z w64 c.in-Ok.value) ≡ c.in-Ok.value = to_z-of_z w64 c.in-Ok.value fits in
    rw c.in-Ok.is (served_then _ ended (rw same at c.write.ensures.served))

pub returns-in-Err-clause-served : goal.returns-in-Err-clause-served
returns-in-Err-clause-served g c = rw c.in-Err.is (served_stop _ failed)
