use Rattle.std.proofs.Common.{w64, ◌≡◌, to_z, of_z}
use Rattle.std.proofs.lemmas.Int.{to_z-of_z}
use Rattle.ksh_arith.proofs.Forms.{written, not_written}
use Rattle.ksh_arith.proofs.eval.write.Goals as goal

pub returns-in-Ok-clause-served : goal.returns-in-Ok-clause-served
returns-in-Ok-clause-served g c =
    let same : to_z w64 (of_z w64 c.args.value) ≡ c.args.value = to_z-of_z w64 c.args.value c.ranges.value in
    rw same (written _ _ _ _ (rw same at (rw c.in-Ok.is at c.ask.ensures.served)))

pub returns-clause-served : goal.returns-clause-served
returns-clause-served g c =
    let same : to_z w64 (of_z w64 c.args.value) ≡ c.args.value = to_z-of_z w64 c.args.value c.ranges.value in
    not_written _ _ _ _ (rw same at (rw c.in-Err.is at c.ask.ensures.served))
