use Rattle.std.proofs.Common.{rules, ◌≡◌, []}
use Rattle.ksh_arith.proofs.Forms.{settled_same, settled_told, not_settled}
use Rattle.ksh_arith.proofs.eval.settle.Goals as goal

pub returns-then-is_empty-clause-served : goal.returns-then-is_empty-clause-served
returns-then-is_empty-clause-served g c =
    let none : c.args.path.now.parts ≡ [] = search rules in
    settled_same _ _ _ none

pub returns-in-Ok-clause-served : goal.returns-in-Ok-clause-served
returns-in-Ok-clause-served g c =
    let some : c.args.path.now.parts ≡ [] → ⊥ = search rules in
    rw c.settled.ensures (settled_told _ _ _ some (rw c.in-Ok.is at c.ask.ensures.served))

pub returns-in-Err-clause-served : goal.returns-in-Err-clause-served
returns-in-Err-clause-served g c =
    let some : c.args.path.now.parts ≡ [] → ⊥ = search rules in
    not_settled _ _ _ some (rw c.in-Err.is at c.ask.ensures.served)
