use Rattle.std.proofs.Common.{rules, ◌≡◌, Some}
use Rattle.std.proofs.lemmas.Result.{IfOk-weaker, IfErr-weaker}
use Rattle.ksh_nameref.specs.Chains.{next}
use Rattle.ksh_nameref.proofs.Fronts.{ends_later, cause_later}
use Rattle.ksh_nameref.proofs.chain.follow_row.Goals as goal

pub returns-in-Some-clause-ok : goal.returns-in-Some-clause-ok
returns-in-Some-clause-ok g c =
    let on : next (g.C.Cells.rows c.args.cells.now) c.args.row.now ≡ Some c.in-Some.target.now = search rules in
    IfOk-weaker c.follow.result _ _ (λ to h. (ends_later (g.C.Cells.rows c.args.cells.now) c.args.row.now c.in-Some.target.now to.now on h.0, h.1)) c.follow.ensures.ok

pub returns-in-Some-clause-err : goal.returns-in-Some-clause-err
returns-in-Some-clause-err g c =
    let on : next (g.C.Cells.rows c.args.cells.now) c.args.row.now ≡ Some c.in-Some.target.now = search rules in
    IfErr-weaker c.follow.result _ _ (λ e h. cause_later (g.C.Cells.rows c.args.cells.now) c.args.row.now c.in-Some.target.now e on h) c.follow.ensures.err
