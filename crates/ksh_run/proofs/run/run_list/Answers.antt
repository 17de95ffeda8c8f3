use Rattle.std.proofs.Common.{inl}
use Rattle.ksh_run.proofs.Ends.{ends_list}
use Rattle.ksh_run.proofs.run.run_list.Goals as goal

pub returns-clause-ends : goal.returns-clause-ends
returns-clause-ends g c =
    let r = c.run_job-end.ensures in
    rw c.why_of.ensures (inl (ends_list g.Po.Port.sees c.run_job-end.result c.args.budget c.args.body r.ran r.listed r.spent r.lost (rw c.in-Ok.ensures at r.run)))
