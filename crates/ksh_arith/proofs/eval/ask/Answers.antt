use Rattle.ksh_arith.proofs.Forms.{served_asked, served_refused}
use Rattle.ksh_arith.proofs.eval.ask.Goals as goal

pub returns-in-Ok-clause-served : goal.returns-in-Ok-clause-served
returns-in-Ok-clause-served g c = served_asked c.args.path.now c.args.what c.args.depth (rw c.in-Ok.is at c.call.ensures.did)

pub returns-in-Err-clause-served : goal.returns-in-Err-clause-served
returns-in-Err-clause-served g c = served_refused c.args.path.now c.args.what c.args.depth (rw c.in-Err.is at c.call.ensures.did)
