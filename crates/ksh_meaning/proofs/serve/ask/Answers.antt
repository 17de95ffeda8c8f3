use Rattle.std.proofs.Common.{rules, refl, Ok, Err, ap}
use Rattle.ksh_meaning.specs.Serving.{called}
use Rattle.ksh_meaning.proofs.serve.ask.Goals as goal

pub returns-in-Ok-clause-did : goal.returns-in-Ok-clause-did
returns-in-Ok-clause-did g c = called (Ok c.in-Ok.told) c.perform.new.state (rw c.in-Ok.is at c.perform.ensures.did) (search rules)

pub returns-in-Err-clause-did : goal.returns-in-Err-clause-did
returns-in-Err-clause-did g c = called (Err c.in-Err.stop) c.perform.new.state (rw c.in-Err.is at c.perform.ensures.did) refl
