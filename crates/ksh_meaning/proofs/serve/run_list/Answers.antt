use Rattle.std.proofs.Common.{rules, refl, Ok, Err}
use Rattle.ksh_meaning.specs.Serving.{called, uncalled}
use Rattle.ksh_meaning.proofs.serve.run_list.Goals as goal

pub returns-in_default-clause-did : goal.returns-in_default-clause-did
returns-in_default-clause-did g c = uncalled refl refl

pub returns-in-Ok-perform-clause-did : goal.returns-in-Ok-perform-clause-did
returns-in-Ok-perform-clause-did g c = called (Ok c.in-Ok-perform.told) c.perform.new.state (search rules) (search rules)

pub returns-in-Err-clause-did : goal.returns-in-Err-clause-did
returns-in-Err-clause-did g c = called (Err c.in-Err.stop) c.perform.new.state (search rules) refl
