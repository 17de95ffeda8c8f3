use Rattle.var_store.proofs.Zeros.{at_single}
use Rattle.var_store.proofs.store.VarStore.assign_zeroed.Goals as goal

pub returns-in-Some : goal.returns-in-Some
returns-in-Some g c = at_single c.args.append c.assign_name.result c.args.self.now c.assign_name.new.self c.args.path.now c.args.text.now c.in-Some.ensures.single c.assign_name.ensures
