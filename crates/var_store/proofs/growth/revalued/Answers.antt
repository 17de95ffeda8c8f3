use Rattle.var_store.proofs.Stands.{revalues}
use Rattle.var_store.proofs.growth.revalued.Goals as goal

pub returns : goal.returns
returns g c = revalues c.args.rows.now c.args.path.now c.args.depth c.args.stands c.args.value c.in_ok-hooks.hooks c.in_ok-hooks.ensures.own
