use Rattle.var_store.proofs.Stands.{led_stands, own_stands}
use Rattle.var_store.proofs.standing.next_standing.Goals as goal

pub returns-in-None : goal.returns-in-None
returns-in-None g c = led_stands c.args.rows.now c.args.path.now c.args.depth c.args.step.now c.args.before c.led.result c.in-None.ensures c.led.ensures.attrs c.led.ensures.value

pub returns-in-Some : goal.returns-in-Some
returns-in-Some g c = λ k e at h. own_stands c.args.rows.now c.args.path.now c.args.depth c.of.result c.in-Some.cell.now c.in-Some.ensures c.of.ensures k e
