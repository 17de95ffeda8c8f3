use Rattle.std.proofs.Common.{ap, subst, sym}
use Rattle.std.specs.Prelude.{Ok}
use Rattle.var_store.specs.Fronts.{Places}
use Rattle.var_store.proofs.Zeros.{parts_refused, parts_put}
use Rattle.var_store.proofs.store.VarStore.assign_name.Goals as goal

pub returns-in-Err : goal.returns-in-Err
returns-in-Err g c = parts_refused c.args.append c.args.self.now (c.self.inside.rows, c.self.inside.scope) c.args.path.now c.args.text.now c.cell.result.now c.in-Err.fault c.self.view_is c.requires.name c.cell.ensures c.in-Err.ensures

pub returns-in-Ok : goal.returns-in-Ok
returns-in-Ok g c =
    let place = subst (λ rows. Places rows c.args.path.now (Ok c.args.at)) (ap (λ st. st.0) (sym c.self.view_is)) c.requires.place in
    parts_put c.args.append c.args.self.now (c.self.inside.rows, c.self.inside.scope) c.args.path.now c.args.text.now c.cell.result.now c.in-Ok.value c.set_value.new.self c.self.view_is c.requires.name c.cell.ensures c.in-Ok.ensures (c.set_value.ensures c.args.path.now c.cell.result.now place c.cell.ensures)
