use Rattle.std.proofs.Common.{◌≡◌, rules, sym, not}
use Rattle.std.proofs.lemmas.Fn.{filter_same}
use Rattle.var_types.specs.Order.{is_front}
use Rattle.var_store.specs.Changes.{without}
use Rattle.var_store.proofs.Places.{rising_without}
use Rattle.var_store.proofs.row_list.RowList.remove_below.Goals as goal

pub returns : goal.returns
returns g c = rw (sym c.self.view_is) (filter_same _ (λ row. not (is_front c.args.path.now row.0)) _ (λ row b f' k. search rules) _ _ c.retain.ensures.filtered)

pub invariant_of-self : goal.invariant_of-self
invariant_of-self g c =
    let same : c.retain.new.self.items ≡ without c.args.path.now c.self.inside.rows.items = filter_same _ (λ row. not (is_front c.args.path.now row.0)) _ (λ row b f' k. search rules) _ _ c.retain.ensures.filtered in
    rw same (rising_without c.self.inside.rows.items c.args.path.now c.self.invariant)
