use Rattle.std.proofs.Common.{◌≡◌, rules, sym, not, ◌==◌}
use Rattle.std.proofs.lemmas.Fn.{filter_same}
use Rattle.var_store.specs.Changes.{without_scope}
use Rattle.var_store.proofs.Places.{rising_without_scope}
use Rattle.var_store.proofs.row_list.RowList.remove_scope.Goals as goal

pub returns : goal.returns
returns g c = rw (sym c.self.view_is) (filter_same _ (λ row. not (row.0.scope == c.args.scope)) _ (λ row b f' k. search rules) _ _ c.retain.ensures.filtered)

pub invariant_of-self : goal.invariant_of-self
invariant_of-self g c =
    let same : c.retain.new.self.items ≡ without_scope c.args.scope c.self.inside.rows.items = filter_same _ (λ row. not (row.0.scope == c.args.scope)) _ (λ row b f' k. search rules) _ _ c.retain.ensures.filtered in
    rw same (rising_without_scope c.self.inside.rows.items c.args.scope c.self.invariant)
