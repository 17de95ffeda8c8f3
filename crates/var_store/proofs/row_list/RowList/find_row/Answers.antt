use Rattle.std.proofs.Common.{ap, ◌∙◌}
use Rattle.var_types.specs.Rows.{cell_at}
use Rattle.var_store.proofs.Places.{front_whole}
use Rattle.var_store.specs.Fronts.{front}
use Rattle.var_store.proofs.row_list.RowList.find_row.Goals as goal

pub returns : goal.returns
returns g c = c.find.ensures ∙ ap (λ n. cell_at (front n c.args.path.now) c.args.self.now) c.len.ensures ∙ ap (λ p. cell_at p c.args.self.now) (front_whole c.args.path.now)
