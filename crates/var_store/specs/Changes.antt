-- Rows after a change.
use Rattle.std.specs.Prelude.{List, [], ◌∷◌, not, Bool, ◌==◌, ℕ}
use Rattle.std.specs.BTreeMap.{insert_entry}
use Rattle.std.specs.List.{filter}
use Rattle.var_types.specs.declared.path.Path.{Path}
use Rattle.var_types.specs.declared.cell.Cell.{Cell}
use Rattle.var_types.specs.Order.{path_cmp, is_front}
use Rattle.var_types.specs.Rows.{Row, Rows}

-- the rows with that cell in the row of the path, which is made at its place where there is none
abbrev pub with_row : {H : Type 0} → Path → Cell H → Rows H → Rows H
with_row path cell rows = insert_entry path_cmp rows path cell

-- the rows with each of those written, one after the other
abbrev pub with_rows : {H : Type 0} → List (Row H) → Rows H → Rows H
with_rows [] rows = rows
with_rows (w ∷ ws) rows = with_rows ws (with_row w.0 w.1 rows)

-- the rows without that of the path and those below it
abbrev pub without : {H : Type 0} → Path → Rows H → Rows H
without path rows = filter (λ r. not (is_front path r.0)) rows

-- the rows of the other scopes
abbrev pub without_scope : {H : Type 0} → ℕ → Rows H → Rows H
without_scope scope rows = filter (λ r. not (r.0.scope == scope)) rows
