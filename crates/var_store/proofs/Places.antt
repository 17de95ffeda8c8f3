-- What the place of a path says of its row.
use Rattle.std.proofs.Common.{◌≡◌, ℕ, ◌<◌, List, [], ◌∷◌, Option, Some, None, Result, Ok, Err, length, take, slice_get, slice_set, get_or, refl, sym, ap, ◌∙◌, not, ◌==◌, Bool}
use Rattle.std.specs.declared.cmp.Ordering.TheVariants.{Less, Equal}
use Rattle.std.specs.Option.{option_map}
use Rattle.std.specs.List.Sorted.{IsStrictlySortedBy}
use Rattle.std.specs.List.{insert, filter}
use Rattle.std.proofs.lemmas.Option.{slice_get_read}
use Rattle.std.proofs.lemmas.Map.Entries.{lookup_at_gap}
use Rattle.std.proofs.Math.Seq.{take-length}
use Rattle.var_types.specs.declared.path.Path.{Path}
use Rattle.var_types.specs.declared.cell.Cell.{Cell}
use Rattle.var_types.specs.Order.{path_cmp, is_front}
use Rattle.var_types.specs.Rows.{Row, Rows, IsRising, cell_at}
use Rattle.var_types.specs.Totals.{path_total}
use Rattle.var_store.specs.Fronts.{front, IsPlace, Places}
use Rattle.var_store.specs.Changes.{with_row, without, without_scope}
use Rattle.var_types.specs.declared.value.Value.{Value}
use Rattle.var_store.specs.Growth.{with_value}
use Rattle.var_store.proofs.Sorted.{keys_set, found_there, put_there, put_between, rising_put, rising_filter}

pub found : {H : Type 0} (rows : Rows H) (path : Path) (i : ℕ) (row : Row H) → (i < length rows) × IsPlace rows path i Equal → row ≡ get_or rows i row → Some row.1 ≡ cell_at path rows
found rows path i row p at =
    let there = slice_get_read rows (length rows) i row refl p.0 at in
    sym (found_there path_cmp path rows i p.0 p.1.before p.1.there ∙ ap (option_map (λ e. e.1)) there)

pub missing : {H : Type 0} (rows : Rows H) (path : Path) (i : ℕ) → IsRising rows → IsPlace rows path i Less → None ≡ cell_at path rows
missing rows path i s p = sym (lookup_at_gap path_total path rows i s p.before p.there)

pub put_found : {H : Type 0} (rows : Rows H) (path : Path) (i : ℕ) (row : Row H) (cell : Cell H) → (i < length rows) × IsPlace rows path i Equal → row ≡ get_or rows i row → slice_set rows i (row.0, cell) ≡ with_row path cell rows
put_found rows path i row cell p at =
    let there = slice_get_read rows (length rows) i row refl p.0 at in
    sym (put_there path_cmp path cell rows i row there p.1.before p.1.there)

pub put_missing : {H : Type 0} (rows : Rows H) (path : Path) (i : ℕ) (cell : Cell H) → IsPlace rows path i Less → insert rows i (path, cell) ≡ with_row path cell rows
put_missing rows path i cell p = sym (put_between path_cmp path cell rows i p.within p.before p.there)

pub rising_row : {H : Type 0} (rows : Rows H) (path : Path) (cell : Cell H) → IsRising rows → IsRising (with_row path cell rows)
rising_row rows path cell s = rising_put path_total path cell rows s

pub rising_without : {H : Type 0} (rows : Rows H) (path : Path) → IsRising rows → IsRising (without path rows)
rising_without rows path s = rising_filter path_cmp (λ q. not (is_front path q)) rows s

pub rising_without_scope : {H : Type 0} (rows : Rows H) (scope : ℕ) → IsRising rows → IsRising (without_scope scope rows)
rising_without_scope rows scope s = rising_filter path_cmp (λ q. not (q.scope == scope)) rows s

pub rising_none : {H : Type 0} (rows : Rows H) → rows ≡ [] → IsRising rows
unfolding IsStrictlySortedBy
rising_none [] h = tt
rising_none (r ∷ rows) h = cc

pub front_whole : (path : Path) → front (length path.steps) path ≡ path
front_whole path = rw (take-length path.steps) refl

pub set_found : {H : Type 0} (rows : Rows H) (path : Path) (i : ℕ) (row : Row H) (c : Cell H) (v : Value) → (i < length rows) × IsPlace rows path i Equal → row ≡ get_or rows i row → Some c ≡ cell_at path rows → slice_set rows i (row.0, with_value row.1 v) ≡ with_row path (with_value c v) rows
set_found rows path i row c v p at h =
    let same : Some row.1 ≡ Some c = found rows path i row p at ∙ sym h in
    let is : row.1 ≡ c = cc in
    put_found rows path i row (with_value row.1 v) p at ∙ ap (λ d. with_row path (with_value d v) rows) is

pub rising_set : {H : Type 0} (rows : Rows H) (i : ℕ) (row : Row H) (cell : Cell H) → i < length rows → row ≡ get_or rows i row → IsRising rows → IsRising (slice_set rows i (row.0, cell))
rising_set rows i row cell l at s = rw (keys_set cell rows i row (slice_get_read rows (length rows) i row refl l at)) s
