-- What the code keeps of what stands at a front.
use Rattle.std.proofs.Common.{◌≡◌, ℕ, zero, suc, ◌+◌, ◌++◌, Bool, Option, Some, None, slice_get, refl, sym, ap, ◌∙◌, arith}
use Rattle.var_types.specs.declared.path.Path.{Path}
use Rattle.var_types.specs.declared.path.Step.{Step}
use Rattle.var_types.specs.declared.cell.Cell.{Cell}
use Rattle.var_types.specs.Rows.{Rows, cell_at, no_hooks}
use Rattle.var_store.specs.declared.standing.Standing.{Standing}
use Rattle.var_store.specs.Fronts.{front}
use Rattle.var_store.specs.declared.faults.Faults.{Faults}
use Rattle.var_store.specs.Faults.{both, has_below, is_absent, refuses_subscripts, step_faults, step_faults_at, path_faults}
use Rattle.var_types.specs.declared.value.Value.{Value}
use Rattle.var_types.specs.declared.cell.HookSet.{HookSet}
use Rattle.std.specs.Option.{unwrap_or}
use Rattle.var_store.specs.Growth.{with_value, growth, growths}
use Rattle.var_store.specs.Standing.{blank, after_step, hooks_of, standing, led_to, led_attrs, Held, Stands}

pub led_stands : {H : Type 0} (rows : Rows H) (path : Path) (d : ℕ) (step : Step) (b r : Standing) → None ≡ cell_at (front d path) rows → r.attrs ≡ led_attrs b.attrs step → Held r.value ≡ led_to (Held b.value) step
    → (k : ℕ) → d ≡ suc k → slice_get path.steps k ≡ Some step → Stands b (standing rows path k) → Stands r (standing rows path (suc k))
led_stands rows path d step b r none attrs value k e at h =
    let here : None ≡ cell_at (front (suc k) path) rows = none ∙ ap (λ n. cell_at (front n path) rows) e in
    rw (sym here, at) (attrs ∙ ap (λ a. led_attrs a step) h.0, value ∙ ap (λ v. led_to v step) h.1)

pub own_stands : {H : Type 0} (rows : Rows H) (path : Path) (d : ℕ) (r : Standing) (cell : Cell H) → Some cell ≡ cell_at (front d path) rows → Stands r cell → (k : ℕ) → d ≡ suc k → Stands r (standing rows path (suc k))
own_stands rows path d r cell own h k e =
    let here : Some cell ≡ cell_at (front (suc k) path) rows = own ∙ ap (λ n. cell_at (front n path) rows) e in
    rw (sym here) h

pub walked_more : {H : Type 0} (rows : Rows H) (path : Path) (k : ℕ) (step : Step) (s : Standing) (absent refused : Bool) (faults more : Faults) → faults ≡ path_faults rows path k → slice_get path.steps k ≡ Some step
    → more ≡ step_faults s.attrs.readonly (Held s.value) absent refused step → absent ≡ is_absent (cell_at (front k path) rows) → refused ≡ refuses_subscripts (Held s.value) (has_below (front k path) rows) → Stands s (standing rows path k) → both faults more ≡ path_faults rows path (k + 1)
walked_more rows path k step s absent refused faults more f at m a r h =
    let here : more ≡ step_faults_at (standing rows path k) (is_absent (cell_at (front k path) rows)) (has_below (front k path) rows) (slice_get path.steps k) = (rw (m, a, r, at, h.0, h.1) refl) in
    let next : suc k ≡ k + 1 = omega arith in
    ap (λ x. both x more) f ∙ ap (λ x. both (path_faults rows path k) x) here ∙ ap (λ n. path_faults rows path n) next

pub stands_at : {H : Type 0} (rows : Rows H) (path : Path) (k : ℕ) (s : Standing) → Stands s (standing rows path (suc k)) → Stands s (standing rows path (k + 1))
stands_at rows path k s h = let next : suc k ≡ k + 1 = omega arith in rw (sym next) h

hooks_by : {H : Type 0} (own : Option (Cell H)) (else_ : Cell H) → else_.hooks ≡ no_hooks → (unwrap_or own else_).hooks ≡ hooks_of own
hooks_by None c h = h
hooks_by (Some x) c h = refl

after_step_hooks : {H : Type 0} (c : Cell H) (s : Option Step) → (after_step c s).hooks ≡ no_hooks
after_step_hooks c None = refl
after_step_hooks c (Some s) = refl

pub standing_hooks : {H : Type 0} (rows : Rows H) (path : Path) (k : ℕ) → (standing rows path k).hooks ≡ hooks_of (cell_at (front k path) rows)
standing_hooks rows path zero = hooks_by (cell_at (front 0 path) rows) blank refl
standing_hooks rows path (suc k) = hooks_by (cell_at (front (suc k) path) rows) (after_step (standing rows path k) (slice_get path.steps k)) (after_step_hooks (standing rows path k) (slice_get path.steps k))

pub revalues : {H : Type 0} (rows : Rows H) (path : Path) (k : ℕ) (s : Standing) (v : Value) (hooks : HookSet H) → hooks ≡ hooks_of (cell_at (front k path) rows) → Stands s (standing rows path k)
    → (let c : Cell H = record { attrs = s.attrs; value = v; hooks = hooks } in c ≡ with_value (standing rows path k) v)
revalues {H} rows path k s v hooks h stands =
    let e : hooks ≡ (standing rows path k).hooks = h ∙ sym (standing_hooks rows path k) in
    rw (stands.0, e) refl

pub grown_more : {H : Type 0} (rows : Rows H) (path : Path) (k : ℕ) (step : Step) (writes more : Rows H) → writes ≡ growths rows path k → slice_get path.steps k ≡ Some step
    → more ≡ writes ++ growth rows (front k path) (standing rows path k) (Some step) → more ≡ growths rows path (k + 1)
grown_more rows path k step writes more w at m =
    let next : suc k ≡ k + 1 = omega arith in
    m ∙ ap (λ ws. ws ++ growth rows (front k path) (standing rows path k) (Some step)) w ∙ ap (λ s. growths rows path k ++ growth rows (front k path) (standing rows path k) s) (sym at) ∙ ap (growths rows path) next
