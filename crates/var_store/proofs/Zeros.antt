-- An indexed array stands for its element 0.
use Rattle.std.proofs.Common.{◌≡◌, ℕ, zero, suc, ◌<◌, ◌-◌, Bool, true, false, List, [], length, Option, Some, None, Result, Ok, Err, arith, refl, sym, ap, subst, ◌∙◌}
use Rattle.var_types.specs.declared.path.Path.{Path}
use Rattle.var_types.specs.declared.path.Step.TheVariants.{Index}
use Rattle.var_types.specs.Rows.{Rows, cell_at}
use Rattle.var_store.specs.Growth.{then_step, with_value}
use Rattle.var_types.specs.declared.cell.Cell.{Cell}
use Rattle.var_types.specs.declared.value.Value.{Value}
use Rattle.var_store.specs.declared.faults.VarFault.{VarFault}
use Rattle.var_store.specs.declared.faults.VarFault.TheVariants as fault
use Rattle.var_store.specs.Shaping.{assigned}
use Rattle.var_store.specs.Changes.{with_row}
use Rattle.var_store.specs.Faults.{first_fault}
use Rattle.var_store.specs.Calls.{Store, Change, is_indexed, zeroed, zeroed_by, unless, text_faults, cell_value, or_wrong, valued, Answers, Changes, assigned_cell, assign_cell, assign_at, placed}

pub zeroed_more : {H : Type 0} (rows : Rows H) (at next whole : Path) (left : ℕ) → 0 < left → is_indexed (cell_at at rows) ≡ true → next ≡ then_step at (Index 0) → zeroed_by left rows at ≡ whole → zeroed_by (left - 1) rows next ≡ whole
zeroed_more rows at next whole zero l i n h = absurd (omega arith)
zeroed_more rows at next whole (suc left) l i n h =
    let less : suc left - 1 ≡ left = omega arith in
    let one = rw i at h in
    rw (less, n) one

pub zeroed_stop : {H : Type 0} (rows : Rows H) (path : Path) (n : ℕ) → is_indexed (cell_at path rows) ≡ false → zeroed_by n rows path ≡ path
zeroed_stop rows path zero h = refl
zeroed_stop rows path (suc n) h = rw h refl

pub zeroed_single : {H : Type 0} (rows : Rows H) (path : Path) → is_indexed (cell_at path rows) ≡ false → zeroed rows path ≡ path
zeroed_single rows path h = zeroed_stop rows path (length rows) h

-- ---- a path without steps
-- the path of a name
abbrev pub bare : ℕ → List ℕ → Path
bare scope name = record { scope = scope; name = name; steps = [] }

bare_is : (path : Path) → path.steps ≡ [] → path ≡ bare path.scope path.name
bare_is path h = ap (λ s. let p : Path = record { scope = path.scope; name = path.name; steps = s } in p) h

-- the change where nothing is made on the way
abbrev pub named : {H : Type 0} → Store H → Path → Cell H → Result Value VarFault → Change H
named store path c (Ok v) = Ok (with_row path (with_value c v) store.0, store.1)
named store path c (Err f) = Err f

by_value : {H : Type 0} (store : Store H) (scope : ℕ) (name : List ℕ) (c : Cell H) (fault : Option VarFault) (v : Option Value) → placed store (bare scope name) (unless fault (valued c v)) ≡ named store (bare scope name) c (unless fault (or_wrong v))
by_value store scope name c (Some f) v = refl
by_value store scope name c None None = refl
by_value store scope name c None (Some v) = refl

bare_cell : {H : Type 0} (append : Bool) (rows : Rows H) (scope : ℕ) (name text : List ℕ) (c : Cell H) → Some c ≡ cell_at (bare scope name) rows
    → assign_cell append rows (bare scope name) text ≡ unless (first_fault (text_faults c.attrs.readonly c.value)) (assigned_cell append c text)
bare_cell append rows scope name text c h = rw (sym h) refl

pub name_assigned : {H : Type 0} (append : Bool) (store : Store H) (path : Path) (text : List ℕ) (c : Cell H) → path.steps ≡ [] → Some c ≡ cell_at path store.0 → assign_at append store path text ≡ named store path c (cell_value append c text)
name_assigned append store path text c s h =
    let at : Some c ≡ cell_at (bare path.scope path.name) store.0 = h ∙ ap (λ p. cell_at p store.0) (bare_is path s) in
    ap (λ p. assign_at append store p text) (bare_is path s) ∙ ap (placed store (bare path.scope path.name)) (bare_cell append store.0 path.scope path.name text c at)
    ∙ by_value store path.scope path.name c (first_fault (text_faults c.attrs.readonly c.value)) (assigned append c.attrs c.value text) ∙ ap (λ p. named store p c (cell_value append c text)) (sym (bare_is path s))

-- a refused value refuses the change
refused : {H : Type 0} (store : Store H) (path : Path) (c : Cell H) (e : VarFault) (answer : Result Value VarFault) → (let r : Result Value VarFault = Err e in Answers r answer) → (let r : Result (Unit {0}) VarFault = Err e in Changes r store store (named store path c answer))
refused store path c fault.Memory answer h = refl
refused store path c fault.NoParent answer h = (ap (named store path c) h, refl)
refused store path c fault.ReadOnly answer h = (ap (named store path c) h, refl)
refused store path c fault.NotArray answer h = (ap (named store path c) h, refl)
refused store path c fault.SubscriptRange answer h = (ap (named store path c) h, refl)
refused store path c fault.NotAName answer h = (ap (named store path c) h, refl)
refused store path c fault.WrongKind answer h = (ap (named store path c) h, refl)

pub name_refused : {H : Type 0} (append : Bool) (store : Store H) (path : Path) (text : List ℕ) (c : Cell H) (e : VarFault) → path.steps ≡ [] → Some c ≡ cell_at path store.0 → (let r : Result Value VarFault = Err e in Answers r (cell_value append c text))
    → (let r : Result (Unit {0}) VarFault = Err e in Changes r store store (assign_at append store path text))
name_refused append store path text c e s h a =
    subst (λ ch. let r : Result (Unit {0}) VarFault = Err e in Changes r store store ch) (sym (name_assigned append store path text c s h)) (refused store path c e (cell_value append c text) a)

pub name_put : {H : Type 0} (append : Bool) (store : Store H) (path : Path) (text : List ℕ) (c : Cell H) (v : Value) (rows : Rows H) → path.steps ≡ [] → Some c ≡ cell_at path store.0 → cell_value append c text ≡ Ok v → rows ≡ with_row path (with_value c v) store.0
    → assign_at append store path text ≡ Ok (rows, store.1)
name_put append store path text c v rows s h a r = name_assigned append store path text c s h ∙ ap (named store path c) a ∙ ap (λ rs. Ok (rs, store.1)) (sym r)

pub at_single : {H A : Type 0} (append : Bool) (r : Result A VarFault) (old new : Store H) (path : Path) (text : List ℕ) → is_indexed (cell_at path old.0) ≡ false → Changes r old new (assign_at append old path text) → Changes r old new (assign_at append old (zeroed old.0 path) text)
at_single append r old new path text i h = subst (λ p. Changes r old new (assign_at append old p text)) (sym (zeroed_single old.0 path i)) h

-- the same of a store that is known by its parts
pub parts_refused : {H : Type 0} (append : Bool) (store parts : Store H) (path : Path) (text : List ℕ) (c : Cell H) (e : VarFault) → parts ≡ store → path.steps ≡ [] → Some c ≡ cell_at path parts.0 → (let r : Result Value VarFault = Err e in Answers r (cell_value append c text))
    → (let r : Result (Unit {0}) VarFault = Err e in Changes r store store (assign_at append store path text))
parts_refused append store parts path text c e same s h a =
    subst (λ st. let r : Result (Unit {0}) VarFault = Err e in Changes r st st (assign_at append st path text)) same (name_refused append parts path text c e s h a)

pub parts_put : {H : Type 0} (append : Bool) (store parts : Store H) (path : Path) (text : List ℕ) (c : Cell H) (v : Value) (rows : Rows H) → parts ≡ store → path.steps ≡ [] → Some c ≡ cell_at path parts.0 → cell_value append c text ≡ Ok v → rows ≡ with_row path (with_value c v) parts.0
    → assign_at append store path text ≡ Ok (rows, parts.1)
parts_put append store parts path text c v rows same s h a r =
    subst (λ st. assign_at append st path text ≡ Ok (rows, parts.1)) same (name_put append parts path text c v rows s h a r)
