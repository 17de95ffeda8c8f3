-- The orders of steps and of paths are total.
use Rattle.std.specs.Prelude.{◌≡◌, refl}
use Rattle.std.specs.declared.cmp.Ordering.TheVariants.{Less, Equal}
use Rattle.std.specs.Ordering.{ordering_reverse}
use Rattle.std.specs.Cmp.{IsTotalOrder}
use Rattle.std.proofs.lemmas.Cmp.{nat_cmp_total, nat_list_cmp_total, lists_total, then_total, on_total}
use Rattle.var_types.specs.declared.path.Step.{Step}
use Rattle.var_types.specs.declared.path.Step.TheVariants.{Index, Key, Member}
use Rattle.var_types.specs.declared.path.Path.{Path}
use Rattle.var_types.specs.Order.{step_cmp, path_cmp}

step_antisymm : (x y : Step) → step_cmp x y ≡ ordering_reverse (step_cmp y x)
step_antisymm (Index x) (Index y) = nat_cmp_total.antisymm x y
step_antisymm (Index x) (Key y) = refl
step_antisymm (Index x) (Member y) = refl
step_antisymm (Key x) (Index y) = refl
step_antisymm (Key x) (Key y) = nat_list_cmp_total.antisymm x y
step_antisymm (Key x) (Member y) = refl
step_antisymm (Member x) (Index y) = refl
step_antisymm (Member x) (Key y) = refl
step_antisymm (Member x) (Member y) = nat_list_cmp_total.antisymm x y

step_trans : (x y z : Step) → step_cmp x y ≡ Less → step_cmp y z ≡ Less → step_cmp x z ≡ Less
step_trans (Index x) (Index y) (Index z) g h = nat_cmp_total.trans x y z g h
step_trans (Index x) (Index y) (Key z) g h = refl
step_trans (Index x) (Index y) (Member z) g h = refl
step_trans (Index x) (Key y) (Index z) g h = cc
step_trans (Index x) (Key y) (Key z) g h = refl
step_trans (Index x) (Key y) (Member z) g h = refl
step_trans (Index x) (Member y) (Index z) g h = cc
step_trans (Index x) (Member y) (Key z) g h = refl
step_trans (Index x) (Member y) (Member z) g h = refl
step_trans (Key x) (Index y) (Index z) g h = cc
step_trans (Key x) (Index y) (Key z) g h = cc
step_trans (Key x) (Index y) (Member z) g h = refl
step_trans (Key x) (Key y) (Index z) g h = cc
step_trans (Key x) (Key y) (Key z) g h = nat_list_cmp_total.trans x y z g h
step_trans (Key x) (Key y) (Member z) g h = refl
step_trans (Key x) (Member y) (Index z) g h = cc
step_trans (Key x) (Member y) (Key z) g h = cc
step_trans (Key x) (Member y) (Member z) g h = refl
step_trans (Member x) (Index y) (Index z) g h = cc
step_trans (Member x) (Index y) (Key z) g h = cc
step_trans (Member x) (Index y) (Member z) g h = cc
step_trans (Member x) (Key y) (Index z) g h = cc
step_trans (Member x) (Key y) (Key z) g h = cc
step_trans (Member x) (Key y) (Member z) g h = cc
step_trans (Member x) (Member y) (Index z) g h = cc
step_trans (Member x) (Member y) (Key z) g h = cc
step_trans (Member x) (Member y) (Member z) g h = nat_list_cmp_total.trans x y z g h

step_congr : (x y z : Step) → step_cmp x y ≡ Equal → step_cmp x z ≡ step_cmp y z
step_congr (Index x) (Index y) (Index z) h = nat_cmp_total.congr x y z h
step_congr (Index x) (Index y) (Key z) h = refl
step_congr (Index x) (Index y) (Member z) h = refl
step_congr (Index x) (Key y) (Index z) h = cc
step_congr (Index x) (Key y) (Key z) h = cc
step_congr (Index x) (Key y) (Member z) h = cc
step_congr (Index x) (Member y) (Index z) h = cc
step_congr (Index x) (Member y) (Key z) h = cc
step_congr (Index x) (Member y) (Member z) h = cc
step_congr (Key x) (Index y) (Index z) h = cc
step_congr (Key x) (Index y) (Key z) h = cc
step_congr (Key x) (Index y) (Member z) h = cc
step_congr (Key x) (Key y) (Index z) h = refl
step_congr (Key x) (Key y) (Key z) h = nat_list_cmp_total.congr x y z h
step_congr (Key x) (Key y) (Member z) h = refl
step_congr (Key x) (Member y) (Index z) h = cc
step_congr (Key x) (Member y) (Key z) h = cc
step_congr (Key x) (Member y) (Member z) h = cc
step_congr (Member x) (Index y) (Index z) h = cc
step_congr (Member x) (Index y) (Key z) h = cc
step_congr (Member x) (Index y) (Member z) h = cc
step_congr (Member x) (Key y) (Index z) h = cc
step_congr (Member x) (Key y) (Key z) h = cc
step_congr (Member x) (Key y) (Member z) h = cc
step_congr (Member x) (Member y) (Index z) h = refl
step_congr (Member x) (Member y) (Key z) h = refl
step_congr (Member x) (Member y) (Member z) h = nat_list_cmp_total.congr x y z h

pub step_total : IsTotalOrder step_cmp
step_total = record { antisymm = step_antisymm; trans = step_trans; congr = step_congr }

pub path_total : IsTotalOrder path_cmp
path_total = then_total (on_total (λ (p : Path). p.scope) nat_cmp_total) (then_total (on_total (λ (p : Path). p.name) nat_list_cmp_total) (on_total (λ (p : Path). p.steps) (lists_total step_total)))
