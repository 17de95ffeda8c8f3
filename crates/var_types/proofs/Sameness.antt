-- The order of paths tells every two paths apart, and puts a path before those that go on from it.
use Rattle.std.proofs.Common.{◌≡◌, ℕ, ◌<◌, List, [], ◌∷◌, ◌++◌, Bool, true, false, ◌&&◌, ◌==◌, length, take, refl, sym, ap, subst, ◌∙◌, arith}
use Rattle.std.specs.declared.cmp.Ordering.{Ordering}
use Rattle.std.specs.declared.cmp.Ordering.TheVariants.{Less, Equal, Greater}
use Rattle.std.specs.Ordering.{nat_cmp, ordering_then, eq_by_cmp, is_eq}
use Rattle.std.specs.Cmp.{IsTotalOrder}
use Rattle.std.specs.Cmp.Lexicographic.{slice_cmp}
use Rattle.std.specs.FinMap.{IsAntisymmetric, nat_cmp-IsAntisymmetric, slice_cmp-IsAntisymmetric}
use Rattle.std.specs.List.{starts_with}
use Rattle.std.proofs.lemmas.Cmp.{nat_cmp_total, nat_list_cmp_total, tied_itself}
use Rattle.ksh_base.specs.Text.{same_numbers}
use Rattle.var_types.specs.declared.path.Path.{Path}
use Rattle.var_types.specs.declared.path.Step.{Step}
use Rattle.var_types.specs.declared.path.Step.TheVariants.{Index, Key, Member}
use Rattle.var_types.specs.Order.{text_cmp, step_cmp, step_eq, path_cmp, is_front}
use Rattle.var_types.specs.Totals.{path_total}

pub total : IsTotalOrder path_cmp
total = path_total

same_step : IsAntisymmetric step_cmp
same_step (Index m) (Index n) h = ap Index (nat_cmp-IsAntisymmetric m n h)
same_step (Index m) (Key s) h = cc
same_step (Index m) (Member s) h = cc
same_step (Key r) (Index n) h = cc
same_step (Key r) (Key s) h = ap Key (slice_cmp-IsAntisymmetric nat_cmp-IsAntisymmetric r s h)
same_step (Key r) (Member s) h = cc
same_step (Member r) (Index n) h = cc
same_step (Member r) (Key s) h = cc
same_step (Member r) (Member s) h = ap Member (slice_cmp-IsAntisymmetric nat_cmp-IsAntisymmetric r s h)

both_equal : (a b : Ordering) → ordering_then a b ≡ Equal → (a ≡ Equal) × (b ≡ Equal)
both_equal Less b h = cc
both_equal Equal b h = (refl, h)
both_equal Greater b h = cc

same_fields : (p q : Path) → p.scope ≡ q.scope → p.name ≡ q.name → p.steps ≡ q.steps → p ≡ q
same_fields p q s n t = λ j. record { scope = s j; name = n j; steps = t j }

pub same_path : (p q : Path) → path_cmp p q ≡ Equal → p ≡ q
same_path p q h =
    let a = both_equal (nat_cmp p.scope q.scope) (ordering_then (text_cmp p.name q.name) (slice_cmp step_cmp p.steps q.steps)) h in
    let b = both_equal (text_cmp p.name q.name) (slice_cmp step_cmp p.steps q.steps) a.1 in
    same_fields p q (nat_cmp-IsAntisymmetric p.scope q.scope a.0) (slice_cmp-IsAntisymmetric nat_cmp-IsAntisymmetric p.name q.name b.0) (slice_cmp-IsAntisymmetric same_step p.steps q.steps b.1)
