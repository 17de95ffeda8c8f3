-- A row whose name is in none of the others goes to the end.
use Rattle.std.proofs.Common.{◌≡◌, refl, sym, ap, ◌∙◌, List, [], ◌∷◌, ◌++◌, Bool, false}
use Rattle.std.specs.Cmp.{IsEquivalence}
use Rattle.std.specs.List.{AllByRecursion, IsDistinct}
use Rattle.std.specs.Map.{keys_of}
use Rattle.indexmap.specs.IndexMap.{insert_entry}

module _ {K X : Type 0} where
  at_mid : (P : K → Type 0) (es rest : List (K × X)) (k : K) (v : X) → AllByRecursion P (keys_of (es ++ (k, v) ∷ rest)) → P k
  at_mid P [] rest k v h = h.0
  at_mid P (e ∷ es) rest k v h = at_mid P es rest k v h.1

  pub insert_last : (eq : K → K → Bool) → IsEquivalence eq → (es rest : List (K × X)) (k : K) (v : X) → IsDistinct eq (keys_of (es ++ (k, v) ∷ rest)) → insert_entry eq es k v ≡ es ++ (k, v) ∷ []
  unfolding IsDistinct
  insert_last eq o [] rest k v h = refl
  insert_last eq o (e ∷ es) rest k v h =
      let apart : eq k e.0 ≡ false = o.symm k e.0 ∙ at_mid (λ y. eq e.0 y ≡ false) es rest k v h.0 in
      rw apart (ap (λ l. e ∷ l) (insert_last eq o es rest k v h.1))
