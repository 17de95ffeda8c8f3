-- A row that was put is taken back.
use Rattle.std.proofs.Common.{◌≡◌, refl, ap, ◌∙◌, List, [], ◌∷◌}
use Rattle.std.proofs.lemmas.Cmp.{tied_itself}
use Rattle.std.specs.Cmp.{IsTotalOrder}
use Rattle.std.specs.declared.cmp.Ordering.{Ordering}
use Rattle.std.specs.declared.cmp.Ordering.TheVariants.{Less, Equal, Greater}
use Rattle.std.specs.declared.option.Option.TheVariants.{None, Some}
use Rattle.std.specs.List.{AllByRecursion}
use Rattle.std.specs.List.Sorted.{IsStrictlySortedBy}
use Rattle.std.specs.Map.{keys_of, lookup, set_value, remove_entry}
use Rattle.std.specs.BTreeMap.{insert_entry, is_at}

module _ {K X : Type 0} (cmp : K → K → Ordering) where
  -- a key below all others isn't found among them
  none_above : (k : K) (es : List (K × X)) → AllByRecursion (λ y. cmp k y ≡ Less) (keys_of es) → lookup (is_at (cmp k)) es ≡ None
  none_above k [] h = refl
  none_above k (e ∷ es) h = rw h.0 (none_above k es h.1)

  removed_by : IsTotalOrder cmp → (k : K) (w : X) (e : K × X) (es : List (K × X)) (ord : Ordering) → cmp k e.0 ≡ ord
      → None ≡ lookup (is_at (cmp k)) (e ∷ es)
      → (None ≡ lookup (is_at (cmp k)) es → remove_entry (is_at (cmp k)) (insert_entry cmp es k w) ≡ es)
      → remove_entry (is_at (cmp k)) (insert_entry cmp (e ∷ es) k w) ≡ e ∷ es
  removed_by o k w e es Less c h ih = rw (c, tied_itself o k) refl
  removed_by o k w e es Equal c h ih = absurd (let no : None ≡ Some e.1 = rw c at h in cc)
  removed_by o k w e es Greater c h ih = rw (c, c) (ap (λ l. e ∷ l) (ih (rw c at h)))

  -- a new row is taken out
  pub removed : IsTotalOrder cmp → (es : List (K × X)) (k : K) (w : X) → None ≡ lookup (is_at (cmp k)) es
      → remove_entry (is_at (cmp k)) (insert_entry cmp es k w) ≡ es
  removed o [] k w h = rw (tied_itself o k) refl
  removed o (e ∷ es) k w h = removed_by o k w e es (cmp k e.0) refl h (removed o es k w)

  restored_by : (k : K) (w v : X) (e : K × X) (es : List (K × X)) (ord : Ordering) → cmp k e.0 ≡ ord
      → Some v ≡ lookup (is_at (cmp k)) (e ∷ es) → IsStrictlySortedBy cmp (keys_of (insert_entry cmp (e ∷ es) k w))
      → (Some v ≡ lookup (is_at (cmp k)) es → IsStrictlySortedBy cmp (keys_of (insert_entry cmp es k w)) → set_value (is_at (cmp k)) (insert_entry cmp es k w) v ≡ es)
      → set_value (is_at (cmp k)) (insert_entry cmp (e ∷ es) k w) v ≡ e ∷ es
  unfolding IsStrictlySortedBy
  restored_by k w v e es Less c h s ih = let none = none_above k (e ∷ es) (let s' = rw c at s in s'.0) in absurd (let no : Some v ≡ None = h ∙ none in cc)
  restored_by k w v e es Equal c h s ih = let same : Some v ≡ Some e.1 = rw c at h in let v_is : v ≡ e.1 = cc in rw (c, c) (ap (λ (x : X). (e.0, x) ∷ es) v_is)
  restored_by k w v e es Greater c h s ih = rw (c, c) (ap (λ l. e ∷ l) (ih (rw c at h) (let s' = rw c at s in s'.1)))

  -- a row gets the value that it had
  pub restored : (es : List (K × X)) (k : K) (w v : X) → Some v ≡ lookup (is_at (cmp k)) es
      → IsStrictlySortedBy cmp (keys_of (insert_entry cmp es k w)) → set_value (is_at (cmp k)) (insert_entry cmp es k w) v ≡ es
  unfolding IsStrictlySortedBy
  restored [] k w v h s = absurd (let no : Some v ≡ None = h in cc)
  restored (e ∷ es) k w v h s = restored_by k w v e es (cmp k e.0) refl h s (restored es k w v)

  found_order : IsTotalOrder cmp → (k : K) (w : X) (e : K × X) (es : List (K × X)) (ord : Ordering) → cmp k e.0 ≡ ord
      → lookup (is_at (cmp k)) (insert_entry cmp es k w) ≡ Some w → lookup (is_at (cmp k)) (insert_entry cmp (e ∷ es) k w) ≡ Some w
  found_order o k w e es Less c ih = rw (c, tied_itself o k) refl
  found_order o k w e es Equal c ih = rw (c, c) refl
  found_order o k w e es Greater c ih = rw (c, c) ih

  -- what was put is found
  pub put_found : IsTotalOrder cmp → (es : List (K × X)) (k : K) (w : X) → lookup (is_at (cmp k)) (insert_entry cmp es k w) ≡ Some w
  put_found o [] k w = rw (tied_itself o k) refl
  put_found o (e ∷ es) k w = found_order o k w e es (cmp k e.0) refl (put_found o es k w)
