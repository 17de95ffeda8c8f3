-- Rows in the order of their keys, through a change.
use Rattle.std.proofs.Common.{◌≡◌, refl, sym, ap, ◌∙◌, suc, ◌≤◌, Bool, true, false, cond, List, [], ◌∷◌, length, Some, None, Ordering, Less, Equal, Greater, is_eq, arith}
use Rattle.std.proofs.lemmas.Bool.{cond-false}
use Rattle.std.proofs.lemmas.Map.{NonePasses, lookup-none, none_passes_from_lookup}
use Rattle.std.specs.BTreeMap.{insert_entry, is_at}
use Rattle.std.specs.Cmp.{IsTotalOrder, eq_by_cmp_equiv}
use Rattle.std.specs.List.{AllByRecursion}
use Rattle.std.specs.List.Sorted.{IsStrictlySortedBy}
use Rattle.std.specs.Map.{keys_of, lookup, remove_entry, set_value}
use Rattle.std.specs.Ordering.{match_ordering, ordering_reverse}

weaker : {K : Type 0} (P Q : K → Type 0) → ((y : K) → P y → Q y) → (ks : List K) → AllByRecursion P ks → AllByRecursion Q ks
weaker P Q f [] a = tt
weaker P Q f (k ∷ ks) a = (f k a.0, weaker P Q f ks a.1)

module _ {K X : Type 0} {R : K → K → Ordering} (o : IsTotalOrder R) where
  each_insert : (P : K → Type 0) (es : List (K × X)) (k : K) (v : X) → AllByRecursion P (keys_of es) → P k → AllByRecursion P (keys_of (insert_entry R es k v))
  each_insert P [] k v a p = (p, tt)
  each_insert P (e ∷ es) k v a p = by (R k e.0) (each_insert P es k v a.1 p)
    where
      by : (r : Ordering) → AllByRecursion P (keys_of (insert_entry R es k v)) → AllByRecursion P (keys_of (match_ordering r ((k, v) ∷ e ∷ es) ((e.0, v) ∷ es) (e ∷ insert_entry R es k v)))
      by Less h = (p, a)
      by Equal h = a
      by Greater h = (a.0, h)

  pub insert_sorted : (es : List (K × X)) (k : K) (v : X) → IsStrictlySortedBy R (keys_of es) → IsStrictlySortedBy R (keys_of (insert_entry R es k v))
  unfolding IsStrictlySortedBy
  insert_sorted [] k v s = (tt, tt)
  insert_sorted (e ∷ es) k v s = by (R k e.0) refl (insert_sorted es k v s.1)
    where
      by : (r : Ordering) → R k e.0 ≡ r → IsStrictlySortedBy R (keys_of (insert_entry R es k v)) → IsStrictlySortedBy R (keys_of (match_ordering r ((k, v) ∷ e ∷ es) ((e.0, v) ∷ es) (e ∷ insert_entry R es k v)))
      by Less p h = ((p, weaker (λ y. R e.0 y ≡ Less) (λ y. R k y ≡ Less) (λ y l. o.trans k e.0 y p l) (keys_of es) s.0), s)
      by Equal p h = s
      by Greater p h = (each_insert (λ y. R e.0 y ≡ Less) es k v s.0 (o.antisymm e.0 k ∙ ap ordering_reverse p), h)

  -- the others stay where they are
  pub insert_apart : (q k : K) (v : X) (es : List (K × X)) → is_eq (R q k) ≡ false → lookup (is_at (R q)) (insert_entry R es k v) ≡ lookup (is_at (R q)) es
  insert_apart q k v [] n = cond-false _ _ _ n
  insert_apart q k v (e ∷ es) n = by (R k e.0) refl (insert_apart q k v es n)
    where
      by : (r : Ordering) → R k e.0 ≡ r → lookup (is_at (R q)) (insert_entry R es k v) ≡ lookup (is_at (R q)) es
          → lookup (is_at (R q)) (match_ordering r ((k, v) ∷ e ∷ es) ((e.0, v) ∷ es) (e ∷ insert_entry R es k v)) ≡ lookup (is_at (R q)) (e ∷ es)
      by Less p h = cond-false _ _ _ n
      by Equal p h =
          let same = eq_by_cmp_equiv o in
          let apart : is_eq (R q e.0) ≡ false = same.symm q e.0 ∙ sym (same.congr k e.0 q (ap is_eq p)) ∙ same.symm k q ∙ n in
          cond-false _ _ _ apart ∙ sym (cond-false _ _ _ apart)
      by Greater p h = ap (cond (is_eq (R q e.0)) (Some e.1)) h

  pub insert_length : (es : List (K × X)) (k : K) (v : X) → lookup (is_at (R k)) es ≡ None → length (insert_entry R es k v) ≡ suc (length es)
  insert_length [] k v n = refl
  insert_length (e ∷ es) k v n = by (R k e.0) n (insert_length es k v)
    where
      by : (r : Ordering) → cond (is_eq r) (Some e.1) (lookup (is_at (R k)) es) ≡ None → (lookup (is_at (R k)) es ≡ None → length (insert_entry R es k v) ≡ suc (length es))
          → length (match_ordering r ((k, v) ∷ e ∷ es) ((e.0, v) ∷ es) (e ∷ insert_entry R es k v)) ≡ suc (length (e ∷ es))
      by Less m h = refl
      by Equal m h = absurd cc
      by Greater m h = ap suc (h m)

module _ {K X : Type 0} (test : K → Bool) where
  each_remove : (P : K → Type 0) (es : List (K × X)) → AllByRecursion P (keys_of es) → AllByRecursion P (keys_of (remove_entry test es))
  each_remove P [] a = a
  each_remove P (e ∷ es) a = by (test e.0) (each_remove P es a.1)
    where
      by : (b : Bool) → AllByRecursion P (keys_of (remove_entry test es)) → AllByRecursion P (keys_of (cond b es (e ∷ remove_entry test es)))
      by true h = a.1
      by false h = (a.0, h)

  pub remove_sorted : (R : K → K → Ordering) (es : List (K × X)) → IsStrictlySortedBy R (keys_of es) → IsStrictlySortedBy R (keys_of (remove_entry test es))
  unfolding IsStrictlySortedBy
  remove_sorted R [] s = s
  remove_sorted R (e ∷ es) s = by (test e.0) (remove_sorted R es s.1)
    where
      by : (b : Bool) → IsStrictlySortedBy R (keys_of (remove_entry test es)) → IsStrictlySortedBy R (keys_of (cond b es (e ∷ remove_entry test es)))
      by true h = s.1
      by false h = (each_remove (λ y. R e.0 y ≡ Less) es s.0, h)

  pub remove_length : (es : List (K × X)) → length (remove_entry test es) ≤ length es
  remove_length [] = omega arith
  remove_length (e ∷ es) = by (test e.0) (remove_length es)
    where
      by : (b : Bool) → length (remove_entry test es) ≤ length es → length (cond b es (e ∷ remove_entry test es)) ≤ suc (length es)
      by true h = omega arith
      by false h = omega arith

  set_passes : (q : K → Bool) (es : List (K × X)) (w : X) → NonePasses q es → NonePasses q (set_value test es w)
  set_passes q [] w a = a
  set_passes q (e ∷ es) w a = by (test e.0) (set_passes q es w a.1)
    where
      by : (b : Bool) → NonePasses q (set_value test es w) → NonePasses q (cond b ((e.0, w) ∷ es) (e ∷ set_value test es w))
      by true h = a
      by false h = (a.0, h)

  -- what isn't there isn't there once a value is set
  pub none_set : (q : K → Bool) (es : List (K × X)) (w : X) → lookup q es ≡ None → lookup q (set_value test es w) ≡ None
  none_set q es w n = lookup-none q (set_value test es w) (set_passes q es w (none_passes_from_lookup q es n))
