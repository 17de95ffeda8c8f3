-- Entries whose keys rise: where a key stands among them, and what changes there.
use Rattle.std.proofs.Common.{◌≡◌, ℕ, suc, zero, ◌<◌, ◌≤◌, ◌-◌, ◌+◌, ◌⊎◌, inl, inr, List, [], ◌∷◌, Option, Some, None, length, slice_get, slice_set, get_or, false, Bool, refl, sym, ap, ◌∙◌, arith, rules}
use Rattle.std.specs.declared.cmp.Ordering.{Ordering}
use Rattle.std.specs.declared.cmp.Ordering.TheVariants.{Less, Equal, Greater}
use Rattle.std.specs.Ordering.{ordering_reverse}
use Rattle.std.specs.Cmp.{IsTotalOrder}
use Rattle.std.specs.Ordering.{is_eq, match_ordering}
use Rattle.std.specs.Option.{option_map}
use Rattle.std.specs.BTreeMap.{is_at, insert_entry}
use Rattle.std.specs.List.{insert, filter, AllByRecursion}
use Rattle.std.proofs.lemmas.Bool.{cases_Bool}
use Rattle.std.proofs.lemmas.List.Kept.{IsStrictlySortedBy-filter}
use Rattle.std.specs.Map.{keys_of, lookup}
use Rattle.std.specs.List.Sorted.{IsStrictlySortedBy}
use Rattle.std.proofs.lemmas.Map.Keys.{Less-from_sorted}
use Rattle.std.proofs.lemmas.Map.Entries.{length-keys_of, lookup_head, lookup_tail}
use Rattle.std.proofs.lemmas.Option.{get_or_from_slice_get, slice_get_within}
use Rattle.std.proofs.lemmas.Cmp.{alike_right}

key_at : {K X : Type 0} (es : List (K × X)) (i : ℕ) (e : K × X) → slice_get es i ≡ Some e → slice_get (keys_of es) i ≡ Some e.0
key_at [] i e h = cc
key_at {K} {X} (x ∷ es) zero e h = let same : x ≡ e = cc in ap (λ (y : K × X). Some y.0) same
key_at (x ∷ es) (suc i) e h = key_at es i e h

same_entry : {A : Type 0} (es : List A) (i : ℕ) (e f : A) → slice_get es i ≡ Some e → slice_get es i ≡ Some f → e ≡ f
same_entry es i e f g h = let same : Some e ≡ Some f = sym g ∙ h in cc

by_order : (i j : ℕ) → (i < j) ⊎ ((i ≡ j) ⊎ (j < i))
by_order zero zero = inr (inl refl)
by_order zero (suc j) = inl (omega arith)
by_order (suc i) zero = inr (inr (omega arith))
by_order (suc i) (suc j) = elim (by_order i j)
    [ inl l ↦ inl (omega arith) | inr r ↦ elim r [ inl e ↦ inr (inl (ap suc e)) | inr l ↦ inr (inr (omega arith)) ] ]

module _ {K X : Type 0} {R : K → K → Ordering} (o : IsTotalOrder R) (k : K) (es : List (K × X)) (s : IsStrictlySortedBy R (keys_of es)) where
  rising : (i j : ℕ) (e f : K × X) → i < j → slice_get es i ≡ Some e → slice_get es j ≡ Some f → R e.0 f.0 ≡ Less
  rising i j e f l g h =
      let within : j < length (keys_of es) = rw (length-keys_of es) (slice_get_within es j f h) in
      let less = Less-from_sorted R (keys_of es) i j e.0 s l within in
      let p : get_or (keys_of es) i e.0 ≡ e.0 = get_or_from_slice_get (keys_of es) i e.0 e.0 (key_at es i e g) in
      let q : get_or (keys_of es) j e.0 ≡ f.0 = get_or_from_slice_get (keys_of es) j f.0 e.0 (key_at es j f h) in
      rw (p, q) at less

  -- the entries below one that is not behind k are before k
  pub before_one : (i : ℕ) (e : K × X) → slice_get es i ≡ Some e → (R e.0 k ≡ Less) ⊎ (R e.0 k ≡ Equal) → (j : ℕ) (f : K × X) → j < i → slice_get es j ≡ Some f → R k f.0 ≡ Greater
  before_one i e at c j f l h =
      let up = rising j i f e l h at in
      let less : R f.0 k ≡ Less = elim c [ inl b ↦ o.trans f.0 e.0 k up b | inr t ↦ sym (alike_right o e.0 k f.0 t) ∙ up ] in
      o.antisymm k f.0 ∙ ap ordering_reverse less

  -- those up to one that is before k are
  pub before_more : (i : ℕ) (e : K × X) → slice_get es i ≡ Some e → R e.0 k ≡ Less → (j : ℕ) (f : K × X) → j < i + 1 → slice_get es j ≡ Some f → R k f.0 ≡ Greater
  before_more i e at b j f l h = elim (by_order j i) [
    | inl m ↦ before_one i e at (inl b) j f m h
    | inr r ↦ elim r [
      | inl n ↦ (let same : e ≡ f = same_entry es i e f at (rw (sym n) h) in rw (sym same) (o.antisymm k e.0 ∙ ap ordering_reverse b))
      | inr m ↦ absurd (omega arith)
    ]
  ]

  -- those from one that is behind k on are
  pub behind_more : (i : ℕ) (e : K × X) → slice_get es i ≡ Some e → R e.0 k ≡ Greater → (j : ℕ) (f : K × X) → i ≤ j → slice_get es j ≡ Some f → R k f.0 ≡ Less
  behind_more i e at b j f l h =
      let after : R k e.0 ≡ Less = o.antisymm k e.0 ∙ ap ordering_reverse b in
      elim (by_order i j) [
        | inl m ↦ o.trans k e.0 f.0 after (rising i j e f m at h)
        | inr r ↦ elim r [
          | inl n ↦ (let same : e ≡ f = same_entry es i e f at (rw n h) in rw (sym same) after)
          | inr m ↦ absurd (omega arith)
        ]
      ]

  pub there_one : (i : ℕ) (e : K × X) (r : Ordering) → slice_get es i ≡ Some e → R e.0 k ≡ r → (f : K × X) → slice_get es i ≡ Some f → R k f.0 ≡ ordering_reverse r
  there_one i e r at b f h = let same : e ≡ f = same_entry es i e f at h in rw (sym same) (o.antisymm k e.0 ∙ ap ordering_reverse b)

-- ---- what stands at a place, and what is put there
module _ {K X : Type 0} (cmp : K → K → Ordering) (k : K) where
  -- the first entries are before k
  abbrev pub Before : List (K × X) → ℕ → Type 0
  Before es i = (j : ℕ) (f : K × X) → j < i → slice_get es j ≡ Some f → cmp k f.0 ≡ Greater

  abbrev pub There : List (K × X) → ℕ → Ordering → Type 0
  There es i r = (f : K × X) → slice_get es i ≡ Some f → cmp k f.0 ≡ r

  first_before : (e : K × X) (es : List (K × X)) (i : ℕ) → Before (e ∷ es) (suc i) → cmp k e.0 ≡ Greater
  first_before e es i b = b zero e (omega arith) refl

  rest_before : (e : K × X) (es : List (K × X)) (i : ℕ) → Before (e ∷ es) (suc i) → Before es i
  rest_before e es i b j f l h = b (suc j) f (omega arith) h

  missed : (e : K × X) (es : List (K × X)) (r : Ordering) → cmp k e.0 ≡ r → is_eq r ≡ false → lookup (is_at (cmp k)) (e ∷ es) ≡ lookup (is_at (cmp k)) es
  missed e es r h n = lookup_tail (is_at (cmp k)) e es (ap is_eq h ∙ n)

  pub found_there : (es : List (K × X)) (i : ℕ) → i < length es → Before es i → There es i Equal → lookup (is_at (cmp k)) es ≡ option_map (λ e. e.1) (slice_get es i)
  found_there [] i l b t = absurd (omega arith)
  found_there (e ∷ es) zero l b t = lookup_head (is_at (cmp k)) e es (ap is_eq (t e refl))
  found_there (e ∷ es) (suc i) l b t = missed e es Greater (first_before e es i b) refl ∙ found_there es i (omega arith) (rest_before e es i b) t

  put_step : (v : X) (e : K × X) (es : List (K × X)) (r : Ordering) → cmp k e.0 ≡ r → insert_entry cmp (e ∷ es) k v ≡ match_ordering r ((k, v) ∷ e ∷ es) ((e.0, v) ∷ es) (e ∷ insert_entry cmp es k v)
  put_step v e es r h = ap (λ o. match_ordering o ((k, v) ∷ e ∷ es) ((e.0, v) ∷ es) (e ∷ insert_entry cmp es k v)) h

  pub put_there : (v : X) (es : List (K × X)) (i : ℕ) (e : K × X) → slice_get es i ≡ Some e → Before es i → There es i Equal → insert_entry cmp es k v ≡ slice_set es i (e.0, v)
  put_there v [] i e l b t = cc
  put_there v (x ∷ es) zero e l b t = let same : x ≡ e = cc in rw (sym same) (put_step v x es Equal (t x refl))
  put_there v (x ∷ es) (suc i) e l b t = put_step v x es Greater (first_before x es i b) ∙ ap (λ xs. x ∷ xs) (put_there v es i e l (rest_before x es i b) t)

  pub put_between : (v : X) (es : List (K × X)) (i : ℕ) → i ≤ length es → Before es i → There es i Less → insert_entry cmp es k v ≡ insert es i (k, v)
  put_between v [] zero l b t = refl
  put_between v [] (suc i) l b t = absurd (omega arith)
  put_between v (e ∷ es) zero l b t = put_step v e es Less (t e refl)
  put_between v (e ∷ es) (suc i) l b t = put_step v e es Greater (first_before e es i b) ∙ ap (λ xs. e ∷ xs) (put_between v es i (omega arith) (rest_before e es i b) t)

-- ---- keys that rise go on rising
all_weaker : {K : Type 0} {P Q : K → Type 0} → ((x : K) → P x → Q x) → (xs : List K) → AllByRecursion P xs → AllByRecursion Q xs
all_weaker f [] a = tt
all_weaker f (x ∷ xs) a = (f x a.0, all_weaker f xs a.1)

pub keys_set : {K X : Type 0} (v : X) (es : List (K × X)) (i : ℕ) (e : K × X) → slice_get es i ≡ Some e → keys_of (slice_set es i (e.0, v)) ≡ keys_of es
keys_set v [] i e h = cc
keys_set {K} {X} v (x ∷ es) zero e h = let same : x ≡ e = cc in ap (λ (y : K × X). y.0 ∷ keys_of es) (sym same)
keys_set v (x ∷ es) (suc i) e h = ap (λ ks. x.0 ∷ ks) (keys_set v es i e h)

keys_filter : {K X : Type 0} (p : K → Bool) (es : List (K × X)) → keys_of (filter (λ e. p e.0) es) ≡ filter p (keys_of es)
keys_filter p [] = refl
keys_filter p (e ∷ es) = elim (cases_Bool (p e.0)) [ inl h ↦ rw h (ap (λ ks. e.0 ∷ ks) (keys_filter p es)) | inr h ↦ rw h (keys_filter p es) ]

pub rising_filter : {K X : Type 0} (R : K → K → Ordering) (p : K → Bool) (es : List (K × X)) → IsStrictlySortedBy R (keys_of es) → IsStrictlySortedBy R (keys_of (filter (λ e. p e.0) es))
rising_filter R p es s = rw (keys_filter p es) (IsStrictlySortedBy-filter R p (keys_of es) s)

all_put_by : {K X : Type 0} (P : K → Type 0) (k : K) (v : X) (e : K × X) (es more : List (K × X)) → P k → AllByRecursion P (keys_of (e ∷ es)) → AllByRecursion P (keys_of more) → (r : Ordering) → AllByRecursion P (keys_of (match_ordering r ((k, v) ∷ e ∷ es) ((e.0, v) ∷ es) (e ∷ more)))
all_put_by P k v e es more p a b Less = (p, a)
all_put_by P k v e es more p a b Equal = a
all_put_by P k v e es more p a b Greater = (a.0, b)

all_put : {K X : Type 0} (R : K → K → Ordering) (P : K → Type 0) (k : K) (v : X) (es : List (K × X)) → P k → AllByRecursion P (keys_of es) → AllByRecursion P (keys_of (insert_entry R es k v))
all_put R P k v [] p a = (p, a)
all_put R P k v (e ∷ es) p a = all_put_by P k v e es (insert_entry R es k v) p a (all_put R P k v es p a.1) (R k e.0)

rising_put_by : {K X : Type 0} {R : K → K → Ordering} (o : IsTotalOrder R) (k : K) (v : X) (e : K × X) (es : List (K × X)) → IsStrictlySortedBy R (keys_of (e ∷ es)) → IsStrictlySortedBy R (keys_of (insert_entry R es k v)) → (r : Ordering) → R k e.0 ≡ r → IsStrictlySortedBy R (keys_of (match_ordering r ((k, v) ∷ e ∷ es) ((e.0, v) ∷ es) (e ∷ insert_entry R es k v)))
unfolding IsStrictlySortedBy
rising_put_by o k v e es s more Less h = ((h, all_weaker (λ y g. o.trans k e.0 y h g) (keys_of es) s.0), s)
rising_put_by o k v e es s more Equal h = s
rising_put_by {R = R} o k v e es s more Greater h =
    let below : R e.0 k ≡ Less = o.antisymm e.0 k ∙ ap ordering_reverse h in
    (all_put R (λ y. R e.0 y ≡ Less) k v es below s.0, more)

-- entries that rise do so with one more
pub rising_put : {K X : Type 0} {R : K → K → Ordering} (o : IsTotalOrder R) (k : K) (v : X) (es : List (K × X)) → IsStrictlySortedBy R (keys_of es) → IsStrictlySortedBy R (keys_of (insert_entry R es k v))
unfolding IsStrictlySortedBy
rising_put o k v [] s = (tt, tt)
rising_put {R = R} o k v (e ∷ es) s = rising_put_by o k v e es s (rising_put o k v es s.1) (R k e.0) refl
