-- The paths of a chain, which has more of them than there are rows only if two are the same.
use Rattle.std.proofs.Common.{◌≡◌, ℕ, zero, suc, ◌<◌, ◌≤◌, Bool, true, false, ◌||◌, List, [], ◌∷◌, length, get_or, Option, Some, None, IsSome, refl, ap, ◌∙◌, arith, ◌⊎◌, inl, inr}
use Rattle.std.specs.List.{list_any, IsDistinct, AllByRecursion}
use Rattle.std.specs.Map.{lookup}
use Rattle.std.specs.Cmp.{IsEquivalence}
use Rattle.std.proofs.lemmas.Cmp.{eq_by_cmp_equiv}
use Rattle.std.proofs.lemmas.Map.Steps.{length-le_from_keys}
use Rattle.std.proofs.lemmas.Map.Keys.{IsDistinct-cons}
use Rattle.var_types.specs.declared.path.Path.{Path}
use Rattle.var_types.specs.declared.cell.Cell.{Cell}
use Rattle.var_types.specs.Order.{path_eq}
use Rattle.var_types.specs.Totals.{path_total}
use Rattle.var_types.specs.Rows.{Rows, cell_at}
use Rattle.ksh_nameref.specs.Chains.{target_in, next, after, and_then, ComesBack}

laws : IsEquivalence path_eq
laws = eq_by_cmp_equiv path_total

and_then_some : (o : Option Path) → and_then o (λ p. Some p) ≡ o
and_then_some None = refl
and_then_some (Some p) = refl

one_more : {H : Type 0} (rows : Rows H) (n : ℕ) (q : Path) (o : Option Path) → and_then o (after rows n) ≡ Some q
    → ((r : Path) → after rows n r ≡ Some q → after rows (suc n) r ≡ next rows q) → and_then o (after rows (suc n)) ≡ next rows q
one_more rows n q None h f = absurd (nothing h)
  where
    nothing : {A : Type 0} {x : A} → None ≡ Some x → ⊥
    nothing e = cc
one_more rows n q (Some r) h f = f r h

-- one reference more
pub after_more : {H : Type 0} (rows : Rows H) (n : ℕ) (p q : Path) → after rows n p ≡ Some q → after rows (suc n) p ≡ next rows q
after_more rows zero p q h = and_then_some (next rows p) ∙ ap (next rows) (some_same h)
  where
    some_same : {x y : Path} → Some x ≡ Some y → x ≡ y
    some_same e = cc
after_more rows (suc n) p q h = one_more rows n q (next rows p) h (λ r e. after_more rows n r q e)

-- the paths from one on, so many as are asked for or there are
abbrev from_option : Option Path → (Path → List Path) → List Path
from_option None f = []
from_option (Some p) f = f p

abbrev walk : {H : Type 0} → Rows H → ℕ → Path → List Path
walk rows zero p = []
walk rows (suc n) p = p ∷ from_option (next rows p) (walk rows n)

walk_length : {H : Type 0} (rows : Rows H) (n : ℕ) (p q : Path) → after rows n p ≡ Some q → length (walk rows n p) ≡ n
walk_length rows zero p q h = refl
walk_length rows (suc n) p q h = ap suc (by_next (next rows p) h (λ r e. walk_length rows n r q e))
  where
    nothing : None ≡ Some q → ⊥
    nothing e = cc

    by_next : (o : Option Path) → and_then o (after rows n) ≡ Some q → ((r : Path) → after rows n r ≡ Some q → length (walk rows n r) ≡ n) → length (from_option o (walk rows n)) ≡ n
    by_next None e f = absurd (nothing e)
    by_next (Some r) e f = f r e

walk_at : {H : Type 0} (rows : Rows H) (n : ℕ) (p : Path) (i : ℕ) (d : Path) → i < length (walk rows n p) → after rows i p ≡ Some (get_or (walk rows n p) i d)
walk_at rows zero p i d l = absurd (omega (arith, l))
walk_at rows (suc n) p zero d l = refl
walk_at rows (suc n) p (suc i) d l = by_next (next rows p) (omega (arith, l)) (λ r m. walk_at rows n r i d m)
  where
    by_next : (o : Option Path) → i < length (from_option o (walk rows n)) → ((r : Path) → i < length (walk rows n r) → after rows i r ≡ Some (get_or (walk rows n r) i d))
        → and_then o (after rows i) ≡ Some (get_or (from_option o (walk rows n)) i d)
    by_next None m f = absurd (omega (arith, m))
    by_next (Some r) m f = f r m

-- a path that points on has a row
has_row : {H : Type 0} (o : Option (Cell H)) (r : Path) → target_in o ≡ Some r → IsSome o
has_row None r h = absurd (nothing h)
  where
    nothing : None ≡ Some r → ⊥
    nothing e = cc
has_row (Some c) r h = refl

found_same : {H : Type 0} (rows : Rows H) (x p : Path) → path_eq x p ≡ true → IsSome (cell_at p rows) → IsSome (lookup (path_eq x) rows)
found_same rows x p e h =
    let same : lookup (path_eq x) rows ≡ lookup (path_eq p) rows = ap (λ (f : Path → Bool). lookup f rows) (λ i y. laws.congr x p y e i) in
    rw same h

each_has_row : {H : Type 0} (rows : Rows H) (n : ℕ) (p q : Path) → after rows n p ≡ Some q → (x : Path) → list_any (path_eq x) (walk rows n p) ≡ true → IsSome (lookup (path_eq x) rows)
each_has_row rows zero p q h x e = absurd (no e)
  where
    no : false ≡ true → ⊥
    no f = cc
each_has_row rows (suc n) p q h x e = by_next (next rows p) refl h e (λ r a b. each_has_row rows n r q a x b)
  where
    nothing : None ≡ Some q → ⊥
    nothing f = cc

    by_next : (o : Option Path) → next rows p ≡ o → and_then o (after rows n) ≡ Some q → (path_eq x p || list_any (path_eq x) (from_option o (walk rows n))) ≡ true
        → ((r : Path) → after rows n r ≡ Some q → list_any (path_eq x) (walk rows n r) ≡ true → IsSome (lookup (path_eq x) rows)) → IsSome (lookup (path_eq x) rows)
    by_next None is a b f = absurd (nothing a)
    by_next (Some r) is a b f = by_first (path_eq x p) refl b
      where
        by_first : (t : Bool) → path_eq x p ≡ t → (t || list_any (path_eq x) (walk rows n r)) ≡ true → IsSome (lookup (path_eq x) rows)
        by_first true s c = found_same rows x p s (has_row (cell_at p rows) r is)
        by_first false s c = f r a c

-- two places of a list that hold the same path
record Double (xs : List Path) : Type 0 where
  pub once : ℕ
  pub again : ℕ
  pub rises : once < again
  pub within : again < length xs
  pub same : (d : Path) → path_eq (get_or xs once d) (get_or xs again d) ≡ true

place : (p : Path → Bool) (xs : List Path) → list_any p xs ≡ true → (k : ℕ) × (k < length xs) × ((d : Path) → p (get_or xs k d) ≡ true)
place p [] e = absurd (no e)
  where
    no : false ≡ true → ⊥
    no f = cc
place p (x ∷ xs) e = by_first (p x) refl e (place p xs)
  where
    by_first : (t : Bool) → p x ≡ t → (t || list_any p xs) ≡ true → (list_any p xs ≡ true → (k : ℕ) × (k < length xs) × ((d : Path) → p (get_or xs k d) ≡ true))
        → (k : ℕ) × (k < length (x ∷ xs)) × ((d : Path) → p (get_or (x ∷ xs) k d) ≡ true)
    by_first true s c f = (0, omega arith, λ d. s)
    by_first false s c f = let found = f c in (suc found.0, omega (arith, found.1), found.2)

none_same : (p : Path → Bool) (xs : List Path) → list_any p xs ≡ false → AllByRecursion (λ y. p y ≡ false) xs
none_same p [] e = tt
none_same p (x ∷ xs) e = (first_false (p x) (list_any p xs) e, none_same p xs (rest_false (p x) (list_any p xs) e))
  where
    first_false : (a b : Bool) → (a || b) ≡ false → a ≡ false
    first_false a b h = grind arith

    rest_false : (a b : Bool) → (a || b) ≡ false → b ≡ false
    rest_false a b h = grind arith

double_later : (x : Path) (xs : List Path) → Double xs → Double (x ∷ xs)
double_later x xs d = record { once = suc d.once; again = suc d.again; rises = omega (arith, d.rises); within = omega (arith, d.within); same = d.same }

none_distinct : IsDistinct path_eq []
unfolding IsDistinct
none_distinct = tt

distinct_or_double : (xs : List Path) → IsDistinct path_eq xs ⊎ Double xs
distinct_or_double [] = inl none_distinct
distinct_or_double (x ∷ xs) = by_first (list_any (path_eq x) xs) refl (distinct_or_double xs)
  where
    by_first : (t : Bool) → list_any (path_eq x) xs ≡ t → (IsDistinct path_eq xs ⊎ Double xs) → (IsDistinct path_eq (x ∷ xs) ⊎ Double (x ∷ xs))
    by_first true s r = let found = place (path_eq x) xs s in inr (record { once = 0; again = suc found.0; rises = omega arith; within = omega (arith, found.1); same = found.2 })
    by_first false s (inl d) = inl (IsDistinct-cons path_eq x xs (none_same (path_eq x) xs s) d)
    by_first false s (inr d) = inr (double_later x xs d)

-- a chain with more references than there are rows comes back
pub comes_back : {H : Type 0} (rows : Rows H) (p q : Path) → after rows (suc (length rows)) p ≡ Some q → ComesBack rows p
comes_back rows p q h = by_double (distinct_or_double (walk rows (suc (length rows)) p))
  where
    long : length (walk rows (suc (length rows)) p) ≡ suc (length rows)
    long = walk_length rows (suc (length rows)) p q h

    by_double : IsDistinct path_eq (walk rows (suc (length rows)) p) ⊎ Double (walk rows (suc (length rows)) p) → ComesBack rows p
    by_double (inl d) =
        let few : length (walk rows (suc (length rows)) p) ≤ length rows = length-le_from_keys laws (walk rows (suc (length rows)) p) rows d (each_has_row rows (suc (length rows)) p q h) in
        absurd (omega (arith, few, long))
    by_double (inr d) = record {
      once = d.once;
      again = d.again;
      rises = d.rises;
      first = get_or (walk rows (suc (length rows)) p) d.once p;
      second = get_or (walk rows (suc (length rows)) p) d.again p;
      reached = walk_at rows (suc (length rows)) p d.once p (omega (arith, d.rises, d.within));
      reached_again = walk_at rows (suc (length rows)) p d.again p d.within;
      same = d.same p;
    }
