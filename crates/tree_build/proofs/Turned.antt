-- Stacks from the top on.
use Rattle.std.specs.Prelude.{◌≡◌, ℕ, ◌-◌, ◌<◌, ◌≤◌, length, reverse, slice_get, List, [], ◌∷◌, Option, Some, None}
use Rattle.tree_build.specs.Loads.{top}
use Rattle.std.proofs.Common.{refl, ◌∙◌, sym, ap, subst, arith, get_or}
use Rattle.std.proofs.lemmas.List.{get_or-reverse, length-reverse}
use Rattle.std.proofs.lemmas.Option.{slice_get-get_or, slice_get_past}

at_place : {A : Type 0} (xs : List A) (k : ℕ) → k < length xs → slice_get xs (length xs - 1 - k) ≡ slice_get (reverse xs) k
at_place [] k h = absurd (omega (arith, h))
at_place (x ∷ xs) k h =
    let there : k < length (reverse (x ∷ xs)) = omega (arith, length-reverse (x ∷ xs), h) in
    let here : length (x ∷ xs) - 1 - k < length (x ∷ xs) = omega (arith, h) in
    slice_get-get_or (x ∷ xs) (length (x ∷ xs) - 1 - k) x here ∙ ap Some (sym (get_or-reverse (x ∷ xs) k x h)) ∙ sym (slice_get-get_or (reverse (x ∷ xs)) k x there)

pub turned_at : {A : Type 0} (xs : List A) (k count : ℕ) (r : Option A) → count ≡ length xs → k < count → r ≡ slice_get xs (count - 1 - k) → r ≡ slice_get (reverse xs) k
turned_at xs k count r all h is = is ∙ ap (λ n. slice_get xs (n - 1 - k)) all ∙ at_place xs k (subst (λ n. k < n) all h)

pub nothing_at : {A : Type 0} (xs : List A) (k count : ℕ) → count ≡ length xs → count ≤ k → None ≡ slice_get (reverse xs) k
nothing_at xs k count all h = sym (slice_get_past (reverse xs) k (omega (arith, all, length-reverse xs, h)))

first_is : {A : Type 0} (otherwise : A) (ys : List A) (y : A) → Some y ≡ slice_get ys 0 → top otherwise ys ≡ y
first_is otherwise [] y h = absurd cc
first_is otherwise (x ∷ ys) y h = cc

-- the last item is the top
pub turned_top : {A : Type 0} (xs : List A) (count : ℕ) (otherwise y : A) → count ≡ length xs → 0 < count → Some y ≡ slice_get xs (count - 1) → top otherwise (reverse xs) ≡ y
turned_top xs count otherwise y all h is = first_is otherwise (reverse xs) y (turned_at xs 0 count (Some y) all h (is ∙ ap (λ n. slice_get xs n) (omega arith)))

pub turned_none : {A : Type 0} (xs : List A) (otherwise : A) → length xs ≡ 0 → top otherwise (reverse xs) ≡ otherwise
turned_none [] otherwise h = refl
turned_none (x ∷ xs) otherwise h = absurd (omega (arith, h))

pub none_turned : {A : Type 0} (xs : List A) → reverse xs ≡ [] → xs ≡ []
none_turned [] e = refl
none_turned (x ∷ xs) e =
    let none : length (reverse (x ∷ xs)) ≡ 0 = ap length e in
    absurd (omega (arith, length-reverse (x ∷ xs), none))
