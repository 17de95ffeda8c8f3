-- Lists that are collected from the front.
use Rattle.std.specs.Prelude.{◌≡◌, List, [], ◌∷◌, ◌++◌, Option, Some, None}
use Rattle.std.proofs.Common.{refl, sym, ◌∙◌, ap, append_assoc, append-nil}
use Rattle.ksh_lower.specs.Simple.{collected, with_front}

-- these stand before what the rest gives
abbrev pub before : {B : Type 0} → List B → Option (List B) → Option (List B)
before done None = None
before done (Some ys) = Some (done ++ ys)

before_front : {B : Type 0} (done : List B) (y : B) (o : Option (List B)) → before done (with_front (Some y) o) ≡ before (done ++ y ∷ []) o
before_front done y None = refl
before_front done y (Some ys) = ap Some (sym (append_assoc done (y ∷ []) ys))

pub one_more : {A B : Type 0} (f : A → Option B) (all xs rest : List A) (x : A) (y : B) (done : List B) → f x ≡ Some y → xs ≡ x ∷ rest → collected f all ≡ before done (collected f xs)
    → collected f all ≡ before (done ++ y ∷ []) (collected f rest)
one_more f all xs rest x y done gives front so =
    so ∙ ap (λ zs. before done (collected f zs)) front ∙ ap (λ o. before done (with_front o (collected f rest))) gives ∙ before_front done y (collected f rest)

pub none_more : {A B : Type 0} (f : A → Option B) (all xs rest : List A) (x : A) (done : List B) → f x ≡ None → xs ≡ x ∷ rest → collected f all ≡ before done (collected f xs) → collected f all ≡ None
none_more f all xs rest x done gives front so = so ∙ ap (λ zs. before done (collected f zs)) front ∙ ap (λ o. before done (with_front o (collected f rest))) gives

pub all_found : {A B : Type 0} (f : A → Option B) (all xs : List A) (done : List B) → xs ≡ [] → collected f all ≡ before done (collected f xs) → collected f all ≡ Some done
all_found f all xs done over so = so ∙ ap (λ zs. before done (collected f zs)) over ∙ ap Some (append-nil done)
