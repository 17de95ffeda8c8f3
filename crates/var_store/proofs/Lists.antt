-- What a loop over a list has gathered.
use Rattle.std.proofs.Common.{◌≡◌, ℕ, ◌<◌, ◌+◌, List, [], ◌∷◌, ◌++◌, Option, length, take, get_or, refl, sym, ap, ◌∙◌}
use Rattle.std.specs.List.{filter_map, cons_option}
use Rattle.std.proofs.lemmas.List.{take_more}
use Rattle.std.proofs.lemmas.List.Elements.{filter_map-append}

module _ {X Y : Type 0} (h : X → Option Y) (xs : List X) (i : ℕ) (x : X) (within : i < length xs) (at : x ≡ get_or xs i x) where
  one_more : filter_map h (take (i + 1) xs) ≡ filter_map h (take i xs) ++ cons_option (h x) []
  one_more = ap (filter_map h) (take_more xs i x within ∙ ap (λ y. take i xs ++ y ∷ []) (sym at)) ∙ filter_map-append h (take i xs) (x ∷ [])

  pub gathered : (o : Option Y) (ys more : List Y) → o ≡ h x → ys ≡ filter_map h (take i xs) → more ≡ ys ++ cons_option o [] → more ≡ filter_map h (take (i + 1) xs)
  gathered o ys more is g m = m ∙ ap (λ zs. zs ++ cons_option o []) g ∙ ap (λ p. filter_map h (take i xs) ++ cons_option p []) is ∙ sym one_more
