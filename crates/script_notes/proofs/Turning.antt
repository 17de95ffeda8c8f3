-- Lists whose last item is seen first.
use Rattle.std.specs.Prelude.{◌≡◌, List, [], ◌∷◌, ◌++◌, reverse, Option, Some, None, MatchOption}
use Rattle.std.proofs.Common.{sym, ◌∙◌, ap}
use Rattle.std.proofs.lemmas.List.{reverse-append, reverse-reverse}

pub last_first : {A : Type 0} (front : List A) (last : A) → reverse (front ++ last ∷ []) ≡ last ∷ reverse front
last_first front last = reverse-append front (last ∷ [])

pub taken : {A : Type 0} (r : Option A) (old new : List A) → MatchOption r ((old ≡ []) × (new ≡ [])) (λ last. old ≡ new ++ last ∷ [])
    → MatchOption r ((reverse old ≡ []) × (reverse new ≡ [])) (λ first. reverse old ≡ first ∷ reverse new)
taken (Some x) old new h = ap reverse h ∙ last_first new x
taken None old new h = (ap reverse h.0, ap reverse h.1)

pub turned_empty : {A : Type 0} (items : List A) → reverse items ≡ [] → items ≡ []
turned_empty items h = sym (reverse-reverse items) ∙ ap reverse h
