-- Lists that are turned.
use Rattle.std.specs.Prelude.{◌≡◌, List, [], ◌∷◌, ◌++◌, reverse, Option, Some, None, MatchOption}
use Rattle.std.proofs.Common.{sym, ◌∙◌, ap, append_assoc}
use Rattle.std.proofs.lemmas.List.{reverse-append}

pub last_first : {A : Type 0} (front : List A) (last : A) → reverse (front ++ last ∷ []) ≡ last ∷ reverse front
last_first front last = reverse-append front (last ∷ [])

pub taken : {A : Type 0} (r : Option A) (old new : List A) → MatchOption r ((old ≡ []) × (new ≡ [])) (λ last. old ≡ new ++ last ∷ [])
    → MatchOption r ((reverse old ≡ []) × (reverse new ≡ [])) (λ first. reverse old ≡ first ∷ reverse new)
taken (Some x) old new h = ap reverse h ∙ last_first new x
taken None old new h = (ap reverse h.0, ap reverse h.1)

-- one more is turned
pub turned_on : {A : Type 0} (whole turned left front : List A) (last : A) → reverse whole ≡ turned ++ reverse left → left ≡ front ++ last ∷ []
    → reverse whole ≡ (turned ++ last ∷ []) ++ reverse front
turned_on whole turned left front last h e = h ∙ ap (λ xs. turned ++ xs) (ap reverse e ∙ last_first front last) ∙ sym (append_assoc turned (last ∷ []) (reverse front))
