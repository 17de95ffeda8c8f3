-- Words that are read one after another.
use Rattle.std.proofs.Common.{◌≡◌, ℕ, zero, suc, ◌+◌, ◌≤◌, List, [], ◌∷◌, ◌++◌, Option, Some, None, inl, inr, length, take, refl, sym, ◌∙◌, ap, arith}
use Rattle.std.proofs.lemmas.List.{take_more}
use Rattle.std.proofs.lemmas.Option.{slice_get_within, slice_get_cases, get_or_from_slice_get}
use Rattle.std.specs.Prelude.{slice_get}
use Rattle.os_world.specs.Words.{IfTold}

take_all : (p : ℕ) (ws : List (List ℕ)) → length ws ≤ p → take p ws ≡ ws
take_all zero [] h = refl
take_all (suc p) [] h = refl
take_all zero (w ∷ ws) h = absurd (omega arith)
take_all (suc p) (w ∷ ws) h = ap (λ (z : List (List ℕ)). w ∷ z) (take_all p ws (omega arith))

-- one word more
pub word_more : (told : Option (List (List ℕ))) (p : ℕ) (words : List (List ℕ)) (word : List ℕ) → IfTold told (λ ws. words ≡ take p ws) → IfTold told (λ ws. Some word ≡ slice_get ws p)
    → IfTold told (λ ws. words ++ word ∷ [] ≡ take (p + 1) ws)
word_more None p words word h w = tt
word_more (Some ws) p words word h w =
    let l = slice_get_within ws p word (sym w) in
    let e = get_or_from_slice_get ws p word [] (sym w) in
    sym (take_more ws p [] l ∙ (rw (e, h) refl))

-- the words have ended
pub words_end : (told : Option (List (List ℕ))) (p : ℕ) (words : List (List ℕ)) → IfTold told (λ ws. words ≡ take p ws) → IfTold told (λ ws. None ≡ slice_get ws p)
    → IfTold told (λ ws. words ≡ ws)
words_end None p words h w = tt
words_end (Some ws) p words h w =
    elim (slice_get_cases ws p).1 [
      | inl a ↦ absurd (let e = a.2 in cc)
      | inr b ↦ h ∙ take_all p ws b.0
    ]
