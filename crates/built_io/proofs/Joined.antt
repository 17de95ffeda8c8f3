-- Joining word after word.
use Rattle.std.proofs.Common.{◌≡◌, refl, sym, ap, ◌∙◌, List, [], ◌∷◌, ◌++◌, ℕ, ◌+◌, ◌<◌, suc, length, get_or, drop, append_assoc, add-one, drop-cons}
use Rattle.ksh_meaning.specs.Print.{following}

-- the words that are left, from the place i on
pub following_one : (text : List ℕ) (ws : List (List ℕ)) (i : ℕ) (w : List ℕ) → w ≡ get_or ws i w → i < length ws → ((text ++ 32 ∷ []) ++ w) ++ following (drop (i + 1) ws) ≡ text ++ following (drop i ws)
following_one text ws i w e lt =
    let f : drop i ws ≡ w ∷ drop (i + 1) ws = rw (add-one, drop-cons ws i w) (ap (λ v. v ∷ drop (suc i) ws) (sym e)) in
    append_assoc (text ++ 32 ∷ []) w (following (drop (i + 1) ws)) ∙ append_assoc text (32 ∷ []) (w ++ following (drop (i + 1) ws)) ∙ ap (λ l. text ++ following l) (sym f)
