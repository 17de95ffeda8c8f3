-- What stands between dots.
use Rattle.std.specs.Prelude.{◌≡◌, ℕ, ◌==◌, true, false, List, [], ◌∷◌, ◌++◌, if◌then◌else◌}
use Rattle.std.proofs.Common.{refl, sym, ◌∙◌, ap, append-nil}
use Rattle.tree_parts.specs.Parts.{between_dots, to_first}

-- bytes without a dot before the first name
abbrev pub to_front : List ℕ → List (List ℕ) → List (List ℕ)
to_front [] names = names
to_front (b ∷ bs) names = to_first b (to_front bs names)

parted : (xs name : List ℕ) (names : List (List ℕ)) → to_front xs (name ∷ names) ≡ (xs ++ name) ∷ names
parted [] name names = refl
parted (x ∷ xs) name names = ap (to_first x) (parted xs name names)

longer : (xs : List ℕ) (b : ℕ) (names : List (List ℕ)) → to_front (xs ++ b ∷ []) names ≡ to_front xs (to_first b names)
longer [] b names = refl
longer (x ∷ xs) b names = ap (to_first x) (longer xs b names)

-- a byte that is no dot
pub one_more : (bytes front rest left : List ℕ) (b : ℕ) → left ≡ b ∷ rest → (b == 46) ≡ false → between_dots bytes ≡ to_front front (between_dots left)
    → between_dots bytes ≡ to_front (front ++ b ∷ []) (between_dots rest)
one_more bytes front rest left b l n h =
    let on : between_dots left ≡ to_first b (between_dots rest) = ap between_dots l ∙ ap (λ dot. if dot then [] ∷ between_dots rest else to_first b (between_dots rest)) n in
    h ∙ ap (to_front front) on ∙ sym (longer front b (between_dots rest))

-- a dot
pub at_dot : (bytes front rest left : List ℕ) (b : ℕ) → left ≡ b ∷ rest → (b == 46) ≡ true → between_dots bytes ≡ to_front front (between_dots left)
    → between_dots bytes ≡ front ∷ between_dots rest
at_dot bytes front rest left b l n h =
    let on : between_dots left ≡ [] ∷ between_dots rest = ap between_dots l ∙ ap (λ dot. if dot then [] ∷ between_dots rest else to_first b (between_dots rest)) n in
    h ∙ ap (to_front front) on ∙ parted front [] (between_dots rest) ∙ ap (λ f. f ∷ between_dots rest) (append-nil front)

-- the end
pub no_dot : (bytes front left : List ℕ) → left ≡ [] → between_dots bytes ≡ to_front front (between_dots left) → between_dots bytes ≡ front ∷ []
no_dot bytes front left l h = h ∙ ap (λ bs. to_front front (between_dots bs)) l ∙ parted front [] [] ∙ ap (λ f. f ∷ []) (append-nil front)
