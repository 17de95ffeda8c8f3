-- The last byte of a text, which may be a blank.
use Rattle.std.proofs.Common.{◌≡◌, ℕ, ◌+◌, ◌-◌, ◌<◌, ◌≤◌, Bool, true, false, ◌&&◌, List, [], ◌∷◌, ◌++◌, length, take, get_or, refl, ap, sym, ◌∙◌, arith, if◌then◌else◌}
use Rattle.std.proofs.lemmas.List.{take_more}
use Rattle.std.proofs.lemmas.List.Folds.{list_all-append}
use Rattle.std.specs.List.{list_all}
use Rattle.ksh_attrs.specs.Shapes.{is_blank, without_back}

and_known : (a b : Bool) → b ≡ true → (a && (b && true)) ≡ a
and_known a b h = grind arith

and_none : (a b : Bool) → b ≡ false → (a && (b && true)) ≡ false
and_none a b h = grind arith

all_more : (xs : List ℕ) (b : ℕ) → is_blank b ≡ true → list_all is_blank (xs ++ b ∷ []) ≡ list_all is_blank xs
all_more xs b h = list_all-append is_blank xs (b ∷ []) ∙ and_known (list_all is_blank xs) (is_blank b) h

not_all : (xs : List ℕ) (b : ℕ) → is_blank b ≡ false → list_all is_blank (xs ++ b ∷ []) ≡ false
not_all xs b h = list_all-append is_blank xs (b ∷ []) ∙ and_none (list_all is_blank xs) (is_blank b) h

blank_behind : (xs : List ℕ) (b : ℕ) → is_blank b ≡ true → without_back (xs ++ b ∷ []) ≡ without_back xs
blank_behind [] b h = ap (λ c. if c && true then [] else b ∷ []) h
blank_behind (x ∷ xs) b h = λ i. if is_blank x && all_more xs b h i then [] else x ∷ blank_behind xs b h i

neither : (a : Bool) (ys : List ℕ) → (if a && false then [] else ys) ≡ ys
neither true ys = refl
neither false ys = refl

kept_behind : (xs : List ℕ) (b : ℕ) → is_blank b ≡ false → without_back (xs ++ b ∷ []) ≡ xs ++ b ∷ []
kept_behind [] b h = ap (λ c. if c && true then [] else b ∷ []) h
kept_behind (x ∷ xs) b h =
    (λ i. if is_blank x && not_all xs b h i then [] else x ∷ kept_behind xs b h i) ∙ neither (is_blank x) (x ∷ xs ++ b ∷ [])

last_taken : (t : List ℕ) (n : ℕ) (d : ℕ) → 0 < n → n ≤ length t → take n t ≡ take (n - 1) t ++ get_or t (n - 1) d ∷ []
last_taken t n d h l =
    let back : n ≡ (n - 1) + 1 = omega (arith, h) in
    ap (λ m. take m t) back ∙ take_more t (n - 1) d (omega (arith, h, l))

pub blank_before : (t : List ℕ) (n : ℕ) → 0 < n → n ≤ length t → is_blank (get_or t (n - 1) 0) ≡ true → without_back (take n t) ≡ without_back (take (n - 1) t)
blank_before t n h l s = ap without_back (last_taken t n 0 h l) ∙ blank_behind (take (n - 1) t) (get_or t (n - 1) 0) s

pub kept_before : (t : List ℕ) (n : ℕ) → 0 < n → n ≤ length t → is_blank (get_or t (n - 1) 0) ≡ false → without_back (take n t) ≡ take n t
kept_before t n h l s =
    ap without_back (last_taken t n 0 h l) ∙ kept_behind (take (n - 1) t) (get_or t (n - 1) 0) s ∙ sym (last_taken t n 0 h l)
