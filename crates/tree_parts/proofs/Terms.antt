-- The words of a term.
use Rattle.std.specs.Prelude.{◌≡◌, ◌↔◌, Bool, true, false, IsTrue, List, [], ◌∷◌, ◌++◌, Option, Some, None}
use Rattle.std.proofs.Common.{refl, sym, ◌∙◌, ap}
use Rattle.ksh_ast.specs.declared.tree.Piece.{Piece}
use Rattle.ksh_ast.specs.declared.tree.Test.{Test}
use Rattle.ksh_ast.specs.declared.tree.Test.TheVariants as test
use Rattle.tree_parts.specs.Parts.{binary_by, binary_test, plain_bytes, test_of, unary_by, unary_test}

abbrev pub Words : Type 0
Words = List (List Piece)

pub no_word : (words : Words) → words ≡ [] → None ≡ test_of words
no_word words w = sym (ap test_of w)

pub one_word : (words front : Words) (last : List Piece) → words ≡ front ++ last ∷ [] → front ≡ [] → Some (test.Word last) ≡ test_of words
one_word words front last w f = sym (ap test_of (w ∙ ap (λ ws. ws ++ last ∷ []) f))

pub two_words : (words front before : Words) (last name : List Piece) (r : Option Test) → words ≡ front ++ last ∷ [] → front ≡ before ++ name ∷ [] → before ≡ []
    → r ≡ unary_by (unary_test (plain_bytes name)) last → r ≡ test_of words
two_words words front before last name r w f b e =
    e ∙ sym (ap test_of (w ∙ ap (λ ws. ws ++ last ∷ []) (f ∙ ap (λ ws. ws ++ name ∷ []) b)))

pub three_words : (words front before rest : Words) (last name left : List Piece) (r : Option Test) → words ≡ front ++ last ∷ [] → front ≡ before ++ name ∷ [] → before ≡ rest ++ left ∷ []
    → rest ≡ [] → r ≡ binary_by left (binary_test (plain_bytes name)) last → r ≡ test_of words
three_words words front before rest last name left r w f b n e =
    e ∙ sym (ap test_of (w ∙ ap (λ ws. ws ++ last ∷ []) (f ∙ ap (λ ws. ws ++ name ∷ []) (b ∙ ap (λ ws. ws ++ left ∷ []) n))))

-- a word and three behind it
too_many : (rest : Words) (left name last : List Piece) (e : Bool) → (IsTrue e ↔ (rest ≡ [])) → e ≡ false → None ≡ test_of (((rest ++ left ∷ []) ++ name ∷ []) ++ last ∷ [])
too_many [] left name last e h f = absurd (let t : e ≡ true = h.1 refl in cc)
too_many (a ∷ []) left name last e h f = refl
too_many (a ∷ b ∷ []) left name last e h f = refl
too_many (a ∷ b ∷ c ∷ []) left name last e h f = refl
too_many (a ∷ b ∷ c ∷ d ∷ rest) left name last e h f = refl

pub more_words : (words front before rest : Words) (last name left : List Piece) (e : Bool) → words ≡ front ++ last ∷ [] → front ≡ before ++ name ∷ [] → before ≡ rest ++ left ∷ []
    → (IsTrue e ↔ (rest ≡ [])) → e ≡ false → None ≡ test_of words
more_words words front before rest last name left e w f b h n =
    too_many rest left name last e h n ∙ sym (ap test_of (w ∙ ap (λ ws. ws ++ last ∷ []) (f ∙ ap (λ ws. ws ++ name ∷ []) b)))
