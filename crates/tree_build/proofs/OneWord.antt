-- A simple command that is one word is no other.
use Rattle.std.specs.Prelude.{◌≡◌, List, [], ◌∷◌}
use Rattle.std.proofs.Common.{rules, sym, ◌∙◌, ap, subst}
use Rattle.ksh_ast.specs.declared.redirect.Redirect.{Redirect}
use Rattle.ksh_ast.specs.declared.tree.Argument.{Argument, Argument-F, out-Argument, the_lemmas}
use Rattle.ksh_ast.specs.declared.tree.Argument.TheVariants as argument
use Rattle.ksh_ast.specs.declared.tree.Assign.{Assign}
use Rattle.ksh_ast.specs.declared.tree.Piece.{Piece}
use Rattle.tree_build.specs.Fits.{IsNames}
use Rattle.tree_build.specs.Names.{IsOneWord}

pub same_word_alone : (given : List Assign) (words : List Argument) (redirects : List (Redirect (List Piece))) (w v : List Piece) → IsOneWord given words redirects w → IsOneWord given words redirects v → w ≡ v
same_word_alone given words redirects w v a b =
    let both : argument.Word w ∷ [] ≡ argument.Word v ∷ [] = sym a.1 ∙ b.1 in
    let same : argument.Word w ≡ argument.Word v = cc in
    let left : out-Argument (argument.Word w) ≡ Argument-F.Argument::Word w = search (rules, the_lemmas) in
    let right : out-Argument (argument.Word v) ≡ Argument-F.Argument::Word v = search (rules, the_lemmas) in
    let out : Argument-F.Argument::Word w ≡ Argument-F.Argument::Word v = sym left ∙ ap (λ x. out-Argument x) same ∙ right in
    cc

pub never_alone : (given : List Assign) (words : List Argument) (redirects : List (Redirect (List Piece))) (w : List Piece) → IsOneWord given words redirects w → (IsNames w → ⊥)
    → (v : List Piece) → IsOneWord given words redirects v → IsNames v → ⊥
never_alone given words redirects w one never v one' is = never (subst (λ x. IsNames x) (same_word_alone given words redirects v w one' one) is)
