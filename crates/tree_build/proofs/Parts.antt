-- The expressions of `for ((`.
use Rattle.std.specs.Prelude.{◌≡◌, ℕ, ◌+◌, length, List, [], ◌∷◌, ◌++◌, Option}
use Rattle.std.proofs.Common.{refl, ◌∙◌, ap, arith, length-append}
use Rattle.ksh_ast.specs.declared.tree.Arith.{Arith}
use Rattle.ksh_ast.specs.declared.tree.Command.{Command}
use Rattle.ksh_ast.specs.declared.tree.Command.TheVariants.{ForArith}
use Rattle.ksh_ast.specs.declared.tree.Item.{Item}
use Rattle.tree_build.specs.Counts.{Counts}

one_more : {A : Type 0} (xs front : List A) (x : A) → xs ≡ front ++ x ∷ [] → length xs ≡ length front + 1
one_more xs front x e = ap length e ∙ length-append front (x ∷ [])

none_left : {A : Type 0} (xs : List A) → length xs ≡ 0 → xs ≡ []
none_left [] h = refl
none_left (x ∷ xs) h = absurd (omega (arith, h))

pub three_or_none : {A : Type 0} (xs : List A) → length xs ≡ 3 → xs ≡ [] → ⊥
three_or_none [] h e = omega (arith, h)
three_or_none (x ∷ xs) h e = absurd cc

pub three_or_one : {A : Type 0} (xs front : List A) (x : A) → length xs ≡ 3 → xs ≡ front ++ x ∷ [] → front ≡ [] → ⊥
three_or_one xs front x h e f =
    let n : length xs ≡ length front + 1 = one_more xs front x e in
    let z : length front ≡ 0 = ap length f in
    omega (arith, h, n, z)

pub three_or_two : {A : Type 0} (xs front before : List A) (x y : A) → length xs ≡ 3 → xs ≡ front ++ x ∷ [] → front ≡ before ++ y ∷ [] → before ≡ [] → ⊥
three_or_two xs front before x y h e f b =
    let n : length xs ≡ length front + 1 = one_more xs front x e in
    let m : length front ≡ length before + 1 = one_more front before y f in
    let z : length before ≡ 0 = ap length b in
    omega (arith, h, n, m, z)

pub counts : (parts front before rest : List (Option Arith)) (body : List Item) (step condition first : Option Arith) → length parts ≡ 3
    → parts ≡ front ++ step ∷ [] → front ≡ before ++ condition ∷ [] → before ≡ rest ++ first ∷ [] → Counts parts body (ForArith first condition step body [])
counts parts front before rest body step condition first h p f b =
    let n : length parts ≡ length front + 1 = one_more parts front step p in
    let m : length front ≡ length before + 1 = one_more front before condition f in
    let o : length before ≡ length rest + 1 = one_more before rest first b in
    let r : rest ≡ [] = none_left rest (omega (arith, h, n, m, o)) in
    (first, condition, step, p ∙ ap (λ xs. xs ++ step ∷ []) (f ∙ ap (λ xs. xs ++ condition ∷ []) (b ∙ ap (λ xs. xs ++ first ∷ []) r)), refl)
