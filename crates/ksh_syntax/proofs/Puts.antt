-- A rule that is put.
use Rattle.std.specs.Prelude.{◌≡◌, ℕ, suc, Bool, true, false, [], ◌∷◌, ◌++◌, reverse, map}
use Rattle.std.proofs.Common.{refl, ◌∙◌, ap}
use Rattle.ksh_grammar.specs.declared.symbol.Place.TheVariants as place
use Rattle.ksh_grammar.specs.Rules.{at, opens}
use Rattle.ksh_syntax.specs.Rules.{Rule}
use Rattle.ksh_syntax.specs.Steps.{placed, Left}

-- where nothing is opened, it makes no difference how deep that would stand
placed_outside : (rule : Rule) (d inner : ℕ) → opens rule ≡ false → map (placed d inner) rule ≡ map (at d) rule
placed_outside [] d inner h = refl
placed_outside (place.Token c ∷ rule) d inner h = ap (λ xs. at d (place.Token c) ∷ xs) (placed_outside rule d inner h)
placed_outside (place.Part p ∷ rule) d inner h = ap (λ xs. at d (place.Part p) ∷ xs) (placed_outside rule d inner h)
placed_outside (place.Inside p ∷ rule) d inner h = cc
placed_outside (place.Make m ∷ rule) d inner h = ap (λ xs. at d (place.Make m) ∷ xs) (placed_outside rule d inner h)

placed_within : (rule : Rule) (d : ℕ) → map (placed d (suc d)) rule ≡ map (at d) rule
placed_within [] d = refl
placed_within (place.Token c ∷ rule) d = ap (λ xs. at d (place.Token c) ∷ xs) (placed_within rule d)
placed_within (place.Part p ∷ rule) d = ap (λ xs. at d (place.Part p) ∷ xs) (placed_within rule d)
placed_within (place.Inside p ∷ rule) d = ap (λ xs. at d (place.Inside p) ∷ xs) (placed_within rule d)
placed_within (place.Make m ∷ rule) d = ap (λ xs. at d (place.Make m) ∷ xs) (placed_within rule d)

pub put_outside : (rule : Rule) (d inner : ℕ) (old new : Left) → opens rule ≡ false → reverse new ≡ map (placed d inner) rule ++ reverse old → reverse new ≡ map (at d) rule ++ reverse old
put_outside rule d inner old new o h = h ∙ ap (λ xs. xs ++ reverse old) (placed_outside rule d inner o)

pub put_within : (rule : Rule) (d inner : ℕ) (old new : Left) → inner ≡ suc d → reverse new ≡ map (placed d inner) rule ++ reverse old → reverse new ≡ map (at d) rule ++ reverse old
put_within rule d inner old new e h = h ∙ ap (λ xs. xs ++ reverse old) (ap (λ n. map (placed d n) rule) e ∙ placed_within rule d)

-- a rule that opens nothing opens nothing
pub elsewhere : {a : Bool} {X : Type 0} → a ≡ false → a ≡ true → X
elsewhere e f = cc
