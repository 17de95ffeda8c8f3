-- Rules as a table for each part, some of which open something.
use Rattle.std.specs.Prelude.{◌≡◌, ℕ, suc, nat_eq, Bool, true, false, not, ◌&&◌, ◌||◌, List, [], ◌∷◌, map, Option, Some, None, option_and_then, slice_get, if◌then◌else◌}
use Rattle.std.specs.List.{list_all}
use Rattle.ksh_grammar.specs.declared.symbol.Place.{Place}
use Rattle.ksh_grammar.specs.declared.symbol.Place.TheVariants as place
use Rattle.ksh_grammar.specs.declared.symbol.Symbol.{Symbol}
use Rattle.ksh_grammar.specs.declared.symbol.Symbol.TheVariants.{Token, Part, Make}
use Rattle.ksh_grammar.specs.Predict.{may_be_empty, may_begin, may_come}

-- a place of a rule inside so many openings
abbrev pub at : {C P M : Type 0} → ℕ → Place C P M → Symbol C P M
at d (place.Token c) = Token c
at d (place.Part p) = Part p d
at d (place.Inside p) = Part p (suc d)
at d (place.Make m) = Make m

-- the list has everything of its type
abbrev pub HasAll : {X : Type 0} → List X → Type 0
HasAll {X} xs = (x : X) → (j : ℕ) × (slice_get xs j ≡ Some x)

-- whether a rule opens something
abbrev pub opens : {C P M : Type 0} → List (Place C P M) → Bool
opens [] = false
opens (place.Token c ∷ rule) = opens rule
opens (place.Part p ∷ rule) = opens rule
opens (place.Inside p ∷ rule) = true
opens (place.Make m ∷ rule) = opens rule

module _ {C P M : Type 0} (rules : P → List (List (Place C P M))) (may_open : ℕ → Bool) where
  -- the symbols are those of a rule of the part, which opens something only inside so many openings as may have another
  abbrev pub IsRuleOf : P → ℕ → List (Symbol C P M) → Type 0
  IsRuleOf p d symbols = (j : ℕ) × (rule : List (Place C P M)) × (slice_get (rules p) j ≡ Some rule) × (opens rule ≡ true → may_open d ≡ true) × (symbols ≡ map (at d) rule)

  -- the rule with that number, where it may stand
  abbrev pub rule_at : List (Place C P M) → ℕ → Option (List (Symbol C P M))
  rule_at rule d = if opens rule && not (may_open d) then None else Some (map (at d) rule)

  -- `pick` says which of a part's rules a token chooses
  abbrev pub chosen_by : {K : Type 0} → (P → K → ℕ) → P → ℕ → K → Option (List (Symbol C P M))
  chosen_by pick p d k = option_and_then (λ rule. rule_at rule d) (slice_get (rules p) (pick p k))

-- What can be computed of a table.
module _ {C P M K : Type 0} (takes : C → K → Bool) (starts follows : P → K → Bool) (empty : P → Bool) (kinds : List K) where
  abbrev pub fits_by : List (Symbol C P M) → (K → Bool) → Bool
  fits_by [] after = true
  fits_by (Token c ∷ symbols) after = fits_by symbols after
  fits_by (Part p d ∷ symbols) after = list_all (λ k. not (may_come takes starts follows empty symbols after k) || follows p k) kinds && fits_by symbols after
  fits_by (Make m ∷ symbols) after = fits_by symbols after

  -- what is known of the part holds of the rule
  abbrev pub is_bounded : P → List (Symbol C P M) → Bool
  is_bounded p rule =
      (not (may_be_empty takes starts follows empty rule) || empty p)
      && (fits_by rule (follows p) && list_all (λ k. not (may_begin takes starts follows empty rule k) || starts p k) kinds)

  -- it holds of each rule of each part
  abbrev pub are_bounded : (P → List (List (Place C P M))) → List P → Bool
  are_bounded rules parts = list_all (λ p. list_all (λ rule. is_bounded p (map (at 0) rule)) (rules p)) parts

  -- each token that may come where a rule stands picks that rule's number
  abbrev pub are_picked_from : (P → K → ℕ) → P → ℕ → List (List (Place C P M)) → Bool
  are_picked_from pick p j [] = true
  are_picked_from pick p j (rule ∷ more) =
      list_all (λ k. not (may_come takes starts follows empty (map (at 0) rule) (follows p) k) || nat_eq (pick p k) j) kinds && are_picked_from pick p (suc j) more

  abbrev pub are_picked : (P → List (List (Place C P M))) → (P → K → ℕ) → List P → Bool
  are_picked rules pick parts = list_all (λ p. are_picked_from pick p 0 (rules p)) parts
