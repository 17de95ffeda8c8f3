-- Which rule a token in hand chooses, and when that choice is the only one.
use Rattle.std.specs.Prelude.{◌≡◌, ℕ, zero, suc, Bool, true, false, ◌&&◌, ◌||◌, List, [], ◌∷◌, ◌++◌, Option, Some}
use Rattle.ksh_grammar.specs.declared.symbol.Symbol.{Symbol}
use Rattle.ksh_grammar.specs.declared.symbol.Symbol.TheVariants.{Token, Part, Make}

-- which kinds of token a terminal takes, and of each part: with which it may begin, which may come after it, whether it may be empty
module _ {C P M K : Type 0} (takes : C → K → Bool) (starts follows : P → K → Bool) (empty : P → Bool) where
  -- whether the symbols may read nothing
  abbrev pub may_be_empty : List (Symbol C P M) → Bool
  may_be_empty [] = true
  may_be_empty (Token c ∷ symbols) = false
  may_be_empty (Part p d ∷ symbols) = empty p && may_be_empty symbols
  may_be_empty (Make m ∷ symbols) = may_be_empty symbols

  -- whether what they read may begin with a token of the kind
  abbrev pub may_begin : List (Symbol C P M) → K → Bool
  may_begin [] k = false
  may_begin (Token c ∷ symbols) k = takes c k
  may_begin (Part p d ∷ symbols) k = starts p k || (empty p && may_begin symbols k)
  may_begin (Make m ∷ symbols) k = may_begin symbols k

  -- the same, with what may come after them
  abbrev pub may_come : List (Symbol C P M) → (K → Bool) → K → Bool
  may_come symbols after k = may_begin symbols k || (may_be_empty symbols && after k)

  -- what may come after each part among the symbols is known to come after it
  abbrev pub Fits : List (Symbol C P M) → (K → Bool) → Type 0
  Fits [] after = Unit {0}
  Fits (Token c ∷ symbols) after = Fits symbols after
  Fits (Part p d ∷ symbols) after = ((k : K) → may_come symbols after k ≡ true → follows p k ≡ true) × Fits symbols after
  Fits (Make m ∷ symbols) after = Fits symbols after

  -- One token in hand chooses the rule.
  pub record IsPredictive (IsRule : P → ℕ → List (Symbol C P M) → Type 0) (choose : P → ℕ → K → Option (List (Symbol C P M))) : Type 0 where
    pub begins : (p : P) (d : ℕ) (rule : List (Symbol C P M)) → IsRule p d rule → (k : K) → may_begin rule k ≡ true → starts p k ≡ true
    pub empties : (p : P) (d : ℕ) (rule : List (Symbol C P M)) → IsRule p d rule → may_be_empty rule ≡ true → empty p ≡ true
    pub fits : (p : P) (d : ℕ) (rule : List (Symbol C P M)) → IsRule p d rule → Fits rule (follows p)
    pub is_rule : (p : P) (d : ℕ) (k : K) (rule : List (Symbol C P M)) → choose p d k ≡ Some rule → IsRule p d rule
    pub is_chosen : (p : P) (d : ℕ) (rule : List (Symbol C P M)) → IsRule p d rule → (k : K) → may_come rule (follows p) k ≡ true → choose p d k ≡ Some rule

-- whether the symbols come to their end within so many steps, each part by the one rule that `short` names
abbrev pub finishes : {C P M : Type 0} → (P → ℕ → List (Symbol C P M)) → ℕ → List (Symbol C P M) → Bool
finishes short zero symbols = false
finishes short (suc k) [] = true
finishes short (suc k) (Token c ∷ symbols) = finishes short k symbols
finishes short (suc k) (Part p d ∷ symbols) = finishes short k (short p d ++ symbols)
finishes short (suc k) (Make m ∷ symbols) = finishes short k symbols
