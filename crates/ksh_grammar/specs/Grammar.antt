-- Which tokens a grammar reads, and what becomes of a value as it reads them.
use Rattle.std.specs.Prelude.{◌≡◌, ℕ, Bool, true, List, [], ◌∷◌, ◌++◌}
use Rattle.ksh_grammar.specs.declared.symbol.Symbol.{Symbol}
use Rattle.ksh_grammar.specs.declared.symbol.Symbol.TheVariants.{Token, Part, Make}

-- the kind of a token, which kinds a terminal takes, the rules of each part inside so many openings, and what a token and an action do to the value
module _ {C P M T K V : Type 0} (kind : T → K) (takes : C → K → Bool) (IsRule : P → ℕ → List (Symbol C P M) → Type 0) (shift : T → V → V) (make : M → V → V) where
  -- the symbols read these tokens, which turns the one value into the other
  pub data Reads : List (Symbol C P M) → List T → V → V → Type 0 where
    nothing : {v : V} → Reads [] [] v v
    token : {c : C} {symbols : List (Symbol C P M)} {t : T} {ts : List T} {v v' : V}
        → takes c (kind t) ≡ true → Reads symbols ts (shift t v) v' → Reads (Token c ∷ symbols) (t ∷ ts) v v'
    part : {p : P} {d : ℕ} {rule symbols : List (Symbol C P M)} {ts : List T} {v v' : V}
        → IsRule p d rule → Reads (rule ++ symbols) ts v v' → Reads (Part p d ∷ symbols) ts v v'
    action : {m : M} {symbols : List (Symbol C P M)} {ts : List T} {v v' : V}
        → Reads symbols ts (make m v) v' → Reads (Make m ∷ symbols) ts v v'

  -- some further tokens complete these
  abbrev pub IsLive : List (Symbol C P M) → List T → V → Type 0
  IsLive symbols ts v = (more : List T) × (v' : V) × Reads symbols (ts ++ more) v v'

  -- What is still to be read once the tokens of a front were: the symbols that are left read exactly what completes them.
  pub record IsLeft (start : List (Symbol C P M)) (front : List T) (v : V) (symbols : List (Symbol C P M)) (now : V) : Type 0 where
    pub goes_on : (ts : List T) (v' : V) → Reads symbols ts now v' → Reads start (front ++ ts) v v'
    pub only_so : (ts : List T) (v' : V) → Reads start (front ++ ts) v v' → Reads symbols ts now v'
