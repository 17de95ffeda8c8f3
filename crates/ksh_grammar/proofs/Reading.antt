-- What a token in hand says of the rule that reads it.
use Rattle.std.specs.Prelude.{◌≡◌, ℕ, Bool, true, false, ◌&&◌, List, [], ◌∷◌, ◌++◌, Option, Some}
use Rattle.std.proofs.Common.{refl, sym, ◌∙◌}
use Rattle.ksh_grammar.specs.declared.symbol.Symbol.{Symbol}
use Rattle.ksh_grammar.specs.declared.symbol.Symbol.TheVariants.{Part}
use Rattle.ksh_grammar.specs.Grammar.{Reads, nothing, token, part, action}
use Rattle.ksh_grammar.specs.Predict.{may_be_empty, may_begin, may_come, Fits, IsPredictive}
use Rattle.ksh_grammar.proofs.Begins.{both, and_left, and_right, or_left, or_right, or_to, empty_append, come_alone, begin_append, fits_less, fits_append}

module _ {C P M T K V : Type 0} (kind : T → K) (takes : C → K → Bool) (IsRule : P → ℕ → List (Symbol C P M) → Type 0) (shift : T → V → V) (make : M → V → V) (starts follows : P → K → Bool) (empty : P → Bool) (choose : P → ℕ → K → Option (List (Symbol C P M))) (ok : IsPredictive takes starts follows empty IsRule choose) where
  pub reads_nothing : {S : List (Symbol C P M)} {v v' : V} → Reads kind takes IsRule shift make S [] v v' → may_be_empty takes starts follows empty S ≡ true
  reads_nothing nothing = refl
  reads_nothing (action h) = reads_nothing h
  reads_nothing (part {p} {d} {rule} {symbols} m h) =
      let e = sym (empty_append takes starts follows empty rule symbols) ∙ reads_nothing h in
      both (empty p) (may_be_empty takes starts follows empty symbols)
      (ok.empties p d rule m (and_left (may_be_empty takes starts follows empty rule) (may_be_empty takes starts follows empty symbols) e))
      (and_right (may_be_empty takes starts follows empty rule) (may_be_empty takes starts follows empty symbols) e)

  pub reads_first : {S : List (Symbol C P M)} {t : T} {ts : List T} {v v' : V} → Reads kind takes IsRule shift make S (t ∷ ts) v v' → may_begin takes starts follows empty S (kind t) ≡ true
  reads_first (token e h) = e
  reads_first (action h) = reads_first h
  reads_first {t} (part {p} {d} {rule} {symbols} m h) =
      let begun = may_begin takes starts follows empty rule (kind t) in
      let after = may_begin takes starts follows empty symbols (kind t) in
      or_to begun (may_be_empty takes starts follows empty rule && after) (sym (begin_append takes starts follows empty rule symbols (kind t)) ∙ reads_first h)
      (λ b. or_left (starts p (kind t)) (empty p && after) (ok.begins p d rule m (kind t) b))
      (λ b. or_right (starts p (kind t)) (empty p && after)
      (both (empty p) after (ok.empties p d rule m (and_left (may_be_empty takes starts follows empty rule) after b)) (and_right (may_be_empty takes starts follows empty rule) after b)))

  -- the rule that reads the token in hand is the chosen one
  pub chosen : (p : P) (d : ℕ) (rule S : List (Symbol C P M)) {t : T} {ts : List T} {v v' : V}
      → Fits takes starts follows empty (Part p d ∷ S) (λ c. false) → IsRule p d rule → Reads kind takes IsRule shift make (rule ++ S) (t ∷ ts) v v' → choose p d (kind t) ≡ Some rule
  chosen p d rule S {t} fits m h =
      let begun = may_begin takes starts follows empty rule (kind t) in
      let after = may_begin takes starts follows empty S (kind t) in
      ok.is_chosen p d rule m (kind t)
      (or_to begun (may_be_empty takes starts follows empty rule && after) (sym (begin_append takes starts follows empty rule S (kind t)) ∙ reads_first h)
      (λ b. or_left begun (may_be_empty takes starts follows empty rule && follows p (kind t)) b)
      (λ b. or_right begun (may_be_empty takes starts follows empty rule && follows p (kind t))
      (both (may_be_empty takes starts follows empty rule) (follows p (kind t)) (and_left (may_be_empty takes starts follows empty rule) after b)
      (fits.0 (kind t) (come_alone takes starts follows empty S (kind t) ∙ and_right (may_be_empty takes starts follows empty rule) after b)))))

  pub fits_rule : (p : P) (d : ℕ) (rule S : List (Symbol C P M)) → Fits takes starts follows empty (Part p d ∷ S) (λ c. false) → IsRule p d rule → Fits takes starts follows empty (rule ++ S) (λ c. false)
  fits_rule p d rule S fits m =
      fits_append takes starts follows empty rule S (λ c. false)
      (fits_less takes starts follows empty rule (follows p) (may_come takes starts follows empty S (λ c. false)) (λ c e. fits.0 c e) (ok.fits p d rule m))
      fits.1
