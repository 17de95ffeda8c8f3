-- A grammar in which the kind of a token chooses the rule, and in which each part begins in one mode.
use Rattle.std.specs.Prelude.{◌≡◌, ℕ, Bool, true, ◌&&◌, List, [], ◌∷◌, Option}
use Rattle.std.proofs.Common.{refl, sym, ◌∙◌, ap}
use Rattle.ksh_grammar.specs.declared.symbol.Symbol.{Symbol}
use Rattle.ksh_grammar.specs.declared.symbol.Symbol.TheVariants.{Token, Part, Make}
use Rattle.ksh_grammar.specs.Predict.{may_be_empty, may_begin, may_come, Fits, IsPredictive}
use Rattle.ksh_grammar.specs.Modes.{with_mode, by_kind}
use Rattle.ksh_grammar.proofs.Begins.{both, and_left, and_right, or_left, or_right, or_to}

module _ {C P A M K : Type 0} (takes_in : C → M → Bool) (takes : C → K → Bool) (starts_in follows_in : P → M → Bool) (starts follows : P → K → Bool) (empty : P → Bool) where
  both_empty : (S : List (Symbol C P A)) → may_be_empty (with_mode takes_in takes) (with_mode starts_in starts) (with_mode follows_in follows) empty S ≡ may_be_empty takes starts follows empty S
  both_empty [] = refl
  both_empty (Token c ∷ S) = refl
  both_empty (Part p d ∷ S) = ap (λ x. empty p && x) (both_empty S)
  both_empty (Make a ∷ S) = both_empty S

  mode_empty : (S : List (Symbol C P A)) → may_be_empty (with_mode takes_in takes) (with_mode starts_in starts) (with_mode follows_in follows) empty S ≡ may_be_empty takes_in starts_in follows_in empty S
  mode_empty [] = refl
  mode_empty (Token c ∷ S) = refl
  mode_empty (Part p d ∷ S) = ap (λ x. empty p && x) (mode_empty S)
  mode_empty (Make a ∷ S) = mode_empty S

  -- what may begin so in a mode may begin so by its kind, and by its mode
  kind_begins : (S : List (Symbol C P A)) (m : M) (k : K) → may_begin (with_mode takes_in takes) (with_mode starts_in starts) (with_mode follows_in follows) empty S (m, k) ≡ true → may_begin takes starts follows empty S k ≡ true
  kind_begins [] m k h = h
  kind_begins (Token c ∷ S) m k h = and_right (takes_in c m) (takes c k) h
  kind_begins (Part p d ∷ S) m k h =
      or_to (starts_in p m && starts p k) (empty p && may_begin (with_mode takes_in takes) (with_mode starts_in starts) (with_mode follows_in follows) empty S (m, k)) h
      (λ b. or_left (starts p k) (empty p && may_begin takes starts follows empty S k) (and_right (starts_in p m) (starts p k) b))
      (λ b. or_right (starts p k) (empty p && may_begin takes starts follows empty S k)
      (both (empty p) (may_begin takes starts follows empty S k)
      (and_left (empty p) (may_begin (with_mode takes_in takes) (with_mode starts_in starts) (with_mode follows_in follows) empty S (m, k)) b)
      (kind_begins S m k (and_right (empty p) (may_begin (with_mode takes_in takes) (with_mode starts_in starts) (with_mode follows_in follows) empty S (m, k)) b))))
  kind_begins (Make a ∷ S) m k h = kind_begins S m k h

  mode_begins : (S : List (Symbol C P A)) (m : M) (k : K) → may_begin (with_mode takes_in takes) (with_mode starts_in starts) (with_mode follows_in follows) empty S (m, k) ≡ true → may_begin takes_in starts_in follows_in empty S m ≡ true
  mode_begins [] m k h = h
  mode_begins (Token c ∷ S) m k h = and_left (takes_in c m) (takes c k) h
  mode_begins (Part p d ∷ S) m k h =
      or_to (starts_in p m && starts p k) (empty p && may_begin (with_mode takes_in takes) (with_mode starts_in starts) (with_mode follows_in follows) empty S (m, k)) h
      (λ b. or_left (starts_in p m) (empty p && may_begin takes_in starts_in follows_in empty S m) (and_left (starts_in p m) (starts p k) b))
      (λ b. or_right (starts_in p m) (empty p && may_begin takes_in starts_in follows_in empty S m)
      (both (empty p) (may_begin takes_in starts_in follows_in empty S m)
      (and_left (empty p) (may_begin (with_mode takes_in takes) (with_mode starts_in starts) (with_mode follows_in follows) empty S (m, k)) b)
      (mode_begins S m k (and_right (empty p) (may_begin (with_mode takes_in takes) (with_mode starts_in starts) (with_mode follows_in follows) empty S (m, k)) b))))
  mode_begins (Make a ∷ S) m k h = mode_begins S m k h

  -- the same for what may come, where what comes after is so in both
  kind_comes : (S : List (Symbol C P A)) (p : P) (m : M) (k : K) → may_come (with_mode takes_in takes) (with_mode starts_in starts) (with_mode follows_in follows) empty S (with_mode follows_in follows p) (m, k) ≡ true → may_come takes starts follows empty S (follows p) k ≡ true
  kind_comes S p m k h =
      let begun = may_begin (with_mode takes_in takes) (with_mode starts_in starts) (with_mode follows_in follows) empty S (m, k) in
      let none = may_be_empty (with_mode takes_in takes) (with_mode starts_in starts) (with_mode follows_in follows) empty S in
      or_to begun (none && (follows_in p m && follows p k)) h
      (λ b. or_left (may_begin takes starts follows empty S k) (may_be_empty takes starts follows empty S && follows p k) (kind_begins S m k b))
      (λ b. or_right (may_begin takes starts follows empty S k) (may_be_empty takes starts follows empty S && follows p k)
      (both (may_be_empty takes starts follows empty S) (follows p k)
      (sym (both_empty S) ∙ and_left none (follows_in p m && follows p k) b)
      (and_right (follows_in p m) (follows p k) (and_right none (follows_in p m && follows p k) b))))

  mode_comes : (S : List (Symbol C P A)) (p : P) (m : M) (k : K) → may_come (with_mode takes_in takes) (with_mode starts_in starts) (with_mode follows_in follows) empty S (with_mode follows_in follows p) (m, k) ≡ true → may_come takes_in starts_in follows_in empty S (follows_in p) m ≡ true
  mode_comes S p m k h =
      let begun = may_begin (with_mode takes_in takes) (with_mode starts_in starts) (with_mode follows_in follows) empty S (m, k) in
      let none = may_be_empty (with_mode takes_in takes) (with_mode starts_in starts) (with_mode follows_in follows) empty S in
      or_to begun (none && (follows_in p m && follows p k)) h
      (λ b. or_left (may_begin takes_in starts_in follows_in empty S m) (may_be_empty takes_in starts_in follows_in empty S && follows_in p m) (mode_begins S m k b))
      (λ b. or_right (may_begin takes_in starts_in follows_in empty S m) (may_be_empty takes_in starts_in follows_in empty S && follows_in p m)
      (both (may_be_empty takes_in starts_in follows_in empty S) (follows_in p m)
      (sym (mode_empty S) ∙ and_left none (follows_in p m && follows p k) b)
      (and_left (follows_in p m) (follows p k) (and_right none (follows_in p m && follows p k) b))))

  fits_both : (S : List (Symbol C P A)) (p : P) → Fits takes_in starts_in follows_in empty S (follows_in p) → Fits takes starts follows empty S (follows p)
      → Fits (with_mode takes_in takes) (with_mode starts_in starts) (with_mode follows_in follows) empty S (with_mode follows_in follows p)
  fits_both [] p f g = tt
  fits_both (Token c ∷ S) p f g = fits_both S p f g
  fits_both (Part q d ∷ S) p f g =
      ((λ mk e. both (follows_in q mk.0) (follows q mk.1) (f.0 mk.0 (mode_comes S p mk.0 mk.1 e)) (g.0 mk.1 (kind_comes S p mk.0 mk.1 e))), fits_both S p f.1 g.1)
  fits_both (Make a ∷ S) p f g = fits_both S p f g

  -- both together
  pub predictive_both : (IsRule : P → ℕ → List (Symbol C P A) → Type 0) (choose : P → ℕ → K → Option (List (Symbol C P A)))
      → ((p : P) (d : ℕ) (rule : List (Symbol C P A)) → IsRule p d rule → (m : M) → may_begin takes_in starts_in follows_in empty rule m ≡ true → starts_in p m ≡ true)
      → ((p : P) (d : ℕ) (rule : List (Symbol C P A)) → IsRule p d rule → Fits takes_in starts_in follows_in empty rule (follows_in p))
      → IsPredictive takes starts follows empty IsRule choose
      → IsPredictive (with_mode takes_in takes) (with_mode starts_in starts) (with_mode follows_in follows) empty IsRule (by_kind choose)
  predictive_both IsRule choose begins_in fits_in ok = record {
    begins = λ p d rule r mk e. both (starts_in p mk.0) (starts p mk.1) (begins_in p d rule r mk.0 (mode_begins rule mk.0 mk.1 e)) (ok.begins p d rule r mk.1 (kind_begins rule mk.0 mk.1 e));
    empties = λ p d rule r e. ok.empties p d rule r (sym (both_empty rule) ∙ e);
    fits = λ p d rule r. fits_both rule p (fits_in p d rule r) (ok.fits p d rule r);
    is_rule = λ p d mk rule e. ok.is_rule p d mk.1 rule e;
    is_chosen = λ p d rule r mk e. ok.is_chosen p d rule r mk.1 (kind_comes rule p mk.0 mk.1 e);
  }
