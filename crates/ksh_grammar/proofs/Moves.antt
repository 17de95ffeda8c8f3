-- One step of reading with a token in hand.
use Rattle.std.specs.Prelude.{◌≡◌, ℕ, zero, suc, Bool, true, false, List, [], ◌∷◌, ◌++◌, Option, Some, None}
use Rattle.std.proofs.Common.{sym, subst, append_assoc}
use Rattle.ksh_grammar.specs.declared.symbol.Symbol.{Symbol}
use Rattle.ksh_grammar.specs.declared.symbol.Symbol.TheVariants.{Token, Part, Make}
use Rattle.ksh_grammar.specs.Grammar.{Reads, nothing, token, part, action, IsLive, IsLeft}
use Rattle.ksh_grammar.specs.Predict.{Fits, IsPredictive, finishes}
use Rattle.ksh_grammar.proofs.Reading.{chosen}

module _ {C P M T K V : Type 0} (kind : T → K) (takes : C → K → Bool) (IsRule : P → ℕ → List (Symbol C P M) → Type 0) (shift : T → V → V) (make : M → V → V) where
  -- with a token in hand, what is left to read may also be seen so
  pub record InHand (S : List (Symbol C P M)) (v : V) (t : T) (S' : List (Symbol C P M)) (now : V) : Type 0 where
    pub goes_on : (ts : List T) (v' : V) → Reads kind takes IsRule shift make S' (t ∷ ts) now v' → Reads kind takes IsRule shift make S (t ∷ ts) v v'
    pub only_so : (ts : List T) (v' : V) → Reads kind takes IsRule shift make S (t ∷ ts) v v' → Reads kind takes IsRule shift make S' (t ∷ ts) now v'

  abbrev pub Refuses : List (Symbol C P M) → V → T → Type 0
  Refuses S v t = (ts : List T) (v' : V) → Reads kind takes IsRule shift make S (t ∷ ts) v v' → ⊥

  pub as_it_is : (S : List (Symbol C P M)) (v : V) (t : T) → InHand S v t S v
  as_it_is S v t = record { goes_on = λ ts v' h. h; only_so = λ ts v' h. h }

  pub acted : {S : List (Symbol C P M)} {v : V} {t : T} (m : M) (rest : List (Symbol C P M)) (now : V) → InHand S v t (Make m ∷ rest) now → InHand S v t rest (make m now)
  acted m rest now h = record {
    goes_on = λ ts v' r. h.goes_on ts v' (action r);
    only_so = λ ts v' r. elim (h.only_so ts v' r) [ action k ↦ k ];
  }

  pub none_left : (S : List (Symbol C P M)) (v : V) (t : T) (now : V) → InHand S v t [] now → Refuses S v t
  none_left S v t now h ts v' r = elim (h.only_so ts v' r) [ ]

  -- the token is the one that must come
  pub taken : (start : List (Symbol C P M)) (front : List T) (v : V) {S : List (Symbol C P M)} {before : V} {t : T} (c : C) (rest : List (Symbol C P M)) (now : V)
      → IsLeft kind takes IsRule shift make start front v S before → InHand S before t (Token c ∷ rest) now → takes c (kind t) ≡ true
      → IsLeft kind takes IsRule shift make start (front ++ t ∷ []) v rest (shift t now)
  taken start front v {S} {before} {t} c rest now left h e = record {
    goes_on = λ ts v' r. subst (λ xs. Reads kind takes IsRule shift make start xs v v') (sym (append_assoc front (t ∷ []) ts)) (left.goes_on (t ∷ ts) v' (h.goes_on ts v' (token e r)));
    only_so = λ ts v' r. elim (h.only_so ts v' (left.only_so (t ∷ ts) v' (subst (λ xs. Reads kind takes IsRule shift make start xs v v') (append_assoc front (t ∷ []) ts) r))) [ token d k ↦ k ];
  }

  -- another token must come
  pub not_this : (S : List (Symbol C P M)) (v : V) (t : T) (c : C) (rest : List (Symbol C P M)) (now : V) → InHand S v t (Token c ∷ rest) now → (takes c (kind t) ≡ true → ⊥) → Refuses S v t
  not_this S v t c rest now h e ts v' r = elim (h.only_so ts v' r) [ token d k ↦ e d ]

  -- no sentence goes on with the token
  pub dead : (start : List (Symbol C P M)) (front : List T) (v : V) (S : List (Symbol C P M)) (now : V) (t : T) → IsLeft kind takes IsRule shift make start front v S now → Refuses S now t → IsLive kind takes IsRule shift make start (front ++ t ∷ []) v → ⊥
  dead start front v S now t left refuses live =
      refuses live.0 live.1 (left.only_so (t ∷ live.0) live.1 (subst (λ xs. Reads kind takes IsRule shift make start xs v live.1) (append_assoc front (t ∷ []) live.0) live.2))

module _ {C P M T K V : Type 0} (kind : T → K) (takes : C → K → Bool) (IsRule : P → ℕ → List (Symbol C P M) → Type 0) (shift : T → V → V) (make : M → V → V) (starts follows : P → K → Bool) (empty : P → Bool) (choose : P → ℕ → K → Option (List (Symbol C P M))) (ok : IsPredictive takes starts follows empty IsRule choose) where
  -- a part is read by the rule that the token in hand chooses
  pub opened : {S : List (Symbol C P M)} {v : V} {t : T} (p : P) (d : ℕ) (rest rule : List (Symbol C P M)) (now : V)
      → InHand kind takes IsRule shift make S v t (Part p d ∷ rest) now → Fits takes starts follows empty (Part p d ∷ rest) (λ c. false) → choose p d (kind t) ≡ Some rule
      → InHand kind takes IsRule shift make S v t (rule ++ rest) now
  opened {S} {v} {t} p d rest rule now h fits e = record {
    goes_on = λ ts v' r. h.goes_on ts v' (part (ok.is_rule p d (kind t) rule e) r);
    only_so = λ ts v' r. elim (h.only_so ts v' r) [ part {rule = other} m k ↦ subst (λ xs. Reads kind takes IsRule shift make (xs ++ rest) (t ∷ ts) now v') (same_rule other (chosen kind takes IsRule shift make starts follows empty choose ok p d other rest fits m k)) k ];
  }
    where
      same_rule : (other : List (Symbol C P M)) → choose p d (kind t) ≡ Some other → other ≡ rule
      same_rule other d = cc

  -- no rule of the part begins so
  pub no_rule : (S : List (Symbol C P M)) (v : V) (t : T) (p : P) (d : ℕ) (rest : List (Symbol C P M)) (now : V)
      → InHand kind takes IsRule shift make S v t (Part p d ∷ rest) now → Fits takes starts follows empty (Part p d ∷ rest) (λ c. false) → choose p d (kind t) ≡ None → Refuses kind takes IsRule shift make S v t
  no_rule S v t p d rest now h fits e ts v' r = elim (h.only_so ts v' r) [ part {rule = other} m k ↦ none (chosen kind takes IsRule shift make starts follows empty choose ok p d other rest fits m k) ]
    where
      none : {other : List (Symbol C P M)} → choose p d (kind t) ≡ Some other → ⊥
      none d = cc

-- Each part has a rule that comes to an end: with it, these symbols come to their end within so many steps.
module _ {C P M T K V : Type 0} (kind : T → K) (takes : C → K → Bool) (IsRule : P → ℕ → List (Symbol C P M) → Type 0) (shift : T → V → V) (make : M → V → V) (sample : C → T) (is_sample : (c : C) → takes c (kind (sample c)) ≡ true) (short : P → ℕ → List (Symbol C P M)) (is_rule : (p : P) (d : ℕ) → IsRule p d (short p d)) where
  -- what can be finished can be read whatever the value is
  pub finished : (k : ℕ) (S : List (Symbol C P M)) (v : V) → finishes short k S ≡ true → IsLive kind takes IsRule shift make S [] v
  finished zero S v h = cc
  finished (suc k) [] v h = ([], v, nothing)
  finished (suc k) (Token c ∷ S) v h =
      let l = finished k S (shift (sample c) v) h in
      (sample c ∷ l.0, l.1, token (is_sample c) l.2)
  finished (suc k) (Part p d ∷ S) v h =
      let l = finished k (short p d ++ S) v h in
      (l.0, l.1, part (is_rule p d) l.2)
  finished (suc k) (Make m ∷ S) v h =
      let l = finished k S (make m v) h in
      (l.0, l.1, action l.2)
