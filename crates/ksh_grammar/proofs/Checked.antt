-- A table that passes the check is one in which a token in hand chooses the rule.
use Rattle.std.specs.Prelude.{◌≡◌, ℕ, zero, suc, ◌+◌, nat_eq, Bool, true, false, not, ◌&&◌, ◌||◌, List, [], ◌∷◌, map, Option, Some, None, option_and_then, slice_get, if◌then◌else◌}
use Rattle.std.proofs.Common.{refl, sym, ◌∙◌, ap, subst, arith}
use Rattle.std.specs.List.{list_all}
use Rattle.std.proofs.lemmas.Bool.{eqb-true}
use Rattle.ksh_grammar.specs.declared.symbol.Place.{Place}
use Rattle.ksh_grammar.specs.declared.symbol.Place.TheVariants as place
use Rattle.ksh_grammar.specs.declared.symbol.Symbol.{Symbol}
use Rattle.ksh_grammar.specs.Predict.{may_be_empty, may_begin, may_come, Fits, IsPredictive}
use Rattle.ksh_grammar.specs.Rules.{at, opens, IsRuleOf, rule_at, chosen_by, fits_by, is_bounded, are_bounded, are_picked_from, are_picked, HasAll}
use Rattle.ksh_grammar.proofs.Begins.{and_left, and_right}

pub all_at : {X : Type 0} (f : X → Bool) (xs : List X) (j : ℕ) (x : X) → slice_get xs j ≡ Some x → list_all f xs ≡ true → f x ≡ true
all_at f [] j x e h = cc
all_at f (y ∷ xs) zero x e h =
    let same : y ≡ x = cc in
    subst (λ z. f z ≡ true) same (and_left (f y) (list_all f xs) h)
all_at f (y ∷ xs) (suc j) x e h = all_at f xs j x e (and_right (f y) (list_all f xs) h)

pub from_implied : (a b : Bool) → (not a || b) ≡ true → a ≡ true → b ≡ true
from_implied true b h e = h
from_implied false b h e = cc

stand : {X : Type 0} (a b : Bool) (x : X) → (a ≡ true → b ≡ true) → (if a && not b then None else Some x) ≡ Some x
stand true true x h = refl
stand true false x h = let e : false ≡ true = h refl in cc
stand false b x h = refl

record Stood {X : Type 0} (a b : Bool) (x y : X) : Type 0 where
  may : a ≡ true → b ≡ true
  same : y ≡ x

stood : {X : Type 0} (a b : Bool) (x y : X) → (if a && not b then None else Some x) ≡ Some y → Stood a b x y
stood true true x y h = record { may = λ e. e; same = cc }
stood true false x y h = cc
stood false b x y h = record { may = λ e. cc; same = cc }

module _ {C P M K : Type 0} (takes : C → K → Bool) (starts follows : P → K → Bool) (empty : P → Bool) where
  -- what a rule may begin with doesn't hang on where it stands
  pub empty_at : (d : ℕ) (rule : List (Place C P M)) → may_be_empty takes starts follows empty (map (at d) rule) ≡ may_be_empty takes starts follows empty (map (at 0) rule)
  empty_at d [] = refl
  empty_at d (place.Token c ∷ rule) = refl
  empty_at d (place.Part p ∷ rule) = ap (λ x. empty p && x) (empty_at d rule)
  empty_at d (place.Inside p ∷ rule) = ap (λ x. empty p && x) (empty_at d rule)
  empty_at d (place.Make m ∷ rule) = empty_at d rule

  pub begin_at : (d : ℕ) (rule : List (Place C P M)) (k : K) → may_begin takes starts follows empty (map (at d) rule) k ≡ may_begin takes starts follows empty (map (at 0) rule) k
  begin_at d [] k = refl
  begin_at d (place.Token c ∷ rule) k = refl
  begin_at d (place.Part p ∷ rule) k = ap (λ x. starts p k || (empty p && x)) (begin_at d rule k)
  begin_at d (place.Inside p ∷ rule) k = ap (λ x. starts p k || (empty p && x)) (begin_at d rule k)
  begin_at d (place.Make m ∷ rule) k = begin_at d rule k

  pub come_at : (d : ℕ) (rule : List (Place C P M)) (after : K → Bool) (k : K) → may_come takes starts follows empty (map (at d) rule) after k ≡ may_come takes starts follows empty (map (at 0) rule) after k
  come_at d rule after k = ap (λ x. x || (may_be_empty takes starts follows empty (map (at d) rule) && after k)) (begin_at d rule k) ∙ ap (λ x. may_begin takes starts follows empty (map (at 0) rule) k || (x && after k)) (empty_at d rule)

  module _ (kinds : List K) (every : HasAll kinds) where
    fits_at : (d : ℕ) (rule : List (Place C P M)) (after : K → Bool) → fits_by takes starts follows empty kinds (map (at 0) rule) after ≡ true → Fits takes starts follows empty (map (at d) rule) after
    fits_at d [] after h = tt
    fits_at d (place.Token c ∷ rule) after h = fits_at d rule after h
    fits_at d (place.Part p ∷ rule) after h =
        let test : K → Bool = λ k. not (may_come takes starts follows empty (map (at 0) rule) after k) || follows p k in (
          λ k e. from_implied (may_come takes starts follows empty (map (at 0) rule) after k) (follows p k)
              (all_at test kinds (every k).0 k (every k).1 (and_left (list_all test kinds) (fits_by takes starts follows empty kinds (map (at 0) rule) after) h))
              (sym (come_at d rule after k) ∙ e),
          fits_at d rule after (and_right (list_all test kinds) (fits_by takes starts follows empty kinds (map (at 0) rule) after) h),
        )
    fits_at d (place.Inside p ∷ rule) after h =
        let test : K → Bool = λ k. not (may_come takes starts follows empty (map (at 0) rule) after k) || follows p k in (
          λ k e. from_implied (may_come takes starts follows empty (map (at 0) rule) after k) (follows p k)
              (all_at test kinds (every k).0 k (every k).1 (and_left (list_all test kinds) (fits_by takes starts follows empty kinds (map (at 0) rule) after) h))
              (sym (come_at d rule after k) ∙ e),
          fits_at d rule after (and_right (list_all test kinds) (fits_by takes starts follows empty kinds (map (at 0) rule) after) h),
        )
    fits_at d (place.Make m ∷ rule) after h = fits_at d rule after h

    -- What is known of a part holds of the rule.
    pub record Bounds (p : P) (rule : List (Symbol C P M)) : Type 0 where
      pub empties : may_be_empty takes starts follows empty rule ≡ true → empty p ≡ true
      pub fits : Fits takes starts follows empty rule (follows p)
      pub begins : (k : K) → may_begin takes starts follows empty rule k ≡ true → starts p k ≡ true

    bounds_at : (p : P) (d : ℕ) (rule : List (Place C P M)) → is_bounded takes starts follows empty kinds p (map (at 0) rule) ≡ true → Bounds p (map (at d) rule)
    bounds_at p d rule h =
        let test : K → Bool = λ k. not (may_begin takes starts follows empty (map (at 0) rule) k) || starts p k in
        let none = not (may_be_empty takes starts follows empty (map (at 0) rule)) || empty p in
        let fitting = fits_by takes starts follows empty kinds (map (at 0) rule) (follows p) in
        let more = and_right none (fitting && list_all test kinds) h in
        record {
          empties = λ e. from_implied (may_be_empty takes starts follows empty (map (at 0) rule)) (empty p) (and_left none (fitting && list_all test kinds) h) (sym (empty_at d rule) ∙ e);
          fits = fits_at d rule (follows p) (and_left fitting (list_all test kinds) more);
          begins = λ k e. from_implied (may_begin takes starts follows empty (map (at 0) rule) k) (starts p k)
              (all_at test kinds (every k).0 k (every k).1 (and_right fitting (list_all test kinds) more)) (sym (begin_at d rule k) ∙ e);
        }

    module _ (rules : P → List (List (Place C P M))) (parts : List P) (all : HasAll parts) (may_open : ℕ → Bool) where
      pub bounds : are_bounded takes starts follows empty kinds rules parts ≡ true → (p : P) (d : ℕ) (rule : List (Symbol C P M)) → IsRuleOf rules may_open p d rule → Bounds p rule
      bounds h p d symbols r =
          subst (λ x. Bounds p x) (sym r.4)
          (bounds_at p d r.1
          (all_at (λ rule. is_bounded takes starts follows empty kinds p (map (at 0) rule)) (rules p) r.0 r.1 r.2
          (all_at (λ q. list_all (λ rule. is_bounded takes starts follows empty kinds q (map (at 0) rule)) (rules q)) parts (all p).0 p (all p).1 h)))

      -- the number of the rule is picked
      picked_from : (pick : P → K → ℕ) (p : P) (i j : ℕ) (rs : List (List (Place C P M))) (rule : List (Place C P M)) → slice_get rs j ≡ Some rule → are_picked_from takes starts follows empty kinds pick p i rs ≡ true
          → (k : K) → may_come takes starts follows empty (map (at 0) rule) (follows p) k ≡ true → nat_eq (pick p k) (i + j) ≡ true
      picked_from pick p i j [] rule e h k m = cc
      picked_from pick p i zero (r ∷ rs) rule e h k m =
          let same : r ≡ rule = cc in
          let here : i ≡ i + 0 = omega arith in
          let test : List (Place C P M) → K → Bool = λ x y. not (may_come takes starts follows empty (map (at 0) x) (follows p) y) || nat_eq (pick p y) i in
          let passed = all_at (test r) kinds (every k).0 k (every k).1 (and_left (list_all (test r) kinds) (are_picked_from takes starts follows empty kinds pick p (suc i) rs) h) in
          subst (λ n. nat_eq (pick p k) n ≡ true) here
          (from_implied (may_come takes starts follows empty (map (at 0) rule) (follows p) k) (nat_eq (pick p k) i) (subst (λ x. test x k ≡ true) same passed) m)
      picked_from pick p i (suc j) (r ∷ rs) rule e h k m =
          let there : suc i + j ≡ i + suc j = omega arith in
          let test : K → Bool = λ y. not (may_come takes starts follows empty (map (at 0) r) (follows p) y) || nat_eq (pick p y) i in
          subst (λ n. nat_eq (pick p k) n ≡ true) there
          (picked_from pick p (suc i) j rs rule e (and_right (list_all test kinds) (are_picked_from takes starts follows empty kinds pick p (suc i) rs) h) k m)

      -- what is chosen is a rule
      chosen_rule : (p : P) (d j : ℕ) (o : Option (List (Place C P M))) (symbols : List (Symbol C P M)) → slice_get (rules p) j ≡ o → option_and_then (λ rule. rule_at rules may_open rule d) o ≡ Some symbols → IsRuleOf rules may_open p d symbols
      chosen_rule p d j None symbols e h = cc
      chosen_rule p d j (Some rule) symbols e h =
          let s = stood (opens rule) (may_open d) (map (at d) rule) symbols h in
          (j, rule, e, s.may, s.same)

      stands : (d : ℕ) (rule : List (Place C P M)) → (opens rule ≡ true → may_open d ≡ true) → rule_at rules may_open rule d ≡ Some (map (at d) rule)
      stands d rule o = stand (opens rule) (may_open d) (map (at d) rule) o

      pub predictive : (pick : P → K → ℕ) → are_bounded takes starts follows empty kinds rules parts ≡ true → are_picked takes starts follows empty kinds rules pick parts ≡ true
          → IsPredictive takes starts follows empty (IsRuleOf rules may_open) (chosen_by rules may_open pick)
      predictive pick h picked = record {
        begins = λ p d symbols r. (bounds h p d symbols r).begins;
        empties = λ p d symbols r. (bounds h p d symbols r).empties;
        fits = λ p d symbols r. (bounds h p d symbols r).fits;
        is_rule = λ p d k symbols e. chosen_rule p d (pick p k) (slice_get (rules p) (pick p k)) symbols refl e;
        is_chosen = λ p d symbols r k b.
            let come = sym (come_at d r.1 (follows p) k) ∙ ap (λ x. may_come takes starts follows empty x (follows p) k) (sym r.4) ∙ b in
            let here : 0 + r.0 ≡ r.0 = omega arith in
            let same : pick p k ≡ r.0 = eqb-true (pick p k) r.0 (subst (λ n. nat_eq (pick p k) n ≡ true) here
            (picked_from pick p 0 r.0 (rules p) r.1 r.2 (all_at (λ q. are_picked_from takes starts follows empty kinds pick q 0 (rules q)) parts (all p).0 p (all p).1 picked) k come)) in
            ap (λ o. option_and_then (λ rule. rule_at rules may_open rule d) o) (ap (λ n. slice_get (rules p) n) same ∙ r.2)
            ∙ stands d r.1 r.3 ∙ ap (λ x. Some x) (sym r.4);
      }
