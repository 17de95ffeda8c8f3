-- What symbols that read tokens may begin with.
use Rattle.std.specs.Prelude.{◌≡◌, Bool, true, false, ◌&&◌, ◌||◌, List, [], ◌∷◌, ◌++◌}
use Rattle.std.proofs.Common.{◌⊎◌, inl, inr, refl, sym, ◌∙◌, ap}
use Rattle.ksh_grammar.specs.declared.symbol.Symbol.{Symbol}
use Rattle.ksh_grammar.specs.declared.symbol.Symbol.TheVariants.{Token, Part, Make}
use Rattle.ksh_grammar.specs.Predict.{may_be_empty, may_begin, may_come, Fits}

pub both : (a b : Bool) → a ≡ true → b ≡ true → (a && b) ≡ true
both true b p q = q
both false b p q = p

pub and_left : (a b : Bool) → (a && b) ≡ true → a ≡ true
and_left true b h = refl
and_left false b h = h

pub and_right : (a b : Bool) → (a && b) ≡ true → b ≡ true
and_right true b h = h
and_right false b h = cc

pub or_left : (a b : Bool) → a ≡ true → (a || b) ≡ true
or_left true b h = refl
or_left false b h = cc

pub or_right : (a b : Bool) → b ≡ true → (a || b) ≡ true
or_right true b h = refl
or_right false b h = h

pub or_cases : (a b : Bool) → (a || b) ≡ true → (a ≡ true) ⊎ (b ≡ true)
or_cases true b h = inl h
or_cases false b h = inr h

-- either of two, each with its own way
pub or_to : {X : Type 0} (a b : Bool) → (a || b) ≡ true → (a ≡ true → X) → (b ≡ true → X) → X
or_to true b h f g = f h
or_to false b h f g = g h

or_none : (a : Bool) → a ≡ (a || false)
or_none true = refl
or_none false = refl

none_after : (a b : Bool) → (a || (b && false)) ≡ a
none_after true b = refl
none_after false true = refl
none_after false false = refl

one_by_one : (s e f g a : Bool) → (s || (e && (f || (g && a)))) ≡ ((s || (e && f)) || ((e && g) && a))
one_by_one true e f g a = refl
one_by_one false true f g a = refl
one_by_one false false f g a = refl

and_one_by_one : (e f g : Bool) → (e && (f && g)) ≡ ((e && f) && g)
and_one_by_one true f g = refl
and_one_by_one false f g = refl

module _ {C P M K : Type 0} (takes : C → K → Bool) (starts follows : P → K → Bool) (empty : P → Bool) where
  pub empty_append : (A B : List (Symbol C P M)) → may_be_empty takes starts follows empty (A ++ B) ≡ (may_be_empty takes starts follows empty A && may_be_empty takes starts follows empty B)
  empty_append [] B = refl
  empty_append (Token c ∷ A) B = refl
  empty_append (Part p d ∷ A) B = ap (λ x. empty p && x) (empty_append A B) ∙ and_one_by_one (empty p) (may_be_empty takes starts follows empty A) (may_be_empty takes starts follows empty B)
  empty_append (Make m ∷ A) B = empty_append A B

  -- the beginnings of one after the other, and what comes after them
  pub come_append : (A B : List (Symbol C P M)) (after : K → Bool) (c : K) → may_come takes starts follows empty (A ++ B) after c ≡ may_come takes starts follows empty A (may_come takes starts follows empty B after) c
  come_append [] B after c = refl
  come_append (Token d ∷ A) B after c = refl
  come_append (Part p d ∷ A) B after c =
      sym (one_by_one (starts p c) (empty p) (may_begin takes starts follows empty (A ++ B) c) (may_be_empty takes starts follows empty (A ++ B)) (after c))
      ∙ ap (λ x. starts p c || (empty p && x)) (come_append A B after c)
      ∙ one_by_one (starts p c) (empty p) (may_begin takes starts follows empty A c) (may_be_empty takes starts follows empty A) (may_come takes starts follows empty B after c)
  come_append (Make m ∷ A) B after c = come_append A B after c

  -- where nothing comes after them, what may come is what they may begin with
  pub come_alone : (A : List (Symbol C P M)) (c : K) → may_come takes starts follows empty A (λ d. false) c ≡ may_begin takes starts follows empty A c
  come_alone A c = none_after (may_begin takes starts follows empty A c) (may_be_empty takes starts follows empty A)

  pub begin_append : (A B : List (Symbol C P M)) (c : K) → may_begin takes starts follows empty (A ++ B) c ≡ may_come takes starts follows empty A (may_begin takes starts follows empty B) c
  begin_append A B c =
      sym (come_alone (A ++ B) c) ∙ come_append A B (λ d. false) c
      ∙ ap (λ x. may_begin takes starts follows empty A c || (may_be_empty takes starts follows empty A && x)) (come_alone B c)

  -- less may come after them
  pub fits_less : (A : List (Symbol C P M)) (f g : K → Bool) → ((c : K) → g c ≡ true → f c ≡ true) → Fits takes starts follows empty A f → Fits takes starts follows empty A g
  fits_less [] f g less h = tt
  fits_less (Token c ∷ A) f g less h = fits_less A f g less h
  fits_less (Part p d ∷ A) f g less h = (
    λ c e. h.0 c (or_to (may_begin takes starts follows empty A c) (may_be_empty takes starts follows empty A && g c) e
        (λ b. or_left (may_begin takes starts follows empty A c) (may_be_empty takes starts follows empty A && f c) b)
        (λ b. or_right (may_begin takes starts follows empty A c) (may_be_empty takes starts follows empty A && f c)
        (both (may_be_empty takes starts follows empty A) (f c) (and_left (may_be_empty takes starts follows empty A) (g c) b) (less c (and_right (may_be_empty takes starts follows empty A) (g c) b))))),
    fits_less A f g less h.1,
  )
  fits_less (Make m ∷ A) f g less h = fits_less A f g less h

  pub fits_append : (A B : List (Symbol C P M)) (after : K → Bool) → Fits takes starts follows empty A (may_come takes starts follows empty B after) → Fits takes starts follows empty B after → Fits takes starts follows empty (A ++ B) after
  fits_append [] B after h k = k
  fits_append (Token c ∷ A) B after h k = fits_append A B after h k
  fits_append (Part p d ∷ A) B after h k = (λ c e. h.0 c (sym (come_append A B after c) ∙ e), fits_append A B after h.1 k)
  fits_append (Make m ∷ A) B after h k = fits_append A B after h k
