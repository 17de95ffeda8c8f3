-- A value that is set twice.
use Rattle.std.proofs.Common.{◌≡◌, refl, ap, Bool, true, false, List, [], ◌∷◌}
use Rattle.std.specs.declared.option.Option.TheVariants.{Some}
use Rattle.std.specs.Map.{lookup, set_value}

module _ {K X : Type 0} (test : K → Bool) where
  twice_by : (e : K × X) (es : List (K × X)) (v w : X) (b : Bool) → test e.0 ≡ b
      → set_value test (set_value test es v) w ≡ set_value test es w
      → set_value test (set_value test (e ∷ es) v) w ≡ set_value test (e ∷ es) w
  twice_by e es v w true t ih = rw (t, t) refl
  twice_by e es v w false t ih = rw (t, t) (ap (λ l. e ∷ l) ih)

  pub set_twice : (es : List (K × X)) (v w : X) → set_value test (set_value test es v) w ≡ set_value test es w
  set_twice [] v w = refl
  set_twice (e ∷ es) v w = twice_by e es v w (test e.0) refl (set_twice es v w)

  found_by : (e : K × X) (es : List (K × X)) (u v : X) (b : Bool) → test e.0 ≡ b → lookup test (e ∷ es) ≡ Some u
      → (lookup test es ≡ Some u → lookup test (set_value test es v) ≡ Some v)
      → lookup test (set_value test (e ∷ es) v) ≡ Some v
  found_by e es u v true t h ih = rw (t, t) refl
  found_by e es u v false t h ih = rw (t, t) (ih (rw t at h))

  pub set_found : (es : List (K × X)) (u v : X) → lookup test es ≡ Some u → lookup test (set_value test es v) ≡ Some v
  set_found [] u v h = absurd cc
  set_found (e ∷ es) u v h = found_by e es u v (test e.0) refl h (set_found es u v)
