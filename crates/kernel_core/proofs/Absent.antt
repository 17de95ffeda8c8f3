-- What isn't there can't be taken out.
use Rattle.std.proofs.Common.{◌≡◌, refl, ap, Bool, true, false, List, [], ◌∷◌}
use Rattle.std.specs.declared.option.Option.TheVariants.{None, Some}
use Rattle.std.specs.Map.{lookup, remove_entry}

module _ {K X : Type 0} (test : K → Bool) where
  absent_by : (e : K × X) (es : List (K × X)) (b : Bool) → test e.0 ≡ b → lookup test (e ∷ es) ≡ None
      → (lookup test es ≡ None → remove_entry test es ≡ es) → remove_entry test (e ∷ es) ≡ e ∷ es
  absent_by e es true t h ih = absurd (let no : Some e.1 ≡ None = rw t at h in cc)
  absent_by e es false t h ih = rw t (ap (λ l. e ∷ l) (ih (rw t at h)))

  pub remove_absent : (es : List (K × X)) → lookup test es ≡ None → remove_entry test es ≡ es
  remove_absent [] h = refl
  remove_absent (e ∷ es) h = absent_by e es (test e.0) refl h (remove_absent es)
