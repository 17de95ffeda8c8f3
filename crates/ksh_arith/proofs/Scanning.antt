-- Where a bracket closes, and the parts of a path.
use Rattle.std.proofs.Math.Nat.{suc-ne-zero}
use Rattle.std.proofs.Common.{◌≡◌, ◌∙◌, ap, sym, refl, arith, ℕ, zero, suc, ◌+◌, ◌-◌, ◌<◌, List, [], ◌∷◌, ◌++◌, Option, Some, None, Ok, length}
use Rattle.arith_tree.specs.declared.expr.ArithPart.{ArithPart}
use Rattle.ksh_arith.specs.declared.fault.ArithRefused.{ArithRefused}
use Rattle.ksh_arith.specs.declared.fault.ArithRefused.TheVariants as refused
use Rattle.ksh_arith.specs.Grammar.{Fails, bracket_end, end_behind, inner_after, one_on, part_read, parts_read, parts_on, higher}

-- a place that lies so many bytes on
abbrev pub ahead : ℕ → Option ℕ → Option ℕ
ahead n None = None
ahead n (Some m) = Some (n + m)

one_ahead : (at : ℕ) (o : Option ℕ) → ahead at (one_on o) ≡ ahead (at + 1) o
one_ahead at None = refl
one_ahead at (Some m) = let e : at + (m + 1) ≡ at + 1 + m = omega arith in ap Some e

pub bracket_goes : (at inner i b : ℕ) (bs : List ℕ) → inner_after b inner ≡ Some i → ahead at (bracket_end (b ∷ bs) inner) ≡ ahead (at + 1) (bracket_end bs i)
unfolding bracket_end
bracket_goes at inner i b bs e = ap (λ o. ahead at (end_behind (bracket_end bs) o)) e ∙ one_ahead at (bracket_end bs i)

pub bracket_closes : (at inner b : ℕ) (bs : List ℕ) → inner_after b inner ≡ None → ahead at (bracket_end (b ∷ bs) inner) ≡ Some at
unfolding bracket_end
bracket_closes at inner b bs e = let none : at + 0 ≡ at = omega arith in ap (λ o. ahead at (end_behind (bracket_end bs) o)) e ∙ ap Some none

pub bracket_open : (at inner : ℕ) (text : List ℕ) → length text ≡ 0 → ahead at (bracket_end text inner) ≡ None
unfolding bracket_end
bracket_open at inner [] e = refl
bracket_open at inner (b ∷ bs) e = absurd (suc-ne-zero (length bs) e)

pub no_ahead : (o : Option ℕ) → ahead 0 o ≡ o
no_ahead None = refl
no_ahead (Some n) = let e : 0 + n ≡ n = omega arith in ap Some e

module _ (d : ℕ) (parts : List ArithPart) (height : ℕ) (text : List ℕ) where
  pub parts_end : (left : ℕ) → part_read d text ≡ Ok None → parts_read left d parts height text ≡ Ok ((parts, height), text)
  unfolding parts_read
  parts_end zero e = refl
  parts_end (suc n) e = ap (parts_on (parts_read n d) parts height text) e

  pub parts_more : (left : ℕ) (r : ArithPart × List ℕ) → 0 < left → part_read d text ≡ Ok (Some r) → parts_read left d parts height text ≡ parts_read (left - 1) d (parts ++ r.0 ∷ []) (higher r.0 height) r.1
  unfolding parts_read
  parts_more zero r some e = absurd (let f : ⊥ = omega (arith, some) in f)
  parts_more (suc n) r some e = let less : suc n - 1 ≡ n = omega arith in
      ap (parts_on (parts_read n d) parts height text) e ∙ ap (λ m. parts_read m d (parts ++ r.0 ∷ []) (higher r.0 height) r.1) (sym less)

  pub parts_refused : (left : ℕ) (e : ArithRefused) → 0 < left → Fails e (part_read d text) → Fails e (parts_read left d parts height text)
  unfolding parts_read
  parts_refused zero e some h = absurd (let f : ⊥ = omega (arith, some) in f)
  parts_refused (suc n) refused.Memory some h = tt
  parts_refused (suc n) (refused.Bad at) some h = ap (parts_on (parts_read n d) parts height text) h
  parts_refused (suc n) (refused.TooDeep at) some h = ap (parts_on (parts_read n d) parts height text) h

  pub parts_none : (left : ℕ) → left ≡ 0 → parts_read left d parts height text ≡ Ok ((parts, height), text)
  unfolding parts_read
  parts_none zero e = refl
  parts_none (suc n) e = absurd (suc-ne-zero n e)
