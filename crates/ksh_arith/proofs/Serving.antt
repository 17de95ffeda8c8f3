-- Asks that were answered one after another.
use Rattle.std.proofs.Math.Seq.{drop-cons}
use Rattle.std.proofs.Common.{◌≡◌, ◌∙◌, ap, ℕ, suc, ◌+◌, ◌<◌, List, ◌∷◌, length, drop, get_or, arith, Result, Ok, Err, subst, sym}
use Rattle.ksh_arith.specs.declared.ask.VarAnswer.{VarAnswer}
use Rattle.ksh_arith.specs.declared.fault.NumFault.{NumFault}
use Rattle.ksh_arith.specs.declared.fault.ArithFault.{ArithFault}
use Rattle.ksh_arith.specs.Asks.{Query, Asks, Ends, then_by, ended_as, Reached, start, later, Served, ended, failed, no_memory, refused, more, Ctx, Performs, Serves}

-- the item at a place, and those after it
pub item_at : {A : Type 0} (xs : List A) (i : ℕ) (x : A) → i < length xs → x ≡ get_or xs i x → drop i xs ≡ x ∷ drop (i + 1) xs
item_at xs i x within is =
    let next : suc i ≡ i + 1 = omega arith in
    drop-cons xs i x within ∙ ap (λ y. y ∷ drop (suc i) xs) (sym is) ∙ ap (λ n. x ∷ drop n xs) next

module _ {C E : Type 0} (step : C → Query → Result VarAnswer E → C → Type 0) where
  pub served_end : {A : Type 0} (f : C) (r : Result A NumFault) → Served step f (Ends r) (ended_as r) f
  served_end f (Ok a) = ended
  served_end f (Err e) = failed

  pub reached_on : {f m x : C} {q : Query} {r : Result VarAnswer E} → step f q r m → Reached step m x → Reached step f x
  reached_on p start = later start p
  reached_on p (later h q) = later (reached_on p h) q

module _ {C E : Type 0} {step : C → Query → Result VarAnswer E → C → Type 0} where
  -- asks and what follows them
  pub served_then : {A B : Type 0} {f m f' : C} {asks : Asks A} {a : A} {x : Result B (ArithFault E)} (k : A → Asks B) → Served step f asks (Ok a) m → Served step m (k a) x f' → Served step f (then_by asks k) x f'
  unfolding then_by
  served_then k ended h = h
  served_then k (more s t) h = more s (served_then k t h)

  -- asks that ended the whole
  pub served_stop : {A B : Type 0} {f f' : C} {asks : Asks A} {e : ArithFault E} (k : A → Asks B) → Served step f asks (Err e) f' → Served step f (then_by asks k) (Err e) f'
  unfolding then_by
  served_stop k failed = failed
  served_stop k no_memory = no_memory
  served_stop k (refused s) = refused s
  served_stop k (more s t) = more s (served_stop k t)

  -- a value that was computed
  pub served_gives : {A : Type 0} {f : C} {a b : A} → a ≡ b → Served step f (Ends (Ok a)) (Ok b) f
  served_gives {f} {a} e = subst (λ x. Served step f (Ends (Ok a)) (Ok x) f) e ended

  pub served_computed : {A : Type 0} {f : C} {r s : Result A NumFault} {x : Result A (ArithFault E)} → r ≡ s → x ≡ ended_as s → Served step f (Ends r) x f
  served_computed {f} {r} {s} e h = subst (λ y. Served step f (Ends r) y f) (sym h) (subst (λ q. Served step f (Ends q) (ended_as s) f) (sym e) (served_end step f s))

module _ {C E : Type 0} (step : C → Query → Result VarAnswer E → C → Type 0) where
  -- whatever serves what is left from m on serves the whole from f on
  pub record Left {A : Type 0} (f m : C) (whole rest : Asks A) : Type 0 where
    pub goes : (x : Result A (ArithFault E)) (f' : C) → Served step m rest x f' → Served step f whole x f'

  pub left_all : {A : Type 0} (f : C) (whole : Asks A) → Left f f whole whole
  left_all f whole = record { goes = λ x f' h. h }

  pub left_on : {A B : Type 0} {f m m' : C} {whole : Asks B} {asks : Asks A} {a : A} (k : A → Asks B) → Left f m whole (then_by asks k) → Served step m asks (Ok a) m' → Left f m' whole (k a)
  left_on k h s = record { goes = λ x f' t. h.goes x f' (served_then k s t) }

  pub left_stop : {A B : Type 0} {f m m' : C} {whole : Asks B} {asks : Asks A} {e : ArithFault E} (k : A → Asks B) → Left f m whole (then_by asks k) → Served step m asks (Err e) m' → Served step f whole (Err e) m'
  left_stop {m'} {e} k h s = h.goes (Err e) m' (served_stop k s)

module _ {C S T E : Type 0} (g : Ctx C S T E) where
  pub serves_on : {f m : C × (S × T)} {q : Query} {r : Result VarAnswer E} → Performs g f q r m → Serves g f → Serves g m
  serves_on p h = record { callable = λ x reached. h.callable x (reached_on (Performs g) p reached) }
