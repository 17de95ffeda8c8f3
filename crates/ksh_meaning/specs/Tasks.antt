-- What a part of a shell does through a closure that it is handed: it asks, is told, and goes on by that.
use Rattle.std.specs.Prelude.{◌≡◌, Result, Ok, Err}
use Rattle.std.proofs.Common.{subst}
use Rattle.ksh_meaning.specs.Prog.{Prog, Done, and_then}

pub data Tasks (Q R A : Type 0) : Type 0 where
  Ends : A → Tasks Q R A
  Asks : Q → (R → Tasks Q R A) → Tasks Q R A

-- one after the other
abbrev pub followed_by : {Q R A B : Type 0} → Tasks Q R A → (A → Tasks Q R B) → Tasks Q R B
followed_by (Ends a) k = k a
followed_by (Asks q go) k = Asks q (λ r. followed_by (go r) k)

-- what the tasks do in a shell, where `does` is what one of them does
abbrev pub doing : {Q R A : Type 0} → (Q → Prog R) → Tasks Q R A → Prog A
doing does (Ends a) = Done a
doing does (Asks q go) = and_then (does q) (λ r. doing does (go r))

-- The closure is seen as a relation: in f, asked q, it may answer r and leave f'. Where it answers an error, the
-- part of the shell that asked gives it on.
module _ {C Q R E : Type 0} (step : C → Q → Result R E → C → Type 0) where
  -- what calls of the closure lead to
  pub data Reached (f : C) : C → Type 0 where
    start : Reached f f
    later : {m m' : C} {q : Q} {r : Result R E} → Reached f m → step m q r m' → Reached f m'

  pub reached_on : {f m x : C} {q : Q} {r : Result R E} → step f q r m → Reached m x → Reached f x
  reached_on p start = later start p
  reached_on p (later h q) = later (reached_on p h) q

-- `lost` is the error of lost memory, which may come at any time
module _ {C Q R E : Type 0} (step : C → Q → Result R E → C → Type 0) (lost : E) where
  -- the tasks were done one after another, and f' is left; where memory ran out, a front of them
  pub data Served {A : Type 0} : C → Tasks Q R A → Result A E → C → Type 0 where
    ended : {f : C} {a : A} → Served f (Ends a) (Ok a) f
    no_memory : {f : C} {tasks : Tasks Q R A} → Served f tasks (Err lost) f
    stopped : {f f' : C} {q : Q} {go : R → Tasks Q R A} {e : E} → step f q (Err e) f' → Served f (Asks q go) (Err e) f'
    more : {f m f' : C} {q : Q} {go : R → Tasks Q R A} {r : R} {x : Result A E} → step f q (Ok r) m → Served m (go r) x f' → Served f (Asks q go) x f'

  pub served_end : {A : Type 0} {f : C} {a b : A} → a ≡ b → Served f (Ends a) (Ok b) f
  served_end {f} {a} e = subst (λ z. Served f (Ends a) (Ok z) f) e ended

  -- tasks and what follows them
  pub served_then : {A B : Type 0} {f m f' : C} {tasks : Tasks Q R A} {a : A} {x : Result B E} (k : A → Tasks Q R B) → Served f tasks (Ok a) m → Served m (k a) x f' → Served f (followed_by tasks k) x f'
  served_then k ended h = h
  served_then k (more s t) h = more s (served_then k t h)

  -- tasks that ended the whole
  pub served_stop : {A B : Type 0} {f f' : C} {tasks : Tasks Q R A} {e : E} (k : A → Tasks Q R B) → Served f tasks (Err e) f' → Served f (followed_by tasks k) (Err e) f'
  served_stop k no_memory = no_memory
  served_stop k (stopped s) = stopped s
  served_stop k (more s t) = more s (served_stop k t)

  -- whatever serves what is left from m on serves the whole from f on
  pub record Left {A : Type 0} (f m : C) (whole rest : Tasks Q R A) : Type 0 where
    pub goes : (x : Result A E) (f' : C) → Served m rest x f' → Served f whole x f'

  pub left_all : {A : Type 0} (f : C) (whole : Tasks Q R A) → Left f f whole whole
  left_all f whole = record { goes = λ x f' h. h }

  -- the next part was done
  pub left_on : {A B : Type 0} {f m m' : C} {whole : Tasks Q R B} {tasks : Tasks Q R A} {a : A} (k : A → Tasks Q R B) → Left f m whole (followed_by tasks k) → Served m tasks (Ok a) m' → Left f m' whole (k a)
  left_on k h s = record { goes = λ x f' t. h.goes x f' (served_then k s t) }

  -- the next part ended the whole
  pub left_stop : {A B : Type 0} {f m m' : C} {whole : Tasks Q R B} {tasks : Tasks Q R A} {e : E} (k : A → Tasks Q R B) → Left f m whole (followed_by tasks k) → Served m tasks (Err e) m' → Served f whole (Err e) m'
  left_stop {m'} {e} k h s = h.goes (Err e) m' (served_stop k s)
