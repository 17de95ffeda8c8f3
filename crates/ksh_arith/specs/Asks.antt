-- What arithmetic asks of variables, through a closure that is handed the rest of a shell and its state.
use Rattle.std.specs.Prelude.{◌≡◌, ◌≤◌, ℕ, Result, Ok, Err}
use Rattle.std.specs.Fn.{Mut, Called}
use Rattle.std.specs.Borrow.{MutBor, Bor}
use Rattle.arith_tree.specs.declared.expr.ArithPath.{ArithPath}
use Rattle.ksh_arith.specs.declared.ask.VarAsk.{VarAsk}
use Rattle.ksh_arith.specs.declared.ask.VarAnswer.{VarAnswer}
use Rattle.ksh_arith.specs.declared.fault.NumFault.{NumFault}
use Rattle.ksh_arith.specs.declared.fault.ArithFault.{ArithFault}
use Rattle.ksh_arith.specs.declared.fault.ArithFault.TheVariants as fault

-- what is asked of which variable, while so many texts are being read
pub record Query : Type 0 where
  pub path : ArithPath
  pub ask : VarAsk
  pub depth : ℕ

-- a value or a fault at last, and before it one ask after another, each of which goes on by its answer
pub data Asks (A : Type 0) : Type 0 where
  Ends : Result A NumFault → Asks A
  Ask : Query → (VarAnswer → Asks A) → Asks A

abbrev pub gives : {A : Type 0} → A → Asks A
gives a = Ends (Ok a)

-- one after the other, unless the first has a fault
unfoldable pub then_by : {A B : Type 0} → Asks A → (A → Asks B) → Asks B
then_by (Ends (Ok a)) k = k a
then_by (Ends (Err e)) k = Ends (Err e)
then_by (Ask q go) k = Ask q (λ r. then_by (go r) k)

-- an end, as the evaluation answers it
abbrev pub ended_as : {A E : Type 0} → Result A NumFault → Result A (ArithFault E)
ended_as (Ok a) = Ok a
ended_as (Err e) = Err (fault.Value e)

-- The closure is seen as a relation: in f, asked q, it may answer r and leave f'.
module _ {C E : Type 0} (step : C → Query → Result VarAnswer E → C → Type 0) where
  -- what calls of the closure lead to
  pub data Reached (f : C) : C → Type 0 where
    start : Reached f f
    later : {m m' : C} {q : Query} {r : Result VarAnswer E} → Reached f m → step m q r m' → Reached f m'

  -- the asks were answered one after another, and f' is left; where a variable was refused or memory ran out, a front of them
  pub data Served {A : Type 0} : C → Asks A → Result A (ArithFault E) → C → Type 0 where
    ended : {f : C} {a : A} → Served f (Ends (Ok a)) (Ok a) f
    failed : {f : C} {e : NumFault} → Served f (Ends (Err e)) (Err (fault.Value e)) f
    no_memory : {f : C} {asks : Asks A} → Served f asks (Err fault.Memory) f
    refused : {f f' : C} {q : Query} {go : VarAnswer → Asks A} {e : E} → step f q (Err e) f' → Served f (Ask q go) (Err (fault.Var e)) f'
    more : {f m f' : C} {q : Query} {go : VarAnswer → Asks A} {r : VarAnswer} {x : Result A (ArithFault E)} → step f q (Ok r) m → Served m (go r) x f' → Served f (Ask q go) x f'

abbrev pub Ctx : Type 0 → Type 0 → Type 0 → Type 0 → Type 1
Ctx C S T E = Mut C (MutBor S × (MutBor T × (Bor ArithPath × (VarAsk × (ℕ × Unit {0}))))) (Result VarAnswer E × (MutBor S × (MutBor T × Unit {0})))

module _ {C S T E : Type 0} (g : Ctx C S T E) where
  -- a call of f, handed the rest and the state, may answer the query with r, and leave f'
  pub record Performs (f : C × (S × T)) (q : Query) (r : Result VarAnswer E) (f' : C × (S × T)) : Type 0 where
    pub rest : MutBor S
    pub holds : rest.now ≡ f.1.0
    pub shown : MutBor T
    pub shows : shown.now ≡ f.1.1
    pub path : Bor ArithPath
    pub names : path.now ≡ q.path
    pub rest_left : MutBor S
    pub left : MutBor T
    pub called : Called g f.0 (rest, (shown, (path, (q.ask, (q.depth, tt))))) (r, (rest_left, (left, tt))) f'.0
    pub hands : rest_left.now ≡ f'.1.0
    pub leaves : left.now ≡ f'.1.1

  -- f may be called with any query, now and after each of its calls
  pub record Serves (f : C × (S × T)) : Type 0 where
    pub callable : (m : C × (S × T)) → Reached Performs f m → (w : MutBor S) (p : MutBor T) (b : Bor ArithPath) (a : VarAsk) (d : ℕ) → w.now ≡ m.1.0 → p.now ≡ m.1.1 → d ≤ 16 → g.pre m.0 (w, (p, (b, (a, (d, tt)))))

  -- the asks were answered by calls of f
  abbrev pub ServedBy : {A : Type 0} → C × (S × T) → Asks A → Result A (ArithFault E) → C × (S × T) → Type 0
  ServedBy f asks r f' = Served Performs f asks r f'
