-- What a shell may do, as a tree: it asks and goes on by the answer, ends with a value, or has spent its budget.
use Rattle.std.specs.Prelude.{◌≡◌, List, [], ◌∷◌}
use Rattle.kernel_ask.specs.declared.ask.Ask.{Ask}
use Rattle.kernel_ask.specs.declared.ask.Answer.{Answer}
use Rattle.kernel_ask.specs.declared.ask.Entry.{Entry}
use Rattle.shell_state.specs.declared.start.Start.{Start}

pub data Prog (A : Type 0) : Type 0 where
  Done : A → Prog A
  Spent : Prog A
  Asks : Ask Start → (Answer → Prog A) → Prog A

-- one after the other; where the first has spent the budget, so has the whole
abbrev pub and_then : {A B : Type 0} → Prog A → (A → Prog B) → Prog B
and_then (Done a) k = k a
and_then Spent k = Spent
and_then (Asks c go) k = Asks c (λ a. and_then (go a) k)

-- these entries lead from p to q: p's asks are theirs, and q is left
unfoldable pub Leads : {A : Type 0} → Prog A → List (Entry Start) → Prog A → Type 0
Leads p [] q = p ≡ q
Leads (Done a) (e ∷ es) q = ⊥
Leads Spent (e ∷ es) q = ⊥
Leads (Asks c go) (e ∷ es) q = (c ≡ e.ask) × Leads (go e.answer) es q

-- what a program is, fed a list of answers: its asks that were answered, the answers left, and what is left of it
pub record Fed (A : Type 0) : Type 0 where
  pub asks : List (Ask Start)
  pub left : List Answer
  pub rest : Prog A

unfoldable pub feed : {A : Type 0} → Prog A → List Answer → Fed A
feed (Done a) answers = record { asks = []; left = answers; rest = Done a }
feed Spent answers = record { asks = []; left = answers; rest = Spent }
feed (Asks c go) [] = record { asks = []; left = []; rest = Asks c go }
feed (Asks c go) (answer ∷ answers) =
    let more = feed (go answer) answers in record { asks = c ∷ more.asks; left = more.left; rest = more.rest }
