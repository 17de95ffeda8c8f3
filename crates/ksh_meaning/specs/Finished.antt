-- What a transcript says of a part of a run.
use Rattle.std.specs.Prelude.{◌≡◌, ◌≤◌, ℕ, List, ◌++◌, Option, Some, None, Result, Ok, Err}
use Rattle.kernel_ask.specs.declared.ask.Entry.{Entry}
use Rattle.ksh_meaning.specs.Prog.{Prog, Done, Spent, Leads}
use Rattle.shell_state.specs.declared.start.Start.{Start}
use Rattle.shell_state.specs.declared.state.ShellState.{ShellState}
use Rattle.shell_state.specs.declared.state.Stop.{Stop}
use Rattle.shell_state.specs.declared.state.Stop.TheVariants as stop

-- a transcript, where it is told
abbrev pub Done_so_far : Type 0
Done_so_far = Option (List (Entry Start))

-- more entries, where the transcript is told
abbrev pub plus : Done_so_far → List (Entry Start) → Done_so_far
plus None es = None
plus (Some xs) es = Some (xs ++ es)

-- what was added to a transcript leads from p to q
pub record Added {A : Type 0} (before now : Done_so_far) (p q : Prog A) : Type 0 where
  pub entries : List (Entry Start)
  pub added : now ≡ plus before entries
  pub leads : Leads p entries q

abbrev pub ended : {A : Type 0} → ShellState → Result A Stop → Result (ShellState × A) Stop
ended s (Ok x) = Ok (s, x)
ended s (Err e) = Err e

-- p was done with the result; where memory ran out, a front of it was done
abbrev pub Finished : {A : Type 0} → Done_so_far → Done_so_far → Prog A → Result A Stop → Type 0
Finished before now p (Ok x) = Added before now p (Done x)
Finished before now p (Err stop.Spent) = Added before now p Spent
Finished {A} before now p (Err stop.Memory) = (q : Prog A) × Added before now p q

-- the same at every depth that the budget allows
pub record Means {A : Type 0} (budget : ℕ) (before now : Done_so_far) (p : ℕ → Prog A) (r : Result A Stop) : Type 0 where
  pub at : (n : ℕ) → budget ≤ n → Finished before now (p n) r
