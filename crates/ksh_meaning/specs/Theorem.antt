-- The theorem in the words of answers: a shell is a function of the answers that it gets.
use Rattle.std.specs.Prelude.{◌≡◌, ◌≤◌, ℕ, zero, suc, List, [], ◌∷◌, ◌++◌, map, Option, Some, None, Result, Ok, Err, refl}
use Rattle.std.proofs.Common.{sym, ◌∙◌, ap}
use Rattle.std.proofs.Math.Nat.{le_refl}
use Rattle.kernel_ask.specs.declared.ask.Ask.{Ask}
use Rattle.kernel_ask.specs.declared.ask.Answer.{Answer}
use Rattle.kernel_ask.specs.declared.ask.Entry.{Entry}
use Rattle.ksh_meaning.specs.Prog.{Prog, Done, Spent, Asks, Leads, Fed, feed}
use Rattle.ksh_meaning.specs.Finished.{Done_so_far, plus, Added, Finished, Means}
use Rattle.ksh_meaning.specs.Units.{End}
use Rattle.ksh_meaning.specs.Mean.{Mean, list_of, work}
use Rattle.shell_state.specs.declared.start.Start.{Start}
use Rattle.shell_state.specs.declared.state.ShellState.{ShellState}
use Rattle.shell_state.specs.declared.state.Stop.{Stop}
use Rattle.shell_state.specs.declared.state.Stop.TheVariants as stop
use Rattle.ksh_script.specs.declared.tree.Item.{Item}

abbrev pub calls : List (Entry Start) → List (Ask Start)
calls = map (λ e. e.ask)

abbrev pub answers : List (Entry Start) → List Answer
answers = map (λ e. e.answer)

-- a run that was fed answers made these asks, used up all answers and ended so; where memory ran out, its answered asks are these
abbrev pub FedRun : {A : Type 0} → Fed A → List (Ask Start) → Result A Stop → Type 0
FedRun fed asks (Ok x) = fed ≡ record { asks = asks; left = []; rest = Done x }
FedRun fed asks (Err stop.Spent) = fed ≡ record { asks = asks; left = []; rest = Spent }
FedRun fed asks (Err stop.Memory) = fed.asks ≡ asks

-- what was added to the transcript are the asks of the meaning, fed the answers that were added
pub record Tells (before now : Done_so_far) (list : List Item) (s : ShellState) (r : Result End Stop) : Type 0 where
  pub entries : List (Entry Start)
  pub added : now ≡ plus before entries
  pub run : FedRun (Mean list s (answers entries)) (calls entries) r

-- ---- proofs

pub feed_leads : {A : Type 0} (p q : Prog A) (es : List (Entry Start)) → Leads p es q → feed p (answers es) ≡ record { asks = calls es; left = []; rest = (feed q []).rest }
unfolding Leads feed
feed_leads (Done a) q [] h = rw (← h) refl
feed_leads Spent q [] h = rw (← h) refl
feed_leads (Asks c go) q [] h = rw (← h) refl
feed_leads (Done a) q (e ∷ es) h = absurd h
feed_leads Spent q (e ∷ es) h = absurd h
feed_leads (Asks c go) q (e ∷ es) h = rw (feed_leads (go e.answer) q es h.1, h.0) refl

run_at : {A : Type 0} (p : Prog A) (x y : Done_so_far) (r : Result A Stop) → Finished x y p r → (es : List (Entry Start)) × (y ≡ plus x es) × FedRun (feed p (answers es)) (calls es) r
unfolding feed
run_at p x y (Ok v) f = (f.entries, f.added, feed_leads p (Done v) f.entries f.leads)
run_at p x y (Err stop.Spent) f = (f.entries, f.added, feed_leads p Spent f.entries f.leads)
run_at p x y (Err stop.Memory) f = (f.1.entries, f.1.added, ap (λ fed. fed.asks) (feed_leads p f.0 f.1.entries f.1.leads))

pub tells : {x y : Done_so_far} {list : List Item} {s : ShellState} {r : Result End Stop} → Means s.budget x y (λ n. list_of (work n) list s) r → Tells x y list s r
tells {x} {y} {list} {s} {r} m =
    let w = run_at (list_of (work s.budget) list s) x y r (m.at s.budget (le_refl s.budget)) in
    record { entries = w.0; added = w.1; run = w.2 }
