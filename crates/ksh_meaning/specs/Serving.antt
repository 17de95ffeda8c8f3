-- A closure that does a builtin's tasks. It is handed the rest of a shell, of which the builtin knows nothing, and the state.
use Rattle.std.specs.Prelude.{◌≡◌, ◌≤◌, ℕ, Result, Ok, Err, IfOk, refl}
use Rattle.std.proofs.Common.{arith, ◌∙◌}
use Rattle.std.specs.Fn.{Mut, Called}
use Rattle.std.specs.Borrow.{MutBor}
use Rattle.kernel_ask.specs.declared.ask.Answer.{Answer}
use Rattle.shell_state.specs.declared.state.ShellState.{ShellState}
use Rattle.shell_state.specs.declared.state.Flow.{Flow}
use Rattle.shell_state.specs.declared.state.Stop.{Stop}
use Rattle.shell_state.specs.declared.state.Stop.TheVariants as stop
use Rattle.shell_state.specs.declared.task.Task.{Task}
use Rattle.shell_state.specs.declared.task.Task.TheVariants as task
use Rattle.shell_state.specs.declared.task.Told.{Told}
use Rattle.shell_state.specs.declared.task.Told.TheVariants as told
use Rattle.ksh_meaning.specs.Finished.{ended}
use Rattle.ksh_meaning.specs.Tasks.{Tasks, Served, Reached, start, later, reached_on}

-- the telling is one of the task's kind
abbrev pub Answers : Task → Told → Type 0
Answers (task.Ask call) (told.Answered answer) = Unit {0}
Answers (task.Run list) (told.Ran flow) = Unit {0}
Answers (task.Ask call) (told.Ran flow) = ⊥
Answers (task.Run list) (told.Answered answer) = ⊥

-- an answer was told, or a flow
abbrev pub IsAnswered : Told → Type 0
IsAnswered (told.Answered answer) = Unit {0}
IsAnswered (told.Ran flow) = ⊥

abbrev pub IsRan : Told → Type 0
IsRan (told.Answered answer) = ⊥
IsRan (told.Ran flow) = Unit {0}

-- what is told of a list that was run, and of an ask
abbrev pub as_ran : Result Flow Stop → Result Told Stop
as_ran (Ok flow) = Ok (told.Ran flow)
as_ran (Err e) = Err e

abbrev pub as_answered : Result Answer Stop → Result Told Stop
as_answered (Ok answer) = Ok (told.Answered answer)
as_answered (Err e) = Err e

abbrev pub Ctx : Type 0 → Type 0 → Type 1
Ctx C S = Mut C (MutBor S × (MutBor ShellState × (Task × Unit {0}))) (Result Told Stop × (MutBor S × (MutBor ShellState × Unit {0})))

module _ {C S : Type 0} (g : Ctx C S) where
  -- a call of f at a `&mut` to the rest, one to s and the task may give r and leave f' and s'
  pub record Performs (f : C × S) (s : ShellState) (t : Task) (r : Result Told Stop) (f' : C × S) (s' : ShellState) : Type 0 where
    pub rest : MutBor S
    pub holds : rest.now ≡ f.1
    pub shown : MutBor ShellState
    pub shows : shown.now ≡ s
    pub rest_left : MutBor S
    pub left : MutBor ShellState
    pub called : Called g f.0 (rest, (shown, (t, tt))) (r, (rest_left, (left, tt))) f'.0
    pub hands : rest_left.now ≡ f'.1
    pub leaves : left.now ≡ s'

  -- the task was done in that state by a call of f, or there was no memory to call it
  pub data Did (f : C × S) (q : ShellState × Task) (x : Result (ShellState × Told) Stop) (f' : C × S) : Type 0 where
    called : (r : Result Told Stop) (s' : ShellState) → Performs f q.0 q.1 r f' s' → x ≡ ended s' r → Did f q x f'
    uncalled : x ≡ Err stop.Memory → f' ≡ f → Did f q x f'

  -- the tasks were done by calls of f
  abbrev pub ServedBy : {A : Type 0} → C × S → Tasks (ShellState × Task) (ShellState × Told) A → Result A Stop → C × S → Type 0
  ServedBy f tasks r f' = Served Did stop.Memory f tasks r f'

  -- f may be called, now and after each of its calls, at each state of this level and of at most this budget; it raises no budget, changes no level, and answers its task
  pub record Serves (level budget : ℕ) (f : C × S) : Type 0 where
    pub callable : (m : C × S) → Reached Did f m → (q : MutBor S) (p : MutBor ShellState) (t : Task) → q.now ≡ m.1 → p.now.budget ≤ budget → p.now.level ≡ level → g.pre m.0 (q, (p, (t, tt)))
    pub levels : (m m' : C × S) (s s' : ShellState) (t : Task) (r : Result Told Stop) → Reached Did f m → Performs m s t r m' s' → s'.level ≡ s.level
    pub keeps : (m m' : C × S) (s s' : ShellState) (t : Task) (r : Result Told Stop) → Reached Did f m → Performs m s t r m' s' → s'.budget ≤ s.budget
    pub answers : (m m' : C × S) (s s' : ShellState) (t : Task) (x : Told) → Reached Did f m → Performs m s t (Ok x) m' s' → Answers t x

  pub reached_by : {f m x : C × S} {s s' : ShellState} {t : Task} {r : Result Told Stop} → Performs f s t r m s' → Reached Did m x → Reached Did f x
  reached_by {s} {s'} {t} {r} p h = reached_on Did {q = (s, t)} (called r s' p refl) h

  pub serves_on : {k l b c : ℕ} {f m : C × S} {s mid : ShellState} {t : Task} {r : Result Told Stop} → Performs f s t r m mid → c ≤ b → l ≡ k → Serves k b f → Serves l c m
  serves_on p le same h = record {
    callable = λ x reached w q t at below level. h.callable x (reached_by p reached) w q t at (omega arith) (level ∙ same);
    levels = λ x x' s s' t r reached. h.levels x x' s s' t r (reached_by p reached);
    keeps = λ x x' s s' t r reached. h.keeps x x' s s' t r (reached_by p reached);
    answers = λ x x' s s' t y reached. h.answers x x' s s' t y (reached_by p reached);
  }

  pub answers_each : {l b : ℕ} {f m : C × S} {s mid : ShellState} {t : Task} {r : Result Told Stop} → Serves l b f → Performs f s t r m mid → IfOk r (λ x. Answers t x)
  answers_each {r = Ok x} h p = h.answers _ _ _ _ _ _ start p
  answers_each {r = Err e} h p = tt

  pub serves_within : {k l b c : ℕ} {f : C × S} → c ≤ b → l ≡ k → Serves k b f → Serves l c f
  serves_within le same h = record {
    callable = λ x reached w q t at below level. h.callable x reached w q t at (omega arith) (level ∙ same);
    levels = h.levels;
    keeps = h.keeps;
    answers = h.answers;
  }
