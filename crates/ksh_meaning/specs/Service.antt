-- What tasks that were done by a closure say of a transcript that it holds.
use Rattle.std.specs.Prelude.{◌≡◌, ℕ, refl, Result, Ok, Err}
use Rattle.std.proofs.Common.{◌∙◌, subst, sym, ap}
use Rattle.std.specs.Fn.{Called}
use Rattle.std.specs.Borrow.{MutBor}
use Rattle.std.proofs.Math.Nat.{le_refl}
use Rattle.shell_state.specs.declared.state.ShellState.{ShellState}
use Rattle.shell_state.specs.declared.state.Flow.{Flow}
use Rattle.shell_state.specs.declared.state.Stop.{Stop}
use Rattle.shell_state.specs.declared.state.Stop.TheVariants as stop
use Rattle.shell_state.specs.declared.task.Task.{Task}
use Rattle.shell_state.specs.declared.task.Told.{Told}
use Rattle.ksh_meaning.specs.Prog.{Prog}
use Rattle.ksh_meaning.specs.Tasks.{Tasks, doing, Served, Reached, start, later}
use Rattle.ksh_meaning.specs.Tasks as by
use Rattle.ksh_meaning.specs.Finished.{Done_so_far, Means, ended}
use Rattle.ksh_meaning.specs.Mean.{Runs, perform}
use Rattle.ksh_meaning.specs.Serving.{Ctx, Performs, Did, called, uncalled}
use Rattle.ksh_meaning.specs.Laws.{means_then, means_stop, means_done, means_no_memory, means_bound}

-- ---- over any relation

module _ {C Q R E : Type 0} (step : C → Q → Result R E → C → Type 0) (lost : E) where
  -- what each call relates is related along all
  module _ (P : C → C → Type 0) (none : (m : C) → P m m) (join : (a b c : C) → P a b → P b c → P a c) (each : (m m' : C) (q : Q) (r : Result R E) → step m q r m' → P m m') where
    pub reached_joins : {f m : C} → Reached step f m → P f m
    reached_joins {f} start = none f
    reached_joins (later h s) = join _ _ _ (reached_joins h) (each _ _ _ _ s)

    pub served_joins : {A : Type 0} {f f' : C} {tasks : Tasks Q R A} {x : Result A E} → Served step lost f tasks x f' → P f f'
    served_joins (by.ended {f}) = none f
    served_joins (by.no_memory {f}) = none f
    served_joins (by.stopped s) = each _ _ _ _ s
    served_joins (by.more s h) = join _ _ _ (each _ _ _ _ s) (served_joins h)

-- where each call does its task, the tasks are done
module _ {C Q R : Type 0} (step : C → Q → Result R Stop → C → Type 0) (does : ℕ → Q → Prog R) (done : C → Done_so_far) (limit : C → ℕ)
    (calls : (m m' : C) (q : Q) (r : Result R Stop) → step m q r m' → Means (limit m) (done m) (done m') (λ n. does n q) r)
    (bound : (m m' : C) (q : Q) (r : Result R Stop) → step m q r m' → limit m' ≡ limit m) where
  after : {A : Type 0} → (R → Tasks Q R A) → ℕ → R → Prog A
  after go n r = doing (does n) (go r)

  pub served_does : {A : Type 0} {f f' : C} {tasks : Tasks Q R A} {x : Result A Stop} → Served step stop.Memory f tasks x f' → Means (limit f) (done f) (done f') (λ n. doing (does n) tasks) x
  unfolding after
  served_does (by.ended {f} {a}) = means_done (limit f) (done f) a
  served_does (by.no_memory {f} {tasks}) = means_no_memory (limit f) (done f) (λ n. doing (does n) tasks)
  served_does (by.stopped {q} {go} s) = means_stop (λ n. does n q) (after go) (calls _ _ _ _ s)
  served_does (by.more {f} {q} {go} s h) = means_then (λ n. does n q) (after go) (le_refl (limit f)) (calls _ _ _ _ s) (means_bound (bound _ _ _ _ s) (served_does h))

-- ---- over a closure that is handed the rest of a shell

module _ {C S : Type 0} (g : Ctx C S) where
  -- what each call relates, and what no call does too, is related by what was done
  pub did_each : (P : C × S → C × S → Type 0) → ((m : C × S) → P m m) → ((m m' : C × S) (s s' : ShellState) (t : Task) (r : Result Told Stop) → Performs g m s t r m' s' → P m m')
      → (m m' : C × S) (q : ShellState × Task) (x : Result (ShellState × Told) Stop) → Did g m q x m' → P m m'
  did_each P none each m m' q x (called r s' p e) = each m m' q.0 s' q.1 r p
  did_each P none each m m' q x (uncalled e same) = subst (λ z. P m z) (sym same) (none m)

  -- what each call keeps is kept
  module _ {X : Type 0} (same : C × S → X) (kept : (m m' : C × S) (s s' : ShellState) (t : Task) (r : Result Told Stop) → Performs g m s t r m' s' → same m' ≡ same m) where
    did_keeps : (m m' : C × S) (q : ShellState × Task) (x : Result (ShellState × Told) Stop) → Did g m q x m' → same m' ≡ same m
    did_keeps = did_each (λ a b. same b ≡ same a) (λ m. refl) kept

    pub reached_keeps : {f m : C × S} → Reached (Did g) f m → same m ≡ same f
    reached_keeps h = reached_joins (Did g) stop.Memory (λ a b. same b ≡ same a) (λ m. refl) (λ a b c p q. q ∙ p) did_keeps h

    pub served_keeps : {A : Type 0} {f f' : C × S} {tasks : Tasks (ShellState × Task) (ShellState × Told) A} {x : Result A Stop} → Served (Did g) stop.Memory f tasks x f' → same f' ≡ same f
    served_keeps h = served_joins (Did g) stop.Memory (λ a b. same b ≡ same a) (λ m. refl) (λ a b c p q. q ∙ p) did_keeps h

  -- what each call leaves is there after each
  module _ (I : C × S → Type 0) (each : (m m' : C × S) (s s' : ShellState) (t : Task) (r : Result Told Stop) → Performs g m s t r m' s' → I m') where
    did_has : (m m' : C × S) (q : ShellState × Task) (x : Result (ShellState × Told) Stop) → Did g m q x m' → I m → I m'
    did_has = did_each (λ a b. I a → I b) (λ m i. i) (λ m m' s s' t r p i. each m m' s s' t r p)

    pub reached_has : {f m : C × S} → I f → Reached (Did g) f m → I m
    reached_has i h = reached_joins (Did g) stop.Memory (λ a b. I a → I b) (λ m i. i) (λ a b c p q i. q (p i)) did_has h i

    pub served_has : {A : Type 0} {f f' : C × S} {tasks : Tasks (ShellState × Task) (ShellState × Told) A} {x : Result A Stop} → I f → Served (Did g) stop.Memory f tasks x f' → I f'
    served_has i h = served_joins (Did g) stop.Memory (λ a b. I a → I b) (λ m i. i) (λ a b c p q i. q (p i)) did_has h i

  -- where each call does its task, the tasks are done
  module _ (runs : ℕ → Runs) (done : C × S → Done_so_far) (limit : C × S → ℕ)
      (calls : (m m' : C × S) (s s' : ShellState) (t : Task) (r : Result Told Stop) → Performs g m s t r m' s' → Means (limit m) (done m) (done m') (λ n. perform (runs n) (s, t)) (ended s' r))
      (bound : (m m' : C × S) (s s' : ShellState) (t : Task) (r : Result Told Stop) → Performs g m s t r m' s' → limit m' ≡ limit m) where
    did_means : (m m' : C × S) (q : ShellState × Task) (x : Result (ShellState × Told) Stop) → Did g m q x m' → Means (limit m) (done m) (done m') (λ n. perform (runs n) q) x
    did_means m m' q x (called r s' p e) = subst (λ y. Means (limit m) (done m) (done m') (λ n. perform (runs n) q) y) (sym e) (calls m m' q.0 s' q.1 r p)
    did_means m m' q x (uncalled e same) =
        subst (λ y. Means (limit m) (done m) (done m') (λ n. perform (runs n) q) y) (sym e) (subst (λ z. Means (limit m) (done m) (done z) (λ n. perform (runs n) q) (Err stop.Memory)) (sym same) (means_no_memory (limit m) (done m) (λ n. perform (runs n) q)))

    pub served_means : {A : Type 0} {f f' : C × S} {tasks : Tasks (ShellState × Task) (ShellState × Told) A} {x : Result A Stop} → Served (Did g) stop.Memory f tasks x f' → Means (limit f) (done f) (done f') (λ n. doing (perform (runs n)) tasks) x
    served_means h = served_does (Did g) (λ n. perform (runs n)) done limit did_means (did_keeps limit bound) h

-- what each call relates in the rest that it is handed is related along all
module _ {C S : Type 0} {g : Ctx C S} where
  pub served_rest : {A : Type 0} {f f' : C × S} {tasks : Tasks (ShellState × Task) (ShellState × Told) A} {x : Result A Stop} → Served (Did g) stop.Memory f tasks x f'
      → (R : S → S → Type 0) → ((m : S) → R m m) → ((a b c : S) → R a b → R b c → R a c)
      → ((m m' : C) (w w' : MutBor S) (p p' : MutBor ShellState) (t : Task) (r : Result Told Stop) → Called g m (w, (p, (t, tt))) (r, (w', (p', tt))) m' → R w.now w'.now)
      → R f.1 f'.1
  served_rest h R none join each =
      served_joins (Did g) stop.Memory (λ a b. R a.1 b.1) (λ m. none m.1) (λ a b c. join a.1 b.1 c.1)
      (did_each g (λ a b. R a.1 b.1) (λ m. none m.1)
      (λ m m' s s' t r p. subst (λ x. R x m'.1) p.holds (subst (λ x. R p.rest.now x) p.hands (each m.0 m'.0 p.rest p.rest_left p.shown p.left t r p.called)))) h
