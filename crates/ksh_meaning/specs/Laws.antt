-- Laws of programs.
use Rattle.std.specs.Prelude.{◌≡◌, ℕ, zero, suc, ◌≤◌, List, [], ◌∷◌, ◌++◌, refl, Result, Ok, Err, Bool, Option, Some, None}
use Rattle.std.proofs.Common.{◌+◌, sym, ◌∙◌, ap, subst, append_assoc, append-nil, arith}
use Rattle.kernel_ask.specs.declared.ask.Ask.{Ask}
use Rattle.kernel_ask.specs.declared.ask.Answer.{Answer}
use Rattle.kernel_ask.specs.declared.ask.Entry.{Entry}
use Rattle.kernel_ask.specs.Seen.{more}
use Rattle.ksh_meaning.specs.Prog.{Prog, Done, Spent, Asks, and_then, Leads}
use Rattle.ksh_meaning.specs.Finished.{Done_so_far, plus, Added, Finished, Means}
use Rattle.shell_state.specs.declared.start.Start.{Start}
use Rattle.shell_state.specs.declared.state.Stop.{Stop}
use Rattle.shell_state.specs.declared.state.Stop.TheVariants as stop
use Rattle.shell_state.specs.declared.state.ShellState.{ShellState}
use Rattle.ksh_script.specs.declared.tree.Item.{Item}
use Rattle.ksh_meaning.specs.Units.{asked, put, End, units}
use Rattle.ksh_meaning.specs.Mean.{work, inside}

-- ---- transcripts

pub plus_none : (d : Done_so_far) → d ≡ plus d []
plus_none None = refl
plus_none (Some xs) = ap Some (sym (append-nil xs))

pub plus_plus : (d : Done_so_far) (es fs : List (Entry Start)) → plus (plus d es) fs ≡ plus d (es ++ fs)
plus_plus None es fs = refl
plus_plus (Some xs) es fs = ap Some (append_assoc xs es fs)

pub more_plus : (d : Done_so_far) (c : Ask Start) (a : Answer) → more d c a ≡ plus d (record { ask = c; answer = a } ∷ [])
more_plus None c a = refl
more_plus (Some xs) c a = refl

-- ---- programs

pub leads_on : {A : Type 0} (p q r : Prog A) (es fs : List (Entry Start)) → Leads p es q → Leads q fs r → Leads p (es ++ fs) r
unfolding Leads
leads_on p q r [] fs h k = subst (λ x. Leads x fs r) (sym h) k
leads_on (Done a) q r (e ∷ es) fs h k = absurd h
leads_on Spent q r (e ∷ es) fs h k = absurd h
leads_on (Asks c go) q r (e ∷ es) fs h k = (h.0, leads_on (go e.answer) q r es fs h.1 k)

pub leads_under : {A B : Type 0} (k : A → Prog B) (p q : Prog A) (es : List (Entry Start)) → Leads p es q → Leads (and_then p k) es (and_then q k)
unfolding Leads
leads_under k p q [] h = ap (λ x. and_then x k) h
leads_under k (Done a) q (e ∷ es) h = absurd h
leads_under k Spent q (e ∷ es) h = absurd h
leads_under k (Asks c go) q (e ∷ es) h = (h.0, leads_under k (go e.answer) q es h.1)

pub added_none : {A : Type 0} (before : Done_so_far) (p : Prog A) → Added before before p p
unfolding Leads
added_none before p = record { entries = []; added = plus_none before; leads = refl }

pub added_on : {A : Type 0} {a b c : Done_so_far} {p q r : Prog A} → Added a b p q → Added b c q r → Added a c p r
added_on {a} {b} {c} {p} {q} {r} h k =
    record { entries = h.entries ++ k.entries; added = k.added ∙ ap (λ x. plus x k.entries) h.added ∙ plus_plus a h.entries k.entries; leads = leads_on p q r h.entries k.entries h.leads k.leads }

pub added_under : {A B : Type 0} {a b : Done_so_far} {p q : Prog A} (k : A → Prog B) → Added a b p q → Added a b (and_then p k) (and_then q k)
added_under {a} {b} {p} {q} k h = record { entries = h.entries; added = h.added; leads = leads_under k p q h.entries h.leads }

pub added_one : {A : Type 0} (before : Done_so_far) (c : Ask Start) (go : Answer → Prog A) (x : Answer) → Added before (more before c x) (Asks c go) (go x)
unfolding Leads
added_one before c go x = record { entries = record { ask = c; answer = x } ∷ []; added = more_plus before c x; leads = (refl, refl) }

-- ---- parts of runs

module _ {A B : Type 0} (p : ℕ → Prog A) (k : ℕ → A → Prog B) where
  then_at : (x y z : Done_so_far) (n : ℕ) (a : A) (r : Result B Stop) → Finished x y (p n) (Ok a) → Finished y z (k n a) r → Finished x z (and_then (p n) (k n)) r
  then_at x y z n a (Ok v) m l = added_on (added_under (k n) m) l
  then_at x y z n a (Err stop.Spent) m l = added_on (added_under (k n) m) l
  then_at x y z n a (Err stop.Memory) m l = (l.0, added_on (added_under (k n) m) l.1)

  -- the first part ended with a value, and the next one went on from there
  pub means_then : {b c : ℕ} {x y z : Done_so_far} {a : A} {r : Result B Stop} → c ≤ b → Means b x y p (Ok a) → Means c y z (λ n. k n a) r → Means b x z (λ n. and_then (p n) (k n)) r
  means_then {x} {y} {z} {a} {r} le m l = record { at = λ n h. then_at x y z n a r (m.at n h) (l.at n (omega arith)) }

  stop_at : (x y : Done_so_far) (n : ℕ) (e : Stop) → Finished x y (p n) (Err e) → Finished x y (and_then (p n) (k n)) (Err e)
  stop_at x y n stop.Spent m = added_under (k n) m
  stop_at x y n stop.Memory m = (and_then m.0 (k n), added_under (k n) m.1)

  -- the first part ended the whole
  pub means_stop : {b : ℕ} {x y : Done_so_far} {e : Stop} → Means b x y p (Err e) → Means b x y (λ n. and_then (p n) (k n)) (Err e)
  means_stop {x} {y} {e} m = record { at = λ n h. stop_at x y n e (m.at n h) }

pub means_done : {A : Type 0} (b : ℕ) (x : Done_so_far) (a : A) → Means b x x (λ n. Done a) (Ok a)
means_done b x a = record { at = λ n h. added_none x (Done a) }

pub means_no_memory : {A : Type 0} (b : ℕ) (x : Done_so_far) (p : ℕ → Prog A) → Means b x x p (Err stop.Memory)
means_no_memory b x p = record { at = λ n h. (p n, added_none x (p n)) }

module _ (x : Done_so_far) (w : Item) (s next : ShellState) where
  work_at : (y : Done_so_far) (n : ℕ) (r : Result End Stop) → units 1 s ≡ Done next → suc next.budget ≤ n → ((m : ℕ) → next.budget ≤ m → Finished x y (inside (work m) w next) r) → Finished x y (work n w s) r
  unfolding work
  work_at y zero r e h m = absurd (omega arith)
  work_at y (suc n) r e h m = rw e (m n (omega arith))

  -- a unit and then what is inside is the whole, at every depth that the budget allows
  pub means_work : {y : Done_so_far} {r : Result End Stop} → units 1 s ≡ Done next → s.budget ≡ next.budget + 1 → Means next.budget x y (λ n. inside (work n) w next) r → Means s.budget x y (λ n. work n w s) r
  means_work {y} {r} e f m = record { at = λ n h. work_at y n r e (omega arith) m.at }

-- units that were spent before a part
pub means_units : {B : Type 0} (u b c : ℕ) (x y : Done_so_far) (s next : ShellState) (k : ℕ → ShellState → Prog B) (r : Result B Stop) → c ≤ b → units u s ≡ Done next → Means c x y (λ n. k n next) r → Means b x y (λ n. and_then (units u s) (k n)) r
means_units u b c x y s next k r le e m = rw e (record { at = λ n h. m.at n (omega arith) })

pub means_no_units : {B : Type 0} (u b : ℕ) (x : Done_so_far) (s : ShellState) (k : ℕ → ShellState → Prog B) → units u s ≡ Spent → Means {A = B} b x x (λ n. and_then (units u s) (k n)) (Err stop.Spent)
means_no_units u b x s k e = rw e (record { at = λ n h. added_none x Spent })

module _ (b : ℕ) (x : Done_so_far) (s : ShellState) (e : units 1 s ≡ Spent) where
  none_at : (w : Item) (n : ℕ) → Added x x (work n w s) Spent
  unfolding work
  none_at w zero = added_none x Spent
  none_at w (suc n) = rw e (added_none x Spent)

  pub means_no_work : (w : Item) → Means b x x (λ n. work n w s) (Err stop.Spent)
  means_no_work w = record { at = λ n h. none_at w n }

  pub means_not_asked : (c : Ask Start) → Means b x x (λ n. asked c s) (Err stop.Spent)
  unfolding asked
  means_not_asked c = record { at = λ n h. rw e (added_none x Spent) }

-- an ask whose unit has been spent
pub means_put : (b : ℕ) (x y : Done_so_far) (c : Ask Start) (s : ShellState) (a : Answer) → y ≡ more x c a → Means b x y (λ n. put c s) (Ok (s, a))
unfolding put
means_put b x y c s a h = record { at = λ n below. rw h (added_one x c (λ a. Done (s, a)) a) }

module _ (b : ℕ) (x y : Done_so_far) (c : Ask Start) (s next : ShellState) (e : units 1 s ≡ Done next) where
  pub means_asked : (a : Answer) → y ≡ more x c a → Means b x y (λ n. asked c s) (Ok (next, a))
  unfolding asked put
  means_asked a h = record { at = λ n below. rw (e, h) (added_one x c (λ a. Done (next, a)) a) }

  pub means_unasked : y ≡ x → Means b x y (λ n. asked c s) (Err stop.Memory)
  unfolding asked
  means_unasked h = record { at = λ n below. (asked c s, rw h (added_none x (asked c s))) }

pub means_within : {A : Type 0} {b c : ℕ} {x y : Done_so_far} {p : ℕ → Prog A} {r : Result A Stop} → b ≤ c → Means b x y p r → Means c x y p r
means_within le m = record { at = λ n h. m.at n (omega arith) }

pub means_bound : {A : Type 0} {b c : ℕ} {x y : Done_so_far} {p : ℕ → Prog A} {r : Result A Stop} → b ≡ c → Means b x y p r → Means c x y p r
means_bound {x} {y} {p} {r} e m = subst (λ b. Means b x y p r) e m

-- memory ran out before an ask
pub means_lost : {A : Type 0} (b : ℕ) (x y : Done_so_far) (p : ℕ → Prog A) → y ≡ x → Means b x y p (Err stop.Memory)
means_lost b x y p e = rw e (means_no_memory b x p)
