-- What each step of a shell keeps.
use Rattle.std.proofs.Common.{◌≡◌, ◌≢◌, ℕ, zero, suc, ◌+◌, ◌-◌, ◌<◌, ◌≤◌, ◌⊎◌, inl, inr, Bool, true, false, cond, List, [], ◌∷◌, ◌++◌, length, All, sum_by, set, get_or, Option, Some, None, refl, ap, sym, ◌∙◌, arith, subst}
use Rattle.std.specs.Prelude.{eqb}
use Rattle.std.proofs.lemmas.List.Elements.{All-push, All-weaker, All-append, All-nil}
use Rattle.std.proofs.lemmas.List.Sums.{sum_by-append, sum_by-cons, get_or-le-sum_by, sum_by-le-sum_by}
use Rattle.ksh_meaning.specs.Subshell.{standard}
use Rattle.kernel_ask.specs.Seen.{Seen, more, acted, not_forked, forked, marked, waited_for, ended, IsIn, phase}
use Rattle.kernel_ask.specs.declared.ask.Answer.{Answer}
use Rattle.kernel_ask.specs.declared.ask.Answer.TheVariants.{Forked as SaysForked, Refused, Begun as SaysBegun, NoThread, ShellEnded}
use Rattle.kernel_ask.specs.declared.ask.Ask.{Ask}
use Rattle.kernel_ask.specs.declared.ask.Ask.TheVariants.{Asked, Fork, Begin, WaitShell}
use Rattle.kernel_ask.specs.declared.ask.Entry.{Entry}
use Rattle.kernel_ask.specs.declared.ask.Phase.{Phase}
use Rattle.kernel_ask.specs.declared.ask.Phase.TheVariants.{Made, Begun, Unrun, Waited}
use Rattle.shell_thread.specs.Kept.{with}
use Rattle.shell_thread.specs.declared.album.ShellEnd.{ShellEnd}
use Rattle.shell_thread.specs.declared.album.ShellStop.TheVariants.{Unrun as IsUnrun}
use Rattle.shell_family.specs.Told.{from, ForTold, Has, Saw, Only, Follows, ForksStart, fork_of, forks_in, at_child, is_begun, is_settled, is_unrun, is_waited}
use Rattle.shell_family.specs.Meaning.{RunTold}
use Rattle.shell_family.specs.Family.{number, named, ChildFits, Family, FamilyTo, CanRun, Runs}
use Rattle.shell_family.specs.Fits.{Fits, IsKept, IsEach, JobFits, WaitFits, entry_of, running_of, running, is_running}
use Rattle.shell_state.specs.declared.start.Start.{Start}
use Rattle.shell_family.specs.declared.forked.Forked.{Forked}
use Rattle.shell_family.specs.declared.forked.OutcomeOf.{OutcomeOf}
use Rattle.shell_family.specs.declared.forked.Awaited.{Awaited}
use Rattle.shell_family.specs.declared.forked.Awaited.TheVariants.{Running, Joined}
use Rattle.shell_family.proofs.Counts.{same_or_not, cond_same, cond_other, cond_zero, at_past, at_end, at_set, at_le, begun_le, settled_le, waited_le, not_new, set_end, last_is, begun_others, begun_at, waited_settled}
use Rattle.shell_family.proofs.Told.{from_more, from_emptied, has_more, has_last, has_saw, saw_more, starts_more, starts_forked, forks_same, forks_forked, told_with, told_weaker, all_parts}

module _ (Po P A R : Type 0) (sees : Po → Seen Start) (list : A → Option (List (ShellEnd Po A))) (faults : P → ℕ) (level : ℕ) where
  -- what was begun is begun no more often
  abbrev pub StartsKept : Seen Start → Seen Start → Type 0
  StartsKept s t = (j : ℕ) (b a : Answer) → Has s.done (Begin j) b → Saw t.done (Begin j) a → Saw s.done (Begin j) a

  only_step :
      (s t : Seen Start) (j : ℕ) (b : Answer) → ((a : Ask Start) (b : Answer) → Has s.done a b → Has t.done a b) → StartsKept s t
      → Only s.done (Begin j) b → Only t.done (Begin j) b
  only_step s t j b has keeps o = (has _ _ o.0, λ a z. o.1 a (keeps j b a o.0 z))

  pub child_step :
      (s t : Seen Start) (c : ShellEnd Po A) → t.name ≡ s.name → from t ≡ from s
      → at_child is_settled t.children (number c) ≡ at_child is_settled s.children (number c)
      → at_child is_unrun t.children (number c) ≡ at_child is_unrun s.children (number c)
      → ((a : Ask Start) (b : Answer) → Has s.done a b → Has t.done a b)
      → StartsKept s t
      → ((v : ℕ) → Saw t.done (WaitShell (number c)) (ShellEnded v) → v ≡ c.status)
      → ChildFits sees faults s c → ChildFits sees faults t c
  child_step s t c n o e u has keeps saw f = record {
    name = rw n f.name;
    over = f.over;
    port_name = f.port_name;
    origin = f.origin ∙ sym o;
    child = e ∙ f.child;
    unrun = λ h. u ∙ f.unrun h;
    ran = λ h. u ∙ f.ran h;
    no_thread = λ h. only_step s t (number c) NoThread has keeps (f.no_thread h);
    begun = λ h. only_step s t (number c) SaysBegun has keeps (f.begun h);
    fault = f.fault;
    run = (f.run.0, has _ _ f.run.1, f.run.2);
    waited = saw;
  }

  job_step :
      (s t : Seen Start) (k : ℕ) (job : Forked Po P A) → t.name ≡ s.name → from t ≡ from s
      → ((a : Ask Start) (b : Answer) → Has s.done a b → Has t.done a b)
      → JobFits sees list level s k job → JobFits sees list level t k job
  job_step s t k job n o has j = record {
    can = j.can;
    name = rw n j.name;
    origin = j.origin ∙ sym o;
    level_is = j.level_is;
    forked = has _ _ j.forked;
  }

  wait_step :
      (s t : Seen Start) (ends : Option (List (ShellEnd Po A))) (k : ℕ) (a : Awaited Po P A R) → t.name ≡ s.name → from t ≡ from s
      → ((a : Ask Start) (b : Answer) → Has s.done a b → Has t.done a b)
      → StartsKept s t
      → WaitFits sees list level s ends k a → WaitFits sees list level t ends k a
  wait_step s t ends k (Running p) n o has keeps w = (job_step s t k p.job.value n o has w.0, only_step s t k SaysBegun has keeps w.1)
  wait_step s t ends k (Joined v) n o has keeps w = w

  fits_grow :
      (s t : Seen Start) (ends : Option (List (ShellEnd Po A))) (hs : List (ℕ × Awaited Po P A R)) → t.name ≡ s.name → from t ≡ from s
      → ((w : Phase → ℕ) → w Made ≡ 0 → (k : ℕ) → at_child w t.children k ≡ at_child w s.children k)
      → ((a : Ask Start) (b : Answer) → Has s.done a b → Has t.done a b)
      → ((k v : ℕ) → Saw t.done (WaitShell k) (ShellEnded v) → Saw s.done (WaitShell k) (ShellEnded v))
      → ((k : ℕ) (a : Answer) → Saw t.done (Begin k) a → Saw s.done (Begin k) a)
      → (ForTold s.done ForksStart → ForTold t.done ForksStart)
      → (ForTold s.done (λ es. (k : ℕ) → forks_in k es ≡ at_child is_settled s.children k) → ForTold t.done (λ es. (k : ℕ) → forks_in k es ≡ at_child is_settled t.children k))
      → Fits sees list faults level s ends hs → Fits sees list faults level t ends hs
  fits_grow s t ends hs n o same has saw begins starts forks f = record {
    entries = λ k. f.entries k ∙ sym (same is_begun refl k);
    kept = told_weaker (IsKept hs s) (IsKept hs t) ends (λ es h k. h k ∙ sym (same is_settled refl k)) f.kept;
    waits = All-weaker (λ h. WaitFits sees list level s ends h.0 h.1) (λ h. WaitFits sees list level t ends h.0 h.1) (λ h w. wait_step s t ends h.0 h.1 n o has (λ j b a z. begins j a) w) hs f.waits;
    starts = starts f.starts;
    forks = forks f.forks;
    begins = λ k a z. same is_settled refl k ∙ f.begins k a (begins k a z);
    each = told_weaker (IsEach sees list faults s) (IsEach sees list faults t) ends
        (λ es. All-weaker (λ c. ChildFits sees faults s c × Family sees list faults c) (λ c. ChildFits sees faults t c × Family sees list faults c)
        (λ c p. (child_step s t c n o (same is_settled refl (number c)) (same is_unrun refl (number c)) has (λ j b a z. begins j a) (λ v z. p.0.waited v (saw (number c) v z)) p.0, p.1)) es)
        f.each;
    known = λ k v z. same is_waited refl k ∙ f.known k v (saw k v z);
  }

  pub fits_ended :
      (s : Seen Start) (ends : Option (List (ShellEnd Po A))) (hs : List (ℕ × Awaited Po P A R)) → Fits sees list faults level s ends hs → Fits sees list faults level (ended s) ends hs
  fits_ended s ends hs f = fits_grow s (ended s) ends hs refl refl (λ w z k. refl) (λ a b h. h) (λ k v z. z) (λ k a z. z) (λ h. h) (λ h. h) f

  -- an entry of no forked child
  pub fits_noted :
      (s : Seen Start) (ends : Option (List (ShellEnd Po A))) (hs : List (ℕ × Awaited Po P A R)) (x : Ask Start) (y : Answer)
      → ((k : ℕ) → WaitShell k ≡ x → ⊥) → ((k : ℕ) → Begin k ≡ x → ⊥) → ((k : ℕ) → fork_of k x y ≡ 0) → Follows x y []
      → Fits sees list faults level s ends hs → Fits sees list faults level record s { done = more s.done x y } ends hs
  fits_noted s ends hs x y unwaited unbegun unforked quiet f =
      fits_grow s record s { done = more s.done x y } ends hs refl (from_more s.origin s.done x y) (λ w z k. refl) (λ a b h. has_more s.done a x b y h)
      (λ k v z. elim (saw_more s.done (WaitShell k) x (ShellEnded v) y z) [ inl p ↦ p | inr e ↦ absurd (unwaited k e.0) ])
      (λ k a z. elim (saw_more s.done (Begin k) x a y z) [ inl p ↦ p | inr e ↦ absurd (unbegun k e.0) ])
      (starts_more s.done x y quiet) (forks_same s.done s.children s.children x y unforked (λ k. refl)) f

  -- the end of a child that is new to its parent
  pub record NewEnd (s : Seen Start) (k : ℕ) (start : Start) (e : ShellEnd Po A) : Type 0 where
    pub name : e.name ≡ s.name ++ k ∷ []
    pub over : (sees e.port).live ≡ false
    pub port_name : (sees e.port).name ≡ e.name
    pub origin : from (sees e.port) ≡ from s
    pub run : RunTold start (sees e.port).done e.stop e.status
    pub family : Family sees list faults e

  pub number_is : (e : ShellEnd Po A) (ns : List ℕ) (k : ℕ) → e.name ≡ ns ++ k ∷ [] → number e ≡ k
  number_is e ns k h = rw h (last_is 0 ns k)

  -- no end of the list is the one of child k
  module _ (k : ℕ) where
    pub ends_apart : (es : List (ShellEnd Po A)) (v : ℕ) → sum_by (named k) es ≡ 0 → All (λ c. number c ≡ k → c.status ≡ v) es
    ends_apart es v h = λ i d lt e.
        let a = get_or-le-sum_by (named k) es i d lt in
        let b : named k (get_or es i d) ≡ 1 = cond_same k (number (get_or es i d)) 1 0 (sym e) in absurd (omega arith)

    pub joined_with :
        (t : Seen Start) (ends : Option (List (ShellEnd Po A))) (e : ShellEnd Po A) (hs : List (ℕ × Awaited Po P A R)) → number e ≡ k → sum_by (entry_of k) hs ≡ 0
        → All (λ h. WaitFits sees list level t ends h.0 h.1) hs → All (λ h. WaitFits sees list level t (with ends e) h.0 h.1) hs
    joined_with t ends e hs n none all = λ i d lt.
        let a = get_or-le-sum_by (entry_of k) hs i d lt in
        let apart : number e ≢ (get_or hs i d).0 = λ q. let b : entry_of k (get_or hs i d) ≡ 1 = cond_same k (get_or hs i d).0 1 0 (sym n ∙ q) in absurd (omega arith) in
        one (get_or hs i d).0 (get_or hs i d).1 apart (all i d lt)
      where
        one : (j : ℕ) (w : Awaited Po P A R) → number e ≢ j → WaitFits sees list level t ends j w → WaitFits sees list level t (with ends e) j w
        one j (Running p) apart f = f
        one j (Joined v) apart f = told_with (λ c. number c ≡ j → c.status ≡ v) (λ c. number c ≡ j → c.status ≡ v) ends e (λ c p. p) (λ q. absurd (apart q)) f

    pub named_with :
        (ends : Option (List (ShellEnd Po A))) (e : ShellEnd Po A) (xs ys : List (ℕ × Awaited Po P A R)) (s t : Seen Start) → number e ≡ k
        → ((j : ℕ) → at_child is_settled t.children j + sum_by (running_of j) xs ≡ at_child is_settled s.children j + cond (eqb j k) 1 0 + sum_by (running_of j) ys)
        → ForTold ends (IsKept xs s) → ForTold (with ends e) (IsKept ys t)
    named_with None e xs ys s t n c h = tt
    named_with (Some es) e xs ys s t n c h = λ j.
        let a = sum_by-append (named j) es (e ∷ []) in
        let b : named j e ≡ cond (eqb j k) 1 0 = rw n refl in
        let d = sum_by-cons (named j) e [] in
        omega (arith, c j, h j)

  -- a fork and its mark, together
  module _
      (s t : Seen Start) (ends : Option (List (ShellEnd Po A))) (hs : List (ℕ × Awaited Po P A R)) (start : Start) (k : ℕ) (q : Phase) (ans : Answer)
      (n : t.name ≡ s.name) (o : from t ≡ from s) (ch : t.children ≡ s.children ++ q ∷ [])
      (dn : t.done ≡ more (more s.done (Fork start standard) (SaysForked k)) (Begin k) ans)
      (next : k ≡ suc (length s.children)) (f : Fits sees list faults level s ends hs) where
    has : (a : Ask Start) (b : Answer) → Has s.done a b → Has t.done a b
    has a b h = rw dn (has_more (more s.done (Fork start standard) (SaysForked k)) a (Begin k) b ans (has_more s.done a (Fork start standard) b (SaysForked k) h))

    saw_begin : (j : ℕ) (a : Answer) → Saw t.done (Begin j) a → Saw s.done (Begin j) a ⊎ ((j ≡ k) × (a ≡ ans))
    saw_begin j a z =
        elim (saw_more (more s.done (Fork start standard) (SaysForked k)) (Begin j) (Begin k) a ans (rw dn at z)) [
          | inl p ↦ elim (saw_more s.done (Begin j) (Fork start standard) a (SaysForked k) p) [ inl r ↦ inl r | inr e ↦ absurd (let h = e.0 in cc) ]
          | inr e ↦ inr ((let h = e.0 in cc), e.1)
        ]

    keeps : StartsKept s t
    keeps j b a h z =
        elim (saw_begin j a z) [
          | inl p ↦ p
          | inr e ↦
              let g = f.begins j b (has_saw s.done (Fork start standard) (Begin k) (Begin j) (Begin j) (SaysForked k) ans a b (rw dn at z) h) in
              let n : at_child is_settled s.children j ≡ 0 = at_past is_settled s.children j (let q = e.0 in omega arith) in absurd (omega arith)
        ]

    saw : (j v : ℕ) → Saw t.done (WaitShell j) (ShellEnded v) → Saw s.done (WaitShell j) (ShellEnded v)
    saw j v z =
        elim (saw_more (more s.done (Fork start standard) (SaysForked k)) (WaitShell j) (Begin k) (ShellEnded v) ans (rw dn at z)) [
          | inl p ↦ elim (saw_more s.done (WaitShell j) (Fork start standard) (ShellEnded v) (SaysForked k) p) [ inl r ↦ r | inr e ↦ absurd (let h = e.0 in cc) ]
          | inr e ↦ absurd (let h = e.0 in cc)
        ]

    at : (w : Phase → ℕ) (j : ℕ) → at_child w t.children j ≡ at_child w s.children j + cond (eqb j k) (w q) 0
    at w j = rw ch (at_end w s.children q k j next)

    at_new : (w : Phase → ℕ) → at_child w t.children k ≡ w q
    at_new w =
        let a = at w k in
        let b : cond (eqb k k) (w q) 0 ≡ w q = cond_same k k (w q) 0 refl in
        let c : at_child w s.children k ≡ 0 = at_past w s.children k (omega arith) in omega arith

    at_old : (w : Phase → ℕ) (j : ℕ) → j ≢ k → at_child w t.children j ≡ at_child w s.children j
    at_old w j apart =
        let a = at w j in let b : cond (eqb j k) (w q) 0 ≡ 0 = cond_other j k (w q) 0 apart in omega arith

    old : (c : ShellEnd Po A) → ChildFits sees faults s c × Family sees list faults c → ChildFits sees faults t c × Family sees list faults c
    old c p =
        let apart : number c ≢ k = λ h. not_new is_settled s.children (number c) p.0.child (h ∙ next) in
        (child_step s t c n o (at_old is_settled (number c) apart) (at_old is_unrun (number c) apart) has keeps (λ v z. p.0.waited v (saw (number c) v z)) p.0, p.1)

    none : sum_by (entry_of k) hs ≡ 0
    none = f.entries k ∙ at_past is_begun s.children k (omega arith)

    waits : All (λ h. WaitFits sees list level t ends h.0 h.1) hs
    waits = All-weaker (λ h. WaitFits sees list level s ends h.0 h.1) (λ h. WaitFits sees list level t ends h.0 h.1) (λ h w. wait_step s t ends h.0 h.1 n o has keeps w) hs f.waits

    known : is_waited q ≡ 0 → (j v : ℕ) → Saw t.done (WaitShell j) (ShellEnded v) → at_child is_waited t.children j ≡ 1
    known w j v z =
        let a = at is_waited j in
        let b : cond (eqb j k) (is_waited q) 0 ≡ 0 = rw w (cond_zero (eqb j k)) in
        let c = f.known j v (saw j v z) in omega arith

    forked_in : Has t.done (Fork start standard) (SaysForked k)
    forked_in = rw dn (has_more (more s.done (Fork start standard) (SaysForked k)) (Fork start standard) (Begin k) (SaysForked k) ans (has_last s.done (Fork start standard) (SaysForked k)))

    begun_in : (b : Answer) → ans ≡ b → Only t.done (Begin k) b
    begun_in b e = (
      rw (dn, e) (has_last (more s.done (Fork start standard) (SaysForked k)) (Begin k) b),
      λ a z.
          elim (saw_begin k a z) [
            | inl p ↦
                let g = f.begins k a p in
                let n : at_child is_settled s.children k ≡ 0 = at_past is_settled s.children k (omega arith) in absurd (omega arith)
            | inr q ↦ q.1 ∙ e
          ],
    )

    starts : (ans ≡ SaysBegun) ⊎ (ans ≡ NoThread) → ForTold t.done ForksStart
    starts says = rw dn (starts_forked s.done start standard k ans says f.starts)

    forks : is_settled q ≡ 1 → ForTold t.done (λ es. (j : ℕ) → forks_in j es ≡ at_child is_settled t.children j)
    forks w = rw dn (forks_forked s.done s.children t.children start standard k ans (λ j. at is_settled j ∙ (rw w refl)) f.forks)

    begins : is_settled q ≡ 1 → (j : ℕ) (a : Answer) → Saw t.done (Begin j) a → at_child is_settled t.children j ≡ 1
    begins w j a z =
        elim (saw_begin j a z) [
          | inl p ↦
              let g = f.begins j a p in
              let b = at is_settled j in
              let c = at_le is_settled t.children j settled_le in omega arith
          | inr e ↦ rw e.0 (at_new is_settled ∙ w)
        ]

    new : (e : ShellEnd Po A) → NewEnd s k start e → is_settled q ≡ 1
        → (e.stop ≡ IsUnrun → (is_unrun q ≡ 1) × (ans ≡ NoThread) × ((p : P) × (0 < faults p)))
        → ((e.stop ≡ IsUnrun → ⊥) → (is_unrun q ≡ 0) × (ans ≡ SaysBegun))
        → ChildFits sees faults t e × Family sees list faults e
    new e w settled un ran =
        let m : number e ≡ k = number_is e s.name k w.name in (
          record {
            name = rw (n, m) w.name;
            over = w.over;
            port_name = w.port_name;
            origin = w.origin ∙ sym o;
            child = rw m (at_new is_settled ∙ settled);
            unrun = λ h. rw m (at_new is_unrun ∙ (un h).0);
            ran = λ h. rw m (at_new is_unrun ∙ (ran h).0);
            no_thread = λ h. rw m (begun_in NoThread (un h).1);
            begun = λ h. rw m (begun_in SaysBegun (ran h).1);
            fault = λ h. (un h).2;
            run = (start, rw m forked_in, w.run);
            waited = λ v z.
                let a = f.known (number e) v (saw (number e) v z) in
                let b : at_child is_waited s.children (number e) ≡ 0 = at_past is_waited s.children (number e) (omega arith) in absurd (omega arith);
          },
          w.family,
        )

    -- the start handed the job back
    pub fits_unrun :
        (e : ShellEnd Po A) → q ≡ Unrun → ans ≡ NoThread → e.stop ≡ IsUnrun → (p : P) × (0 < faults p) → NewEnd s k start e
        → Fits sees list faults level t (with ends e) hs
    fits_unrun e is says stop fault w =
        let m : number e ≡ k = number_is e s.name k w.name in
        record {
          entries = λ j.
              let a = at is_begun j in
              let b : cond (eqb j k) (is_begun q) 0 ≡ 0 = rw is (cond_zero (eqb j k)) in
              let c = f.entries j in omega arith;
          kept = named_with k ends e hs hs s t m (λ j. let a = at is_settled j in let b : is_settled q ≡ 1 = rw is refl in rw (a, b) refl) f.kept;
          waits = joined_with k t ends e hs m none waits;
          each = told_with (λ c. ChildFits sees faults s c × Family sees list faults c) (λ c. ChildFits sees faults t c × Family sees list faults c) ends e old
              (new e w (rw is refl) (λ h. (rw is refl, says, fault)) (λ h. absurd (h stop))) f.each;
          starts = starts (inr says);
          forks = forks (rw is refl);
          begins = begins (rw is refl);
          known = known (rw is refl);
        }

    -- the job runs
    pub fits_begun :
        (p : OutcomeOf Po P A) → q ≡ Begun → ans ≡ SaysBegun → CanRun sees list p.job.value → p.job.value.name ≡ s.name ++ k ∷ []
        → from (sees p.job.value.port) ≡ from s → p.job.value.start.state.level ≡ level + 1 → p.job.value.start ≡ start
        → Fits sees list faults level t ends (hs ++ (k, Running p) ∷ [])
    fits_begun p is says can name origin level_is is_start =
        let x : ℕ × Awaited Po P A R = (k, Running p) in
        record {
          entries = λ j.
              let a = at is_begun j in
              let b : is_begun q ≡ 1 = rw is refl in
              let c = f.entries j in
              let d = sum_by-append (entry_of j) hs (x ∷ []) in
              let e = sum_by-cons (entry_of j) x [] in
              rw (d, e, a, b) (omega arith);
          kept = told_weaker (IsKept hs s) (IsKept (hs ++ (k, Running p) ∷ []) t) ends
              (λ es h j.
              let a = at is_settled j in
              let b : is_settled q ≡ 1 = rw is refl in
              let c = h j in
              let d = sum_by-append (running_of j) hs (x ∷ []) in
              let e = sum_by-cons (running_of j) x [] in
              rw (d, e, a, b) (omega arith))
              f.kept;
          waits = All-push (λ h. WaitFits sees list level t ends h.0 h.1) hs (k, Running p) waits
              (record { can = can; name = rw n name; origin = origin ∙ sym o; level_is = level_is; forked = rw is_start forked_in }, begun_in SaysBegun says);
          each = told_weaker (IsEach sees list faults s) (IsEach sees list faults t) ends
              (λ es. All-weaker (λ c. ChildFits sees faults s c × Family sees list faults c) (λ c. ChildFits sees faults t c × Family sees list faults c) old es) f.each;
          starts = starts (inl says);
          forks = forks (rw is refl);
          begins = begins (rw is refl);
          known = known (rw is refl);
        }

    -- the start ran the job, and answers its end
    pub fits_ran :
        (e : ShellEnd Po A) → q ≡ Begun → ans ≡ SaysBegun → (e.stop ≡ IsUnrun → ⊥) → NewEnd s k start e
        → Fits sees list faults level t (with ends e) (hs ++ (k, Joined e.status) ∷ [])
    fits_ran e is says stop w =
        let m : number e ≡ k = number_is e s.name k w.name in
        let x : ℕ × Awaited Po P A R = (k, Joined e.status) in
        record {
          entries = λ j.
              let a = at is_begun j in
              let b : is_begun q ≡ 1 = rw is refl in
              let c = f.entries j in
              let d = sum_by-append (entry_of j) hs (x ∷ []) in
              let g = sum_by-cons (entry_of j) x [] in
              rw (d, g, a, b) (omega arith);
          kept = named_with k ends e hs (hs ++ (k, Joined e.status) ∷ []) s t m
              (λ j.
              let a = at is_settled j in
              let b : is_settled q ≡ 1 = rw is refl in
              let d = sum_by-append (running_of j) hs (x ∷ []) in
              let g = sum_by-cons (running_of j) x [] in
              let z = cond_zero (eqb j k) in rw (d, g, a, b, z) (omega arith))
              f.kept;
          waits = All-push (λ h. WaitFits sees list level t (with ends e) h.0 h.1) hs (k, Joined e.status) (joined_with k t ends e hs m none waits) (own ends e f.kept);
          each = told_with (λ c. ChildFits sees faults s c × Family sees list faults c) (λ c. ChildFits sees faults t c × Family sees list faults c) ends e old
              (new e w (rw is refl) (λ h. absurd (stop h)) (λ h. (rw is refl, says))) f.each;
          starts = starts (inl says);
          forks = forks (rw is refl);
          begins = begins (rw is refl);
          known = known (rw is refl);
        }
      where
        own : (ends : Option (List (ShellEnd Po A))) (e : ShellEnd Po A) → ForTold ends (IsKept hs s) → ForTold (with ends e) (λ es. All (λ c. number c ≡ k → c.status ≡ e.status) es)
        own None e h = tt
        own (Some es) e h =
            let z : at_child is_settled s.children k ≡ 0 = at_past is_settled s.children k (omega arith) in
            let a = h k in
            All-push (λ c. number c ≡ k → c.status ≡ e.status) es e (ends_apart k es e.status (omega arith)) (λ g. refl)

  begun_one : (ps : List Phase) (k n : ℕ) → n + 1 ≡ at_child is_begun ps k → n ≡ 0
  begun_one ps k n h = let a = at_le is_begun ps k begun_le in omega arith

  -- a job is joined: its entry is changed, and its end is kept
  pub fits_joined :
      (s : Seen Start) (ends : Option (List (ShellEnd Po A))) (xs ys : List (ℕ × Awaited Po P A R)) (k : ℕ) (p : OutcomeOf Po P A) (e : ShellEnd Po A)
      → Runs sees list faults p.job.value e → Fits sees list faults level s ends (xs ++ (k, Running p) ∷ ys)
      → Fits sees list faults level s (with ends e) ((xs ++ ys) ++ (k, Joined e.status) ∷ [])
  fits_joined s ends xs ys k p e ran f =
      let x : ℕ × Awaited Po P A R = (k, Running p) in
      let y : ℕ × Awaited Po P A R = (k, Joined e.status) in
      let parts = all_parts (λ h. WaitFits sees list level s ends h.0 h.1) xs x ys f.waits in
      let job = parts.1.0 in
      let name : e.name ≡ s.name ++ k ∷ [] = ran.name ∙ job.name in
      let m : number e ≡ k = number_is e s.name k name in
      let same : (j : ℕ) → sum_by (entry_of j) ((xs ++ ys) ++ y ∷ []) ≡ sum_by (entry_of j) (xs ++ x ∷ ys) = λ j.
      (let a = sum_by-append (entry_of j) (xs ++ ys) (y ∷ []) in
      let b = sum_by-append (entry_of j) xs ys in
      let c = sum_by-append (entry_of j) xs (x ∷ ys) in
      let d = sum_by-cons (entry_of j) y [] in
      let g = sum_by-cons (entry_of j) x ys in omega arith) in
      let one : entry_of k x ≡ 1 = cond_same k k 1 0 refl in
      let begun : at_child is_begun s.children k ≡ 1 =
      (let c = sum_by-append (entry_of k) xs (x ∷ ys) in
      let g = sum_by-cons (entry_of k) x ys in
      let h = f.entries k in let l = at_le is_begun s.children k begun_le in omega arith) in
      let others = begun_others s.children k begun in
      let none : sum_by (entry_of k) (xs ++ ys) ≡ 0 =
      (let b = sum_by-append (entry_of k) xs ys in
      let c = sum_by-append (entry_of k) xs (x ∷ ys) in
      let g = sum_by-cons (entry_of k) x ys in
      let h = f.entries k in begun_one s.children k (sum_by (entry_of k) (xs ++ ys)) (omega arith)) in
      record {
        entries = λ j. same j ∙ f.entries j;
        kept = named_with k ends e (xs ++ x ∷ ys) ((xs ++ ys) ++ y ∷ []) s s m
            (λ j.
            let a = sum_by-append (running_of j) (xs ++ ys) (y ∷ []) in
            let b = sum_by-append (running_of j) xs ys in
            let c = sum_by-append (running_of j) xs (x ∷ ys) in
            let d = sum_by-cons (running_of j) y [] in
            let g = sum_by-cons (running_of j) x ys in
            let z : running_of j y ≡ 0 = cond_zero (eqb j k) in
            let u : running_of j x ≡ cond (eqb j k) 1 0 = refl in omega arith)
            f.kept;
        waits = All-push (λ h. WaitFits sees list level s (with ends e) h.0 h.1) (xs ++ ys) y
            (joined_with k s ends e (xs ++ ys) m none (All-append (λ h. WaitFits sees list level s ends h.0 h.1) xs ys parts.0 parts.2))
            (own ends f.kept);
        each = told_with (λ c. ChildFits sees faults s c × Family sees list faults c) (λ c. ChildFits sees faults s c × Family sees list faults c) ends e (λ c h. h) (
          record {
            name = rw m name;
            over = ran.over;
            port_name = ran.port_name ∙ sym ran.name;
            origin = ran.origin ∙ job.origin;
            child = rw m others.0;
            unrun = λ h. absurd (ran.ran h);
            ran = λ h. rw m others.1;
            no_thread = λ h. absurd (ran.ran h);
            begun = λ h. rw m parts.1.1;
            fault = λ h. absurd (ran.ran h);
            run = (p.job.value.start, rw m job.forked, ran.run);
            waited = λ v z.
                let a = rw m at (f.known (number e) v z) in let b = others.2 in absurd (omega arith);
          },
          ran.family,
        ) f.each;
        starts = f.starts;
        forks = f.forks;
        begins = f.begins;
        known = f.known;
      }
    where
      own : (ends : Option (List (ShellEnd Po A))) → ForTold ends (IsKept (xs ++ (k, Running p) ∷ ys) s) → ForTold (with ends e) (λ es. All (λ c. number c ≡ k → c.status ≡ e.status) es)
      own None h = tt
      own (Some es) h =
          let x : ℕ × Awaited Po P A R = (k, Running p) in
          let z : at_child is_settled s.children k ≤ 1 = at_le is_settled s.children k settled_le in
          let a = h k in
          let c = sum_by-append (running_of k) xs (x ∷ ys) in
          let g = sum_by-cons (running_of k) x ys in
          let one : running_of k x ≡ 1 = cond_same k k 1 0 refl in
          All-push (λ c. number c ≡ k → c.status ≡ e.status) es e (ends_apart k es e.status (omega arith)) (λ q. refl)

  -- a joined child is waited for
  pub fits_waited :
      (s t : Seen Start) (ends : Option (List (ShellEnd Po A))) (xs ys : List (ℕ × Awaited Po P A R)) (k v : ℕ)
      → t ≡ waited_for s k v → Fits sees list faults level s ends (xs ++ (k, Joined v) ∷ ys) → Fits sees list faults level t ends (xs ++ ys)
  fits_waited s t ends xs ys k v is f =
      let x : ℕ × Awaited Po P A R = (k, Joined v) in
      let parts = all_parts (λ h. WaitFits sees list level s ends h.0 h.1) xs x ys f.waits in
      let one : entry_of k x ≡ 1 = cond_same k k 1 0 refl in
      let begun : at_child is_begun s.children k ≡ 1 =
      (let c = sum_by-append (entry_of k) xs (x ∷ ys) in
      let g = sum_by-cons (entry_of k) x ys in
      let h = f.entries k in let l = at_le is_begun s.children k begun_le in omega arith) in
      let place = begun_at s.children k begun in
      let i = place.0 in
      let n : t.name ≡ s.name = ap (λ (z : Seen Start). z.name) is in
      let o : from t ≡ from s = ap (λ (z : Seen Start). from z) is ∙ from_more s.origin s.done (WaitShell k) (ShellEnded v) in
      let dn : t.done ≡ more s.done (WaitShell k) (ShellEnded v) = ap (λ (z : Seen Start). z.done) is in
      let at_i : k - 1 ≡ i = (let e = place.1 in omega arith) in
      let ch : t.children ≡ set s.children i Waited = ap (λ (z : Seen Start). z.children) is ∙ ap (λ (j : ℕ). set s.children j Waited) at_i in
      let was : get_or s.children i Begun ≡ Begun = place.3 Begun in
      let at : (w : Phase → ℕ) (j : ℕ) → at_child w t.children j + cond (eqb j k) (w Begun) 0 ≡ at_child w s.children j + cond (eqb j k) (w Waited) 0 = λ w j.
      rw ch (rw was at (at_set w s.children i Waited Begun k j place.1 place.2)) in
      let same : (w : Phase → ℕ) → w Begun ≡ w Waited → (j : ℕ) → at_child w t.children j ≡ at_child w s.children j = λ w q j.
      (let a = rw q at (at w j) in omega arith) in
      let has : (a : Ask Start) (b : Answer) → Has s.done a b → Has t.done a b = λ a b h. rw dn (has_more s.done a (WaitShell k) b (ShellEnded v) h) in
      let begins : (j : ℕ) (a : Answer) → Saw t.done (Begin j) a → Saw s.done (Begin j) a = λ j a z.
      elim (saw_more s.done (Begin j) (WaitShell k) a (ShellEnded v) (rw dn at z)) [ inl p ↦ p | inr e ↦ absurd (let h = e.0 in cc) ] in
      let saw : (j u : ℕ) → Saw t.done (WaitShell j) (ShellEnded u) → Saw s.done (WaitShell j) (ShellEnded u) ⊎ ((j ≡ k) × (u ≡ v)) = λ j u z.
      elim (saw_more s.done (WaitShell j) (WaitShell k) (ShellEnded u) (ShellEnded v) (rw dn at z)) [ inl p ↦ inl p | inr e ↦ inr ((let h = e.0 in cc), (let h = e.1 in cc)) ] in
      record {
        entries = λ j.
            (let a = at is_begun j in
            let b = f.entries j in
            let c = sum_by-append (entry_of j) xs (x ∷ ys) in
            let d = sum_by-append (entry_of j) xs ys in
            let g = sum_by-cons (entry_of j) x ys in
            let z = cond_zero (eqb j k) in omega arith);
        kept = told_weaker (IsKept (xs ++ x ∷ ys) s) (IsKept (xs ++ ys) t) ends
            (λ es h j.
            let a = same is_settled refl j in
            let b = h j in
            let c = sum_by-append (running_of j) xs (x ∷ ys) in
            let d = sum_by-append (running_of j) xs ys in
            let g = sum_by-cons (running_of j) x ys in
            let z : running_of j x ≡ 0 = cond_zero (eqb j k) in omega arith)
            f.kept;
        waits = All-weaker (λ h. WaitFits sees list level s ends h.0 h.1) (λ h. WaitFits sees list level t ends h.0 h.1) (λ h w. wait_step s t ends h.0 h.1 n o has (λ j b a z. begins j a) w) (xs ++ ys)
            (All-append (λ h. WaitFits sees list level s ends h.0 h.1) xs ys parts.0 parts.2);
        each = olds ends n o same has begins saw parts.1 f.each;
        starts = rw dn (starts_more s.done (WaitShell k) (ShellEnded v) tt f.starts);
        forks = rw dn (forks_same s.done s.children t.children (WaitShell k) (ShellEnded v) (λ j. refl) (same is_settled refl) f.forks);
        begins = λ j a z. same is_settled refl j ∙ f.begins j a (begins j a z);
        known = λ j u z.
            elim (saw j u z) [
              | inl p ↦
                  let a = at is_waited j in
                  let b = f.known j u p in
                  let c = at_le is_waited t.children j waited_le in
                  let d = cond_zero (eqb j k) in omega arith
              | inr q ↦
                  let a = at is_waited j in
                  let b : cond (eqb j k) 1 0 ≡ 1 = cond_same j k 1 0 q.0 in
                  let d = cond_zero (eqb j k) in
                  let c = at_le is_waited t.children j waited_le in omega arith
            ];
      }
    where
      olds :
          (ends : Option (List (ShellEnd Po A))) → t.name ≡ s.name → from t ≡ from s
          → ((w : Phase → ℕ) → w Begun ≡ w Waited → (j : ℕ) → at_child w t.children j ≡ at_child w s.children j)
          → ((a : Ask Start) (b : Answer) → Has s.done a b → Has t.done a b)
          → ((j : ℕ) (a : Answer) → Saw t.done (Begin j) a → Saw s.done (Begin j) a)
          → ((j u : ℕ) → Saw t.done (WaitShell j) (ShellEnded u) → Saw s.done (WaitShell j) (ShellEnded u) ⊎ ((j ≡ k) × (u ≡ v)))
          → ForTold ends (λ es. All (λ c. number c ≡ k → c.status ≡ v) es) → ForTold ends (IsEach sees list faults s) → ForTold ends (IsEach sees list faults t)
      olds None n o same has begins saw j h = tt
      olds (Some es) n o same has begins saw j h = λ i d lt.
          let c = get_or es i d in
          let p = h i d lt in
          let q = j i d lt in (
            child_step s t c n o (same is_settled refl (number c)) (same is_unrun refl (number c)) has (λ j b a z. begins j a)
                (λ u z. elim (saw (number c) u z) [ inl a ↦ p.0.waited u a | inr b ↦ b.1 ∙ sym (q b.0) ]) p.0,
            p.1,
          )

  -- with nothing left that runs, the shell's end has the end of each child
  pub family_done :
      (s : Seen Start) (ends : Option (List (ShellEnd Po A))) (hs : List (ℕ × Awaited Po P A R)) (e : ShellEnd Po A)
      → list e.album ≡ ends → sees e.port ≡ s → ((k : ℕ) → sum_by (running_of k) hs ≡ 0) → Fits sees list faults level s ends hs → Family sees list faults e
  family_done s ends hs e album port idle f zero = tt
  family_done s ends hs e album port idle f (suc n) =
      rw (album, port) (
        record { starts = f.starts; forks = f.forks; begins = f.begins; waits = λ k v z. waited_settled s.children k (f.known k v z) },
        told ends f.kept f.each,
      )
    where
      told : (ends : Option (List (ShellEnd Po A))) → ForTold ends (IsKept hs s) → ForTold ends (IsEach sees list faults s)
          → ForTold ends (λ es. ((k : ℕ) → sum_by (named k) es ≡ at_child is_settled s.children k) × All (λ c. ChildFits sees faults s c × FamilyTo sees list faults n c) es)
      told None h g = tt
      told (Some es) h g = ((λ k. let a = h k in let b = idle k in omega arith), (λ i d lt. ((g i d lt).0, (g i d lt).1 n)))

  -- a shell that has just begun
  pub fits_first : (job : Forked Po P A) → CanRun sees list job → Fits {P = P} {R = R} sees list faults level (sees job.port) (list job.album) []
  fits_first job c = record {
    entries = λ k. rw c.children refl;
    kept = told_weaker (λ es. es ≡ []) (IsKept {P = P} {R = R} [] (sees job.port)) (list job.album) (λ es h k. rw (h, c.children) refl) c.album;
    waits = All-nil (λ h. WaitFits sees list level (sees job.port) (list job.album) h.0 h.1);
    each = told_weaker (λ es. es ≡ []) (IsEach sees list faults (sees job.port)) (list job.album) (λ es h. rw h (All-nil (λ x. ChildFits sees faults (sees job.port) x × Family sees list faults x))) c.album;
    starts = told_weaker (λ es. es ≡ []) ForksStart (sees job.port).done (λ es h. rw h tt) c.done;
    forks = told_weaker (λ es. es ≡ []) (λ es. (k : ℕ) → forks_in k es ≡ at_child is_settled (sees job.port).children k) (sees job.port).done (λ es h k. rw (h, c.children) refl) c.done;
    begins = λ k a z. absurd (unseen (sees job.port).done (Begin k) a c.done z);
    known = λ k v z. absurd (unseen (sees job.port).done (WaitShell k) (ShellEnded v) c.done z);
  }
    where
      unseen : (d : Option (List (Entry Start))) (x : Ask Start) (y : Answer) → ForTold d (λ es. es ≡ []) → Saw d x y → ⊥
      unseen None x y h z = z
      unseen (Some es) x y h z = rw h at z

  pub running_le : (hs : List (ℕ × Awaited Po P A R)) (k : ℕ) → sum_by (running_of k) hs ≤ running hs
  running_le hs k = sum_by-le-sum_by (running_of k) (λ h. is_running h.1) hs (λ h. one h.0 h.1)
    where
      one : (j : ℕ) (w : Awaited Po P A R) → running_of k (j, w) ≤ is_running w
      one j w = elim (same_or_not k j) [
        | inl e ↦ let a : running_of k (j, w) ≡ is_running w = cond_same k j (is_running w) 0 e in omega arith
        | inr n ↦ let a : running_of k (j, w) ≡ 0 = cond_other k j (is_running w) 0 n in omega arith
      ]
