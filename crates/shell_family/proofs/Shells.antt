-- Steps of a whole shell.
use Rattle.std.proofs.Common.{◌≡◌, ◌≢◌, ℕ, zero, suc, ◌+◌, ◌-◌, ◌*◌, ◌<◌, ◌≤◌, ◌^◌, ◌⊎◌, inl, inr, min, Bool, true, false, cond, List, [], ◌∷◌, ◌++◌, length, All, sum_by, set, get_or, take, drop, Option, Some, None, refl, ap, sym, subst, ◌∙◌, arith, length-append, append-nil, append_assoc, vec_len, vec_capacity}
use Rattle.std.proofs.Math.Seq.{get_or-append_seam, drop-cons}
use Rattle.std.proofs.lemmas.List.{get_or_append_left, get_or-set_same, get_or-set_other, length-set, take-append-drop}
use Rattle.std.proofs.lemmas.List.Elements.{All-append, All-push}
use Rattle.std.proofs.lemmas.List.Sums.{sum_by-append, sum_by-cons, sum_by-le}
use Rattle.ksh_meaning.specs.Subshell.{standard}
use Rattle.kernel_ask.specs.Causes.{RoseBy}
use Rattle.kernel_ask.specs.Seen.{Seen, NoneMade, IsIn, phase, more, acted, not_forked, forked, child_of, emptied, marked, waited_for, ended, GivesBack}
use Rattle.std.specs.declared.vec.Vec.{Vec}
use Rattle.std.specs.declared.alloc.Global.{Global}
use Rattle.std.specs.Prelude.{remove}
use Rattle.kernel_ask.specs.declared.ask.ForkRefused.{ForkRefused}
use Rattle.kernel_ask.specs.declared.ask.ForkRefused.TheVariants.{Memory as WantsMemory, Refused as IsRefused}
use Rattle.kernel_ask.specs.declared.ask.Answer.{Answer}
use Rattle.kernel_ask.specs.declared.ask.Call.{Call}
use Rattle.kernel_ask.specs.declared.ask.Answer.TheVariants.{Forked as SaysForked, Refused, Begun as SaysBegun, NoThread, ShellEnded}
use Rattle.kernel_ask.specs.declared.ask.Ask.{Ask}
use Rattle.kernel_ask.specs.declared.ask.Ask.TheVariants.{Asked, Fork, Begin, WaitShell}
use Rattle.kernel_ask.specs.declared.ask.Entry.{Entry}
use Rattle.kernel_ask.specs.declared.ask.Phase.{Phase}
use Rattle.kernel_ask.specs.declared.ask.Phase.TheVariants.{Made, Begun, Unrun, Waited}
use Rattle.shell_thread.specs.Kept.{with, emptied as emptied_list}
use Rattle.shell_thread.specs.declared.album.ShellEnd.{ShellEnd}
use Rattle.shell_thread.specs.declared.album.ShellStop.{ShellStop}
use Rattle.shell_thread.specs.declared.album.ShellStop.TheVariants.{Meant, Spent, Memory as StopMemory, Unrun as IsUnrun, Before as IsBefore}
use Rattle.shell_family.specs.Told.{from, ForTold, Has, at_child, is_begun, is_settled, no_threads, is_no_thread}
use Rattle.shell_family.specs.Meaning.{Run, RunTold, stop_by, status_by}
use Rattle.std.specs.Prelude.{Result, Ok, Err}
use Rattle.ksh_meaning.specs.Finished.{Done_so_far, Means, ended as finishes}
use Rattle.ksh_meaning.specs.Mean.{list_of, work, Whole}
use Rattle.ksh_meaning.specs.Theorem.{FedRun, calls, answers, tells}
use Rattle.shell_state.specs.declared.state.Flow.{Flow}
use Rattle.shell_state.specs.declared.state.Stop.{Stop}
use Rattle.shell_state.specs.declared.state.Stop.TheVariants as stop
use Rattle.shell_family.specs.Family.{named, ChildFits, Family, FamilyTo, CanRun, Runs}
use Rattle.shell_family.specs.Fits.{Fits, IsShell, IsPending, IsJoining, IsTaken, Stays, Noted, WaitFits, IsKept, entry_of, running_of, is_running, running, IsLast, IsAt}
use Rattle.shell_state.specs.declared.start.Start.{Start}
use Rattle.shell_state.specs.declared.state.ShellState.{ShellState}
use Rattle.shell_family.specs.declared.forked.Forked.{Forked}
use Rattle.shell_family.specs.declared.forked.OutcomeOf.{OutcomeOf}
use Rattle.shell_family.specs.declared.forked.Awaited.{Awaited}
use Rattle.shell_family.specs.declared.forked.Awaited.TheVariants.{Running, Joined}
use Rattle.shell_family.specs.declared.forked.Shell.{Shell}
use Rattle.shell_family.proofs.Counts.{same_or_not, set_end, cond_same, at_le, begun_le, is_in_begun}
use Rattle.shell_family.proofs.Told.{from_more, from_emptied, has_more, has_last, no_threads_same, no_threads_more, told_weaker, all_parts}
use Rattle.shell_family.proofs.Steps.{NewEnd, fits_noted, fits_ended, fits_first, family_done, fits_unrun, fits_begun, fits_ran, fits_joined, fits_waited, running_le}

-- the mark of the child that was forked last
pub marked_of :
    (s t : Seen Start) (start : Start) (k : ℕ) (b : Bool) → t ≡ marked (forked s start standard) k b → k ≡ length s.children + 1
    → (t.name ≡ s.name) × (from t ≡ from s) × (t.children ≡ s.children ++ cond b Begun Unrun ∷ [])
    × (t.done ≡ more (more s.done (Fork start standard) (SaysForked k)) (Begin k) (cond b SaysBegun NoThread)) × (t.live ≡ s.live)
marked_of s t start k b is next =
    let at : k - 1 ≡ length s.children = omega arith in (
      ap (λ (z : Seen Start). z.name) is,
      ap (λ (z : Seen Start). from z) is ∙ (from_more s.origin (more s.done (Fork start standard) (SaysForked (length s.children + 1))) (Begin k) (cond b SaysBegun NoThread) ∙ from_more s.origin s.done (Fork start standard) (SaysForked (length s.children + 1))),
      ap (λ (z : Seen Start). z.children) is ∙ (ap (λ (j : ℕ). set (s.children ++ Made ∷ []) j (cond b Begun Unrun)) at ∙ set_end s.children Made (cond b Begun Unrun)),
      ap (λ (z : Seen Start). z.done) is ∙ ap (λ (j : ℕ). more (more s.done (Fork start standard) (SaysForked j)) (Begin k) (cond b SaysBegun NoThread)) (sym next),
      ap (λ (z : Seen Start). z.live) is,
    )

pub none_made_end : (ps : List Phase) (q : Phase) → q ≢ Made → NoneMade ps → NoneMade (ps ++ q ∷ [])
none_made_end ps q apart none k pos le is =
    let len = length-append ps (q ∷ []) in
    elim (same_or_not k (suc (length ps))) [
      | inl e ↦
          let i : k - 1 ≡ length ps = omega arith in
          let z : get_or (ps ++ q ∷ []) (k - 1) Unrun ≡ q = rw i (get_or-append_seam ps q [] Unrun) in apart (sym z ∙ is)
      | inr n ↦
          let lt : k - 1 < length ps = omega arith in none k pos (omega arith) (sym (get_or_append_left ps (q ∷ []) Unrun (k - 1) lt) ∙ is)
    ]

pub none_made_set : (ps : List Phase) (i : ℕ) (q : Phase) → q ≢ Made → NoneMade ps → NoneMade (set ps i q)
none_made_set ps i q apart none k pos le is =
    let len = length-set ps i q in
    elim (same_or_not (k - 1) i) [
      | inl e ↦
          let lt : i < length ps = omega arith in
          let z : get_or (set ps i q) (k - 1) Unrun ≡ q = rw e (get_or-set_same ps i q Unrun lt) in apart (sym z ∙ is)
      | inr n ↦ none k pos (omega arith) (sym (get_or-set_other ps i (k - 1) q Unrun n) ∙ is)
    ]

pub rose_less : (m n a b : ℕ) → n ≤ m → RoseBy m a b → RoseBy n a b
rose_less m n a b h r = let x = r.0 in let y = r.1 in (x, omega arith)

pub rose_join : (m n a b c : ℕ) → RoseBy m a b → RoseBy n b c → RoseBy (m + n) a c
rose_join m n a b c r s = let x = r.0 in let y = r.1 in let z = s.0 in let w = s.1 in (omega arith, omega arith)

-- a count that rose isn't 0
pub rose_some : (a b : ℕ) → RoseBy 1 a b → 0 < b
rose_some a b r = let x = r.0 in let y = r.1 in omega arith

pub rose_none : (a b : ℕ) → a ≤ b → RoseBy 0 a b
rose_none a b h = (h, omega arith)

is_run : (r : Result Flow Stop) → stop_by r ≡ IsUnrun → ⊥
is_run (Ok flow) h = cc
is_run (Err stop.Spent) h = cc
is_run (Err stop.Memory) h = cc

by_spent : (r : Result Flow Stop) (v : ℕ) → stop_by r ≡ Spent → status_by r v ≡ 123
by_spent (Ok flow) v h = cc
by_spent (Err stop.Spent) v h = refl
by_spent (Err stop.Memory) v h = cc

by_lost : (r : Result Flow Stop) (v : ℕ) → stop_by r ≡ StopMemory → status_by r v ≡ 121
by_lost (Ok flow) v h = cc
by_lost (Err stop.Spent) v h = cc
by_lost (Err stop.Memory) v h = refl

is_listed : (r : Result Flow Stop) → stop_by r ≡ IsBefore → ⊥
is_listed (Ok flow) h = cc
is_listed (Err stop.Spent) h = cc
is_listed (Err stop.Memory) h = cc

tells_run : (start : Start) (es : List (Entry Start)) (s : ShellState) (r : Result Flow Stop) → FedRun (Whole start (answers es)) (calls es) (finishes s r) → Run start es (stop_by r) (status_by r s.status)
tells_run start es s (Ok flow) h = ((s, flow), h, refl)
tells_run start es s (Err stop.Spent) h = (h, refl)
tells_run start es s (Err stop.Memory) h = (h, refl)

-- a shell's list ran from its start
pub run_told : (start : Start) (x y : Done_so_far) (s : ShellState) (r : Result Flow Stop) → ForTold x (λ es. es ≡ [])
    → Means start.state.budget x y (λ n. list_of (work n) start.body start.state) (finishes s r) → RunTold start y (stop_by r) (status_by r s.status)
run_told start None y s r h m =
    let t = tells m in rw t.added tt
run_told start (Some xs) y s r h m =
    let t = tells m in
    let e : y ≡ Some t.entries = t.added ∙ ap (λ (z : List (Entry Start)). Some (z ++ t.entries)) h in
    rw e (tells_run start t.entries s r t.run)

module _ (Po P A R : Type 0) (sees : Po → Seen Start) (list : A → Option (List (ShellEnd Po A))) (faults : P → ℕ) (spare : A → ℕ) (level : ℕ) where
  running_push : (hs : List (ℕ × Awaited Po P A R)) (x : ℕ × Awaited Po P A R) → running (hs ++ x ∷ []) ≡ running hs + is_running x.1
  running_push hs x =
      let a = sum_by-append (λ (h : ℕ × Awaited Po P A R). is_running h.1) hs (x ∷ []) in
      let b = sum_by-cons (λ (h : ℕ × Awaited Po P A R). is_running h.1) x [] in omega arith

  running_moved : (xs ys : List (ℕ × Awaited Po P A R)) (x : ℕ × Awaited Po P A R) → running ((xs ++ ys) ++ x ∷ []) ≡ running (xs ++ x ∷ ys)
  running_moved xs ys x =
      let w : ℕ × Awaited Po P A R → ℕ = λ h. is_running h.1 in
      let a = sum_by-append w (xs ++ ys) (x ∷ []) in
      let b = sum_by-append w xs ys in
      let c = sum_by-append w xs (x ∷ ys) in
      let d = sum_by-cons w x [] in
      let g = sum_by-cons w x ys in omega arith

  pub running_shell :
      (a b : Shell Po P A R) (k : ℕ) (p : OutcomeOf Po P A) → IsPending sees list faults spare level a k p.job.value → sees b.port ≡ marked (sees a.port) k true
      → b.name ≡ a.name → b.album ≡ a.album → b.handles.items ≡ a.handles.items ++ (k, Running p) ∷ [] → IsShell sees list faults spare level b
  running_shell a b k p h e name album handles =
      let s = h.before in
      let start = p.job.value.start in
      let t = sees b.port in
      let eq : t ≡ marked (forked s start standard) k true = e ∙ ap (λ (z : Seen Start). marked z k true) h.seen in
      let m = marked_of s t start k true eq h.next in
      let next : k ≡ suc (length s.children) = (let n = h.next in omega arith) in
      let x : ℕ × Awaited Po P A R = (k, Running p) in
      record {
        live = m.4 ∙ h.live;
        name = m.0 ∙ (h.name ∙ sym name);
        none_made = rw m.2 (none_made_end s.children Begun (λ q. cc) h.none_made);
        low = h.low;
        room = rw (album, handles) (let r = running_push a.handles.items x in let r' = h.room in omega arith);
        fits = rw (album, handles)
            (fits_begun Po P A R sees list faults level s t (list a.album) a.handles.items start k Begun SaysBegun m.0 m.1 m.2 m.3 next h.fits
            p refl refl h.can h.job_name h.job_origin h.job_level refl);
      }

  new_end : (s : Seen Start) (k : ℕ) (job : Forked Po P A) (e : ShellEnd Po A) → CanRun sees list job → job.name ≡ s.name ++ k ∷ [] → from (sees job.port) ≡ from s
      → e.name ≡ job.name → e.stop ≡ IsUnrun → e.status ≡ 254 → e.album ≡ job.album → sees e.port ≡ ended (sees job.port)
      → NewEnd Po P A R sees list faults level s k job.start e
  new_end s k job e can name origin is_name stop status album port =
      record {
        name = is_name ∙ name;
        over = ap (λ (z : Seen Start). z.live) port;
        port_name = ap (λ (z : Seen Start). z.name) port ∙ (can.name ∙ sym is_name);
        origin = ap (λ (z : Seen Start). from z) port ∙ origin;
        run = rw (stop, status, ap (λ (z : Seen Start). z.done) port) (still (sees job.port).done can.done);
        family = family_done Po P A R sees list faults level (ended (sees job.port)) (list job.album) [] e (ap list album) port (λ j. refl)
            (fits_ended Po P A R sees list faults level (sees job.port) (list job.album) [] (fits_first Po P A R sees list faults level job can));
      }
    where
      still : (d : Option (List (Entry Start))) → ForTold d (λ es. es ≡ []) → RunTold job.start d IsUnrun 254
      still None h = tt
      still (Some es) h = (h, refl)

  pub unrun_shell :
      (a b : Shell Po P A R) (k : ℕ) (job : Forked Po P A) (e : ShellEnd Po A) → IsPending sees list faults spare level a k job → sees b.port ≡ marked (sees a.port) k false
      → b.name ≡ a.name → b.handles ≡ a.handles → list b.album ≡ with (list a.album) e → spare a.album ≤ spare b.album + 1
      → e.name ≡ job.name → e.stop ≡ IsUnrun → e.status ≡ 254 → e.album ≡ job.album → sees e.port ≡ ended (sees job.port) → (p : P) × (0 < faults p)
      → IsShell sees list faults spare level b
  unrun_shell a b k job e h eq' name handles album room is_name stop status is_album port fault =
      let s = h.before in
      let start = job.start in
      let t = sees b.port in
      let eq : t ≡ marked (forked s start standard) k false = eq' ∙ ap (λ (z : Seen Start). marked z k false) h.seen in
      let m = marked_of s t start k false eq h.next in
      let next : k ≡ suc (length s.children) = (let n = h.next in omega arith) in
      record {
        live = m.4 ∙ h.live;
        name = m.0 ∙ (h.name ∙ sym name);
        none_made = rw m.2 (none_made_end s.children Unrun (λ q. cc) h.none_made);
        low = h.low;
        room = rw handles (let r' = h.room in omega arith);
        fits = rw (album, handles)
            (fits_unrun Po P A R sees list faults level s t (list a.album) a.handles.items start k Unrun NoThread m.0 m.1 m.2 m.3 next h.fits
            e refl refl stop fault (new_end s k job e h.can h.job_name h.job_origin is_name stop status is_album port));
      }

  pub ran_shell :
      (a b : Shell Po P A R) (k : ℕ) (job : Forked Po P A) (e : ShellEnd Po A) → IsPending sees list faults spare level a k job → Runs sees list faults job e → sees b.port ≡ marked (sees a.port) k true
      → b.name ≡ a.name → b.handles.items ≡ a.handles.items ++ (k, Joined e.status) ∷ [] → list b.album ≡ with (list a.album) e → spare a.album ≤ spare b.album + 1
      → IsShell sees list faults spare level b
  ran_shell a b k job e h r eq' name handles album room =
      let s = h.before in
      let start = job.start in
      let t = sees b.port in
      let eq : t ≡ marked (forked s start standard) k true = eq' ∙ ap (λ (z : Seen Start). marked z k true) h.seen in
      let m = marked_of s t start k true eq h.next in
      let next : k ≡ suc (length s.children) = (let n = h.next in omega arith) in
      let x : ℕ × Awaited Po P A R = (k, Joined e.status) in
      record {
        live = m.4 ∙ h.live;
        name = m.0 ∙ (h.name ∙ sym name);
        none_made = rw m.2 (none_made_end s.children Begun (λ q. cc) h.none_made);
        low = h.low;
        room = rw handles (let q = running_push a.handles.items x in let r' = h.room in omega arith);
        fits = rw (album, handles)
            (fits_ran Po P A R sees list faults level s t (list a.album) a.handles.items start k Begun SaysBegun m.0 m.1 m.2 m.3 next h.fits
            e refl refl r.ran
            (record { name = r.name ∙ h.job_name; over = r.over; port_name = r.port_name ∙ sym r.name; origin = r.origin ∙ h.job_origin; run = r.run; family = r.family }));
      }

  -- what noting a child changes
  pub noted_shell :
      (a b : Shell Po P A R) (k : ℕ) (v : Bool) (m : ℕ) → is_no_thread (cond v SaysBegun NoThread) ≤ m → sees b.port ≡ marked (sees a.port) k v
      → b.name ≡ a.name → b.spawner ≡ a.spawner → Noted sees m a b
  noted_shell a b k v m le e name spawner =
      record {
        name = name;
        port_name = ap (λ (z : Seen Start). z.name) e;
        origin = ap (λ (z : Seen Start). from z) e ∙ from_more (sees a.port).origin (sees a.port).done (Begin k) (cond v SaysBegun NoThread);
        spawner = spawner;
        count = rw e (count v le);
      }
    where
      count : (v : Bool) → is_no_thread (cond v SaysBegun NoThread) ≤ m
          → (n : ℕ) × (no_threads (marked (sees a.port) k v).done ≡ no_threads (sees a.port).done + n) × (n ≤ m)
      count true le = (0, (let x = no_threads_same (sees a.port).done (Begin k) SaysBegun refl in omega arith), omega arith)
      count false le =
          let r = no_threads_more (sees a.port).done (Begin k) NoThread refl in
          (r.0, r.1, elim r.2 [ inl z ↦ omega arith | inr z ↦ omega arith ])

  -- a start and what is noted of it
  pub stays_noted :
      (a c b : Shell Po P A R) (m : ℕ) → sees c.port ≡ sees a.port → c.name ≡ a.name → Noted sees m c b
      → RoseBy m (faults a.spawner) (faults c.spawner) → Stays sees faults a b
  stays_noted a c b m port name n r =
      record {
        name = n.name ∙ name;
        port_name = n.port_name ∙ ap (λ (z : Seen Start). z.name) port;
        origin = n.origin ∙ ap (λ (z : Seen Start). from z) port;
        rise = (n.count.0, rw (← port) n.count.1, rw n.spawner (rose_less m n.count.0 (faults a.spawner) (faults c.spawner) n.count.2 r));
      }

  pub stays_join : (a b c : Shell Po P A R) → Stays sees faults a b → Stays sees faults b c → Stays sees faults a c
  stays_join a b c x y =
      record {
        name = y.name ∙ x.name;
        port_name = y.port_name ∙ x.port_name;
        origin = y.origin ∙ x.origin;
        rise = (x.rise.0 + y.rise.0, (let p = x.rise.1 in let q = y.rise.1 in omega arith), rose_join x.rise.0 y.rise.0 (faults a.spawner) (faults b.spawner) (faults c.spawner) x.rise.2 y.rise.2);
      }

  -- a step that notes no start
  pub stays_quiet :
      (a b : Shell Po P A R) (t : Seen Start) → b.name ≡ a.name → sees b.port ≡ t → t.name ≡ (sees a.port).name → from t ≡ from (sees a.port)
      → no_threads t.done ≡ no_threads (sees a.port).done → faults b.spawner ≡ faults a.spawner
      → Stays sees faults a b
  stays_quiet a b t name port pn po count f =
      record {
        name = name;
        port_name = rw port pn;
        origin = rw port po;
        rise = (0, rw port (omega arith), rw f (rose_none (faults a.spawner) (faults a.spawner) (omega arith)));
      }

  -- a step that changes the port and nothing else that a shell keeps
  pub same_shell :
      (a b : Shell Po P A R) (t : Seen Start) → IsShell sees list faults spare level a → b.name ≡ a.name → sees b.port ≡ t → t.live ≡ true → t.name ≡ (sees a.port).name
      → NoneMade t.children → b.handles.items ≡ a.handles.items → list b.album ≡ list a.album → spare a.album ≤ spare b.album
      → Fits sees list faults level t (list a.album) a.handles.items → IsShell sees list faults spare level b
  same_shell a b t h name port live pn none handles album room fits =
      record {
        live = rw port live;
        name = rw port (pn ∙ (h.name ∙ sym name));
        none_made = rw port none;
        low = h.low;
        room = rw handles (let x = h.room in omega arith);
        fits = rw (port, album, handles) fits;
      }

  running_length : (hs : List (ℕ × Awaited Po P A R)) → running hs ≤ length hs
  running_length [] = omega arith
  running_length (h ∷ hs) =
      let a = sum_by-cons (λ (h : ℕ × Awaited Po P A R). is_running h.1) h hs in
      let b = running_length hs in
      let c = one h.1 in omega arith
    where
      one : (w : Awaited Po P A R) → is_running w ≤ 1
      one (Running p) = omega arith
      one (Joined v) = omega arith

  pub pending_shell :
      (o a : Shell Po P A R) (k : ℕ) (job : Forked Po P A) → IsShell sees list faults spare level o → level < 64 → vec_len o.handles < vec_capacity o.handles → vec_len o.handles < spare o.album
      → length o.handles.items ≡ vec_len o.handles
      → sees a.port ≡ forked (sees o.port) job.start standard → k ≡ length (sees o.port).children + 1 → sees job.port ≡ child_of (sees o.port) k → job.name ≡ o.name ++ k ∷ []
      → list job.album ≡ emptied_list (list o.album) → job.start.state.level ≡ level + 1 → job.start.state.budget < 2 ^ 64
      → a.name ≡ o.name → a.album ≡ o.album → a.handles ≡ o.handles
      → IsPending sees list faults spare level a k job
  pending_shell o a k job h low handle room len port next child is_name fresh deeper budget name album handles =
      record {
        before = sees o.port;
        seen = port;
        next = next;
        live = h.live;
        name = h.name ∙ sym name;
        none_made = h.none_made;
        low = h.low;
        room = rw (album, handles) (let r = running_length o.handles.items in omega arith);
        handle = rw handles handle;
        fits = rw (album, handles) h.fits;
        can = record {
          live = ap (λ (z : Seen Start). z.live) child;
          name = ap (λ (z : Seen Start). z.name) child ∙ (rw h.name (sym is_name));
          children = ap (λ (z : Seen Start). z.children) child;
          done = rw (ap (λ (z : Seen Start). z.done) child) (no_entries (sees o.port).done);
          album = rw fresh (no_ends (list o.album));
          level = (let x = deeper in omega arith);
          budget = budget;
        };
        job_name = rw h.name is_name;
        job_origin = ap (λ (z : Seen Start). from z) child ∙ from_emptied (sees o.port).origin (sees o.port).done;
        job_level = deeper;
      }
    where
      no_entries : (d : Option (List (Entry Start))) → ForTold (emptied d) (λ es. es ≡ [])
      no_entries None = tt
      no_entries (Some es) = refl

      no_ends : (d : Option (List (ShellEnd Po A))) → ForTold (emptied_list d) (λ es. es ≡ [])
      no_ends None = tt
      no_ends (Some es) = refl

  -- the world answered a call
  pub acted_shell :
      (a b : Shell Po P A R) (c : Call) (x : Answer) → IsShell sees list faults spare level a → sees b.port ≡ acted (sees a.port) c x → b.name ≡ a.name → b.handles ≡ a.handles → b.album ≡ a.album
      → IsShell sees list faults spare level b
  acted_shell a b c x h port name handles album =
      same_shell a b (acted (sees a.port) c x) h name port h.live refl h.none_made (ap (λ (z : Vec (ℕ × Awaited Po P A R) Global). z.items) handles) (ap list album) (rw album (omega arith))
      (fits_noted Po P A R sees list faults level (sees a.port) (list a.album) a.handles.items (Asked c) x (λ k q. cc) (λ k q. cc) (λ k. refl) tt h.fits)

  -- the entry of the last child is the one that was found
  pub last_at : (hs : List (ℕ × Awaited Po P A R)) (k j i : ℕ) → IsLast hs k → i ≡ length hs - 1 → IsAt hs i j → j ≡ k
  last_at hs k j i l at h =
      let n : length hs ≡ length l.front + 1 = rw l.is (length-append l.front ((k, l.entry) ∷ [])) in
      let e : i ≡ length l.front = omega arith in
      let f : (j, h.entry) ≡ (k, l.entry) = h.found ∙ (rw (e, l.is) (get_or-append_seam l.front (k, l.entry) [] (j, h.entry))) in
      ap (λ (z : ℕ × Awaited Po P A R). z.0) f

  -- the end of a shell that has joined its children
  pub runs_shell :
      (job : Forked Po P A) (a b : Shell Po P A R) (port : Po) (hs : List (ℕ × Awaited Po P A R)) (e : ShellEnd Po A) (state : ShellState) (r : Result Flow Stop)
      → CanRun sees list job → a.port ≡ job.port → a.name ≡ job.name → Stays sees faults a b → sees port ≡ ended (sees b.port)
      → Fits sees list faults level (sees port) (list e.album) hs → running hs ≡ 0 → e.port ≡ port → e.name ≡ b.name
      → Means job.start.state.budget (sees a.port).done (sees b.port).done (λ n. list_of (work n) job.start.body job.start.state) (finishes state r)
      → e.stop ≡ stop_by r → e.status ≡ status_by r state.status → Runs sees list faults job e
  runs_shell job a b port hs e state r can is_port is_name stays over fits idle e_port e_name means stop status =
      let p : sees e.port ≡ ended (sees b.port) = ap sees e_port ∙ over in
      let d : ForTold (sees a.port).done (λ es. es ≡ []) = rw is_port can.done in
      record {
        name = e_name ∙ (stays.name ∙ is_name);
        over = ap (λ (z : Seen Start). z.live) p;
        port_name = ap (λ (z : Seen Start). z.name) p ∙ (stays.port_name ∙ (ap (λ (z : Po). (sees z).name) is_port ∙ can.name));
        origin = ap (λ (z : Seen Start). from z) p ∙ (stays.origin ∙ ap (λ (z : Po). from (sees z)) is_port);
        ran = λ h. is_run r (sym stop ∙ h);
        listed = λ h. is_listed r (sym stop ∙ h);
        spent = λ h. status ∙ by_spent r state.status (sym stop ∙ h);
        lost = λ h. status ∙ by_lost r state.status (sym stop ∙ h);
        run = rw (stop, status, ap (λ (z : Seen Start). z.done) p) (run_told job.start (sees a.port).done (sees b.port).done state r d means);
        family = family_done Po P A R sees list faults level (sees port) (list e.album) hs e refl (ap sees e_port)
            (λ k. let r = running_le Po P A R sees list faults level hs k in omega arith) fits;
      }

  -- a shell that has just begun
  pub open_shell : (job : Forked Po P A) (a : Shell Po P A R) → CanRun sees list job → a.port ≡ job.port → a.name ≡ job.name → job.start.state.level ≡ level → a.album ≡ job.album → a.handles.items ≡ []
      → IsShell sees list faults spare level a
  open_shell job a can port name same album handles =
      record {
        live = rw port can.live;
        name = rw (port, name) can.name;
        none_made = λ k pos le is. (let l : length (sees a.port).children ≡ 0 = rw (port, can.children) refl in omega arith);
        low = rw same at can.level;
        room = rw handles (omega arith);
        fits = rw (port, album, handles) (fits_first Po P A R sees list faults level job can);
      }

  -- the last child was waited for
  pub waited_shell :
      (a b : Shell Po P A R) (hs : List (ℕ × Awaited Po P A R)) (k v : ℕ) → IsShell sees list faults spare level a → a.handles.items ≡ hs ++ (k, Joined v) ∷ [] → sees b.port ≡ waited_for (sees a.port) k v
      → b.name ≡ a.name → b.album ≡ a.album → b.handles.items ≡ hs → IsShell sees list faults spare level b
  waited_shell a b hs k v h last port name album handles =
      let x : ℕ × Awaited Po P A R = (k, Joined v) in
      let f : Fits sees list faults level (sees a.port) (list a.album) (hs ++ x ∷ []) = rw last at h.fits in
      let g = fits_waited Po P A R sees list faults level (sees a.port) (waited_for (sees a.port) k v) (list a.album) hs [] k v refl f in
      record {
        live = rw port h.live;
        name = rw port (h.name ∙ sym name);
        none_made = rw port (none_made_set (sees a.port).children (k - 1) Waited (λ q. cc) h.none_made);
        low = h.low;
        room = rw (album, handles) (let r = running_push hs x in let q = h.room in let l = ap running last in omega arith);
        fits = rw (port, album, handles) (rw append-nil at g);
      }

  pub last_begun : (a : Shell Po P A R) (hs : List (ℕ × Awaited Po P A R)) (k v : ℕ) → IsShell sees list faults spare level a → a.handles.items ≡ hs ++ (k, Joined v) ∷ [] → IsIn (sees a.port).children k Begun
  last_begun a hs k v h last =
      let x : ℕ × Awaited Po P A R = (k, Joined v) in
      let e = h.fits.entries k in
      let l = ap (λ (z : List (ℕ × Awaited Po P A R)). sum_by (entry_of k) z) last in
      let c = sum_by-append (entry_of k) hs (x ∷ []) in
      let d = sum_by-cons (entry_of k) x [] in
      let one : entry_of k x ≡ 1 = cond_same k k 1 0 refl in
      let most = at_le is_begun (sees a.port).children k begun_le in is_in_begun (sees a.port).children k (omega arith)

  -- an entry is taken out, and what became of it put last
  pub fits_moved :
      (s : Seen Start) (ends : Option (List (ShellEnd Po A))) (xs ys : List (ℕ × Awaited Po P A R)) (x : ℕ × Awaited Po P A R)
      → Fits sees list faults level s ends (xs ++ x ∷ ys) → Fits sees list faults level s ends ((xs ++ ys) ++ x ∷ [])
  fits_moved s ends xs ys x f =
      let same : (w : ℕ × Awaited Po P A R → ℕ) → sum_by w ((xs ++ ys) ++ x ∷ []) ≡ sum_by w (xs ++ x ∷ ys) = λ w.
      (let a = sum_by-append w (xs ++ ys) (x ∷ []) in
      let b = sum_by-append w xs ys in
      let c = sum_by-append w xs (x ∷ ys) in
      let d = sum_by-cons w x [] in
      let g = sum_by-cons w x ys in omega arith) in
      let parts = all_parts (λ h. WaitFits sees list level s ends h.0 h.1) xs x ys f.waits in
      record {
        entries = λ j. same (entry_of j) ∙ f.entries j;
        kept = told_weaker (IsKept (xs ++ x ∷ ys) s) (IsKept ((xs ++ ys) ++ x ∷ []) s) ends (λ es h j. let a = same (running_of j) in let b = h j in omega arith) f.kept;
        waits = All-push (λ h. WaitFits sees list level s ends h.0 h.1) (xs ++ ys) x (All-append (λ h. WaitFits sees list level s ends h.0 h.1) xs ys parts.0 parts.2) parts.1;
        each = f.each;
        starts = f.starts;
        forks = f.forks;
        begins = f.begins;
        known = f.known;
      }

  pub taken_at :
      (hs : List (ℕ × Awaited Po P A R)) (i : ℕ) (x : ℕ × Awaited Po P A R) → i < length hs → x ≡ get_or hs i x → hs ≡ take i hs ++ x ∷ drop (suc i) hs
  taken_at hs i x lt is = sym (take-append-drop i hs) ∙ (ap (λ (z : List (ℕ × Awaited Po P A R)). take i hs ++ z) (drop-cons hs i x lt ∙ ap (λ (z : ℕ × Awaited Po P A R). z ∷ drop (suc i) hs) (sym is)))

  -- an entry that was joined before
  pub settled_joined :
      (s : Seen Start) (album : A) (hs xs ys : List (ℕ × Awaited Po P A R)) (k v : ℕ) → hs ≡ xs ++ ys → IsJoining sees list faults spare level s album (xs ++ (k, Joined v) ∷ ys)
      → IsJoining sees list faults spare level s album (hs ++ (k, Joined v) ∷ [])
  settled_joined s album hs xs ys k v is j =
      let x : ℕ × Awaited Po P A R = (k, Joined v) in
      record {
        room = rw is (let a = j.room in let b = running_moved xs ys x in omega arith);
        fits = rw is (fits_moved s (list album) xs ys x j.fits);
      }

  -- an entry that ran, with its end
  pub settled_running :
      (s : Seen Start) (old new : A) (hs xs ys : List (ℕ × Awaited Po P A R)) (k : ℕ) (p : OutcomeOf Po P A) (e : ShellEnd Po A) → hs ≡ xs ++ ys
      → IsJoining sees list faults spare level s old (xs ++ (k, Running p) ∷ ys) → Runs sees list faults p.job.value e → list new ≡ with (list old) e → spare old ≤ spare new + 1
      → IsJoining sees list faults spare level s new (hs ++ (k, Joined e.status) ∷ [])
  settled_running s old new hs xs ys k p e is j ran kept left =
      let x : ℕ × Awaited Po P A R = (k, Running p) in
      let y : ℕ × Awaited Po P A R = (k, Joined e.status) in
      record {
        room = rw is (let a = j.room in let b = running_moved xs ys x in let c = running_push (xs ++ ys) x in let d = running_push (xs ++ ys) y in omega arith);
        fits = rw (is, kept) (fits_joined Po P A R sees list faults level s (list old) xs ys k p e ran j.fits);
      }

  pub can_join :
      (s : Seen Start) (album : A) (xs ys : List (ℕ × Awaited Po P A R)) (k : ℕ) (p : OutcomeOf Po P A) → IsJoining sees list faults spare level s album (xs ++ (k, Running p) ∷ ys)
      → CanRun sees list p.job.value × (p.job.value.start.state.level ≡ level + 1)
  can_join s album xs ys k p j =
      let x : ℕ × Awaited Po P A R = (k, Running p) in
      let parts = all_parts (λ h. WaitFits sees list level s (list album) h.0 h.1) xs x ys j.fits.waits in (parts.1.0.can, parts.1.0.level_is)

  -- a fork that was refused
  pub given_back :
      (o a : Shell Po P A R) (start : Start) (e : ForkRefused Start) → IsShell sees list faults spare level o → GivesBack (sees o.port) start standard (sees a.port) e
      → a.name ≡ o.name → a.handles ≡ o.handles → a.album ≡ o.album → a.spawner ≡ o.spawner → IsShell sees list faults spare level a × Stays sees faults o a
  given_back o a start (WantsMemory s) h b name handles album spawner = (
    same_shell o a (sees o.port) h name b.1 h.live refl h.none_made (ap (λ (z : Vec (ℕ × Awaited Po P A R) Global). z.items) handles) (ap list album) (rw album (omega arith)) h.fits,
    stays_quiet o a (sees o.port) name b.1 refl refl refl (ap faults spawner),
  )
  given_back o a start (IsRefused why s) h b name handles album spawner = (
    same_shell o a (not_forked (sees o.port) start standard why) h name b.1 h.live refl h.none_made (ap (λ (z : Vec (ℕ × Awaited Po P A R) Global). z.items) handles) (ap list album) (rw album (omega arith))
        (fits_noted Po P A R sees list faults level (sees o.port) (list o.album) o.handles.items (Fork start standard) (Refused why) (λ k q. cc) (λ k q. cc) (λ k. refl) tt h.fits),
    stays_quiet o a (not_forked (sees o.port) start standard why) name b.1 refl (from_more (sees o.port).origin (sees o.port).done (Fork start standard) (Refused why))
        (no_threads_same (sees o.port).done (Fork start standard) (Refused why) refl) (ap faults spawner),
  )

  -- the loop that joins all: the first entries are still to be joined, the last are joined
  pub record Turned (hs : List (ℕ × Awaited Po P A R)) (n : ℕ) : Type 0 where
    pub front : List (ℕ × Awaited Po P A R)
    pub back : List (ℕ × Awaited Po P A R)
    pub parts : hs ≡ front ++ back
    pub count : length front ≡ n
    pub idle : running back ≡ 0

  pub turned_first : (hs : List (ℕ × Awaited Po P A R)) → Turned hs (length hs)
  turned_first hs = record { front = hs; back = []; parts = sym (append-nil hs); count = refl; idle = refl }

  pub turned_next : (hs new : List (ℕ × Awaited Po P A R)) (n m k v : ℕ) → Turned hs n → n ≡ m + 1 → new ≡ remove hs 0 ++ (k, Joined v) ∷ [] → Turned new m
  turned_next hs new n m k v t next is = step t.front t.back t.parts t.count t.idle
    where
      step : (xs ys : List (ℕ × Awaited Po P A R)) → hs ≡ xs ++ ys → length xs ≡ n → running ys ≡ 0 → Turned new m
      step [] ys e c i = absurd (omega arith)
      step (x ∷ xs) ys e c i = record {
        front = xs;
        back = ys ++ (k, Joined v) ∷ [];
        parts = is ∙ (ap (λ (z : List (ℕ × Awaited Po P A R)). remove z 0 ++ (k, Joined v) ∷ []) e ∙ append_assoc xs ys ((k, Joined v) ∷ []));
        count = omega arith;
        idle = (let a = running_push ys (k, Joined v) in omega arith);
      }

  pub turned_last : (hs : List (ℕ × Awaited Po P A R)) → Turned hs 0 → running hs ≡ 0
  turned_last hs t = last t.front t.back t.parts t.count t.idle
    where
      last : (xs ys : List (ℕ × Awaited Po P A R)) → hs ≡ xs ++ ys → length xs ≡ 0 → running ys ≡ 0 → running hs ≡ 0
      last [] ys e c i = rw e i
      last (x ∷ xs) ys e c i = absurd (omega arith)

  pub taken :
      (sh : Shell Po P A R) (hs : List (ℕ × Awaited Po P A R)) (i : ℕ) (x : ℕ × Awaited Po P A R) → i < length hs → x ≡ get_or hs i x → sh.handles.items ≡ remove hs i
      → IsJoining sees list faults spare level (sees sh.port) sh.album hs → IsTaken sees list faults spare level sh x.0 x.1
  taken sh hs i x lt is left j =
      let Q : List (ℕ × Awaited Po P A R) → Type 0 = λ z. IsJoining sees list faults spare level (sees sh.port) sh.album z in
      record { front = take i hs; back = drop (suc i) hs; rest = left; joining = subst Q (taken_at hs i x lt is) j }

  pub keep_room : (xs ys : List (ℕ × Awaited Po P A R)) (k : ℕ) (p : OutcomeOf Po P A) (m : ℕ) → running (xs ++ (k, Running p) ∷ ys) ≤ m → 0 < m
  keep_room xs ys k p m h =
      let x : ℕ × Awaited Po P A R = (k, Running p) in
      let b = running_moved xs ys x in
      let c = running_push (xs ++ ys) x in omega arith

  -- the same shell with another spawner
  pub pending_again :
      (a b : Shell Po P A R) (k : ℕ) (job : Forked Po P A) → b.name ≡ a.name → b.port ≡ a.port → b.album ≡ a.album → b.handles ≡ a.handles
      → IsPending sees list faults spare level a k job → IsPending sees list faults spare level b k job
  pending_again a b k job name port album handles h =
      record {
        before = h.before;
        seen = rw port h.seen;
        next = h.next;
        live = h.live;
        name = rw name h.name;
        none_made = h.none_made;
        low = h.low;
        room = rw (handles, album) h.room;
        handle = rw handles h.handle;
        fits = rw (album, handles) h.fits;
        can = h.can;
        job_name = h.job_name;
        job_origin = h.job_origin;
        job_level = h.job_level;
      }

  pub noted_more : (a b : Shell Po P A R) → Noted sees 0 a b → Noted sees 1 a b
  noted_more a b n =
      record {
        name = n.name;
        port_name = n.port_name;
        origin = n.origin;
        spawner = n.spawner;
        count = (n.count.0, n.count.1, (let l = n.count.2 in omega arith));
      }

set_last : (xs : List ℕ) (k : ℕ) → set (xs ++ 0 ∷ []) (length xs) k ≡ xs ++ k ∷ []
set_last [] k = refl
set_last (x ∷ xs) k = ap (λ r. x ∷ r) (set_last xs k)

-- the name of a child, its number written last
pub name_set : (ns xs ms : List ℕ) (i k : ℕ) → ns ≡ xs ++ 0 ∷ [] → i ≡ length ns - 1 → ms ≡ set ns i k → ms ≡ xs ++ k ∷ []
name_set ns xs ms i k e at is =
    let l : length ns ≡ length xs + 1 = rw e (length-append xs (0 ∷ [])) in
    let j : i ≡ length xs = omega arith in is ∙ rw (e, j) (set_last xs k)
