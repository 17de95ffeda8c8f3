-- What a running shell keeps.
use Rattle.std.specs.Prelude.{◌≡◌, ◌≢◌, ℕ, ◌+◌, ◌^◌, ◌<◌, ◌≤◌, vec_len, vec_capacity, slice_index_or, Bool, true, eqb, cond, List, [], ◌∷◌, ◌++◌, map, All, sum_by, length, Option, Some, None}
use Rattle.ksh_meaning.specs.Subshell.{standard}
use Rattle.kernel_ask.specs.Seen.{Seen, NoneMade, forked}
use Rattle.kernel_ask.specs.Causes.{RoseBy}
use Rattle.kernel_ask.specs.declared.ask.Answer.{Answer}
use Rattle.kernel_ask.specs.declared.ask.Answer.TheVariants.{Forked as SaysForked, Begun as SaysBegun, NoThread, ShellEnded}
use Rattle.kernel_ask.specs.declared.ask.Ask.TheVariants.{Fork, Begin, WaitShell}
use Rattle.shell_thread.specs.declared.album.ShellEnd.{ShellEnd}
use Rattle.shell_family.specs.Told.{from, ForTold, Has, Saw, Only, ForksStart, forks_in, at_child, is_begun, is_waited, is_settled, no_threads}
use Rattle.shell_family.specs.Family.{number, named, ChildFits, Family, CanRun}
use Rattle.shell_state.specs.declared.start.Start.{Start}
use Rattle.shell_family.specs.declared.forked.Forked.{Forked}
use Rattle.shell_family.specs.declared.forked.Awaited.{Awaited}
use Rattle.shell_family.specs.declared.forked.Awaited.TheVariants.{Running, Joined}
use Rattle.shell_family.specs.declared.forked.Shell.{Shell}

abbrev pub is_running : {Po P A R : Type 0} → Awaited Po P A R → ℕ
is_running (Running _) = 1
is_running (Joined _) = 0

-- whether the entry is the one of child k
abbrev pub entry_of : {X : Type 0} → ℕ → ℕ × X → ℕ
entry_of k h = cond (eqb k h.0) 1 0

abbrev pub running_of : {Po P A R : Type 0} → ℕ → ℕ × Awaited Po P A R → ℕ
running_of k h = cond (eqb k h.0) (is_running h.1) 0

abbrev pub running : {Po P A R : Type 0} → List (ℕ × Awaited Po P A R) → ℕ
running hs = sum_by (λ h. is_running h.1) hs

-- the job of child k
pub record JobFits {Po P A : Type 0} (sees : Po → Seen Start) (list : A → Option (List (ShellEnd Po A))) (level : ℕ) (s : Seen Start) (k : ℕ) (job : Forked Po P A) : Type 0 where
  pub can : CanRun sees list job
  pub name : job.name ≡ s.name ++ k ∷ []
  pub origin : from (sees job.port) ≡ from s
  pub level_is : job.start.state.level ≡ level + 1
  pub forked : Has s.done (Fork job.start standard) (SaysForked k)

abbrev pub WaitFits : {Po P A R : Type 0} → (Po → Seen Start) → (A → Option (List (ShellEnd Po A))) → ℕ → Seen Start → Option (List (ShellEnd Po A)) → ℕ → Awaited Po P A R → Type 0
WaitFits sees list level s ends k (Running p) = JobFits sees list level s k p.job.value × Only s.done (Begin k) SaysBegun
WaitFits sees list level s ends k (Joined v) = ForTold ends (λ es. All (λ c. number c ≡ k → c.status ≡ v) es)

abbrev pub IsKept : {Po P A R : Type 0} → List (ℕ × Awaited Po P A R) → Seen Start → List (ShellEnd Po A) → Type 0
IsKept hs s es = (k : ℕ) → sum_by (named k) es + sum_by (running_of k) hs ≡ at_child is_settled s.children k

abbrev pub IsEach : {Po P A : Type 0} → (Po → Seen Start) → (A → Option (List (ShellEnd Po A))) → (P → ℕ) → Seen Start → List (ShellEnd Po A) → Type 0
IsEach sees list faults s es = All (λ c. ChildFits sees faults s c × Family sees list faults c) es

pub record Fits {Po P A R : Type 0} (sees : Po → Seen Start) (list : A → Option (List (ShellEnd Po A))) (faults : P → ℕ) (level : ℕ) (s : Seen Start) (ends : Option (List (ShellEnd Po A))) (hs : List (ℕ × Awaited Po P A R)) : Type 0 where
  -- one entry for each Begun child, and no other
  pub entries : (k : ℕ) → sum_by (entry_of k) hs ≡ at_child is_begun s.children k
  -- one end for each child that was begun or found no thread, but those that still run, and no other
  pub kept : ForTold ends (IsKept hs s)
  pub waits : All (λ h. WaitFits sees list level s ends h.0 h.1) hs
  pub each : ForTold ends (IsEach sees list faults s)
  -- each fork is followed at once by its Begin, each child was forked once, and none but children are begun
  pub starts : ForTold s.done ForksStart
  pub forks : ForTold s.done (λ es. (k : ℕ) → forks_in k es ≡ at_child is_settled s.children k)
  pub begins : (k : ℕ) (a : Answer) → Saw s.done (Begin k) a → at_child is_settled s.children k ≡ 1
  pub known : (k v : ℕ) → Saw s.done (WaitShell k) (ShellEnded v) → at_child is_waited s.children k ≡ 1

-- what a shell is between two commands
pub record IsShell {Po P A R : Type 0} (sees : Po → Seen Start) (list : A → Option (List (ShellEnd Po A))) (faults : P → ℕ) (spare : A → ℕ) (level : ℕ) (sh : Shell Po P A R) : Type 0 where
  pub live : (sees sh.port).live ≡ true
  pub name : (sees sh.port).name ≡ sh.name
  pub none_made : NoneMade (sees sh.port).children
  pub low : level ≤ 64
  pub room : running sh.handles.items ≤ spare sh.album
  pub fits : Fits sees list faults level (sees sh.port) (list sh.album) sh.handles.items

-- what no command changes; and the starts that found no thread have a fault each for their cause
pub record Stays {Po P A R : Type 0} (sees : Po → Seen Start) (faults : P → ℕ) (old new : Shell Po P A R) : Type 0 where
  pub name : new.name ≡ old.name
  pub port_name : (sees new.port).name ≡ (sees old.port).name
  pub origin : from (sees new.port) ≡ from (sees old.port)
  pub rise : (n : ℕ) × (no_threads (sees new.port).done ≡ no_threads (sees old.port).done + n) × RoseBy n (faults old.spawner) (faults new.spawner)

-- a fork was recorded, and the child is to be started
pub record IsPending {Po P A R : Type 0} (sees : Po → Seen Start) (list : A → Option (List (ShellEnd Po A))) (faults : P → ℕ) (spare : A → ℕ) (level : ℕ) (sh : Shell Po P A R) (k : ℕ) (job : Forked Po P A) : Type 0 where
  pub before : Seen Start
  pub seen : sees sh.port ≡ forked before job.start standard
  pub next : k ≡ length before.children + 1
  pub live : before.live ≡ true
  pub name : before.name ≡ sh.name
  pub none_made : NoneMade before.children
  pub low : level ≤ 64
  pub room : running sh.handles.items < spare sh.album
  pub handle : vec_len sh.handles < vec_capacity sh.handles
  pub fits : Fits sees list faults level before (list sh.album) sh.handles.items
  pub can : CanRun sees list job
  pub job_name : job.name ≡ before.name ++ k ∷ []
  pub job_origin : from (sees job.port) ≡ from before
  pub job_level : job.start.state.level ≡ level + 1

-- what is left of a shell when it joins its children
pub record IsJoining {Po P A R : Type 0} (sees : Po → Seen Start) (list : A → Option (List (ShellEnd Po A))) (faults : P → ℕ) (spare : A → ℕ) (level : ℕ) (s : Seen Start) (album : A) (hs : List (ℕ × Awaited Po P A R)) : Type 0 where
  pub room : running hs ≤ spare album
  pub fits : Fits sees list faults level s (list album) hs

-- what noting a child changes: at most m entries say that no thread was had
pub record Noted {Po P A R : Type 0} (sees : Po → Seen Start) (m : ℕ) (old new : Shell Po P A R) : Type 0 where
  pub name : new.name ≡ old.name
  pub port_name : (sees new.port).name ≡ (sees old.port).name
  pub origin : from (sees new.port) ≡ from (sees old.port)
  pub spawner : new.spawner ≡ old.spawner
  pub count : (n : ℕ) × (no_threads (sees new.port).done ≡ no_threads (sees old.port).done + n) × (n ≤ m)

-- an entry was taken out of the handles
pub record IsTaken {Po P A R : Type 0} (sees : Po → Seen Start) (list : A → Option (List (ShellEnd Po A))) (faults : P → ℕ) (spare : A → ℕ) (level : ℕ) (sh : Shell Po P A R) (k : ℕ) (w : Awaited Po P A R) : Type 0 where
  pub front : List (ℕ × Awaited Po P A R)
  pub back : List (ℕ × Awaited Po P A R)
  pub rest : sh.handles.items ≡ front ++ back
  pub joining : IsJoining sees list faults spare level (sees sh.port) sh.album (front ++ (k, w) ∷ back)

-- what joining leaves of a shell
pub record IsSame {Po P A R : Type 0} (old new : Shell Po P A R) : Type 0 where
  pub port : new.port ≡ old.port
  pub name : new.name ≡ old.name
  pub spawner : new.spawner ≡ old.spawner

-- the entry of child k stands last
pub record IsLast {Po P A R : Type 0} (hs : List (ℕ × Awaited Po P A R)) (k : ℕ) : Type 0 where
  pub front : List (ℕ × Awaited Po P A R)
  pub entry : Awaited Po P A R
  pub is : hs ≡ front ++ (k, entry) ∷ []

-- the entry at this place is the one of child k
pub record IsAt {Po P A R : Type 0} (hs : List (ℕ × Awaited Po P A R)) (at k : ℕ) : Type 0 where
  pub entry : Awaited Po P A R
  pub found : (k, entry) ≡ slice_index_or hs at (k, entry)
