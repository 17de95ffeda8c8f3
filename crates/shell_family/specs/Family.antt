-- A family of shells, and what a job promises.
use Rattle.std.specs.Prelude.{◌≡◌, ◌≢◌, ℕ, ◌+◌, ◌*◌, ◌-◌, ◌^◌, ◌<◌, ◌≤◌, Bool, true, false, List, [], ◌∷◌, ◌++◌, All, sum_by, eqb, cond, Option, Some, None}
use Rattle.std.proofs.Common.{zero, suc}
use Rattle.ksh_meaning.specs.Subshell.{standard}
use Rattle.kernel_ask.specs.Seen.{Seen}
use Rattle.kernel_ask.specs.declared.ask.Answer.{Answer}
use Rattle.kernel_ask.specs.declared.ask.Answer.TheVariants.{Forked as SaysForked, Begun as SaysBegun, NoThread, ShellEnded}
use Rattle.kernel_ask.specs.declared.ask.Ask.TheVariants.{Fork, Begin, WaitShell}
use Rattle.shell_thread.specs.declared.album.ShellEnd.{ShellEnd}
use Rattle.shell_thread.specs.declared.album.ShellStop.TheVariants.{Unrun, Before, Spent, Memory}
use Rattle.shell_family.specs.Told.{from, ForTold, Has, Saw, Only, ForksStart, forks_in, at_child, is_unrun, is_settled}
use Rattle.shell_family.specs.Meaning.{RunTold}
use Rattle.shell_state.specs.declared.start.Start.{Start}
use Rattle.shell_state.specs.declared.state.ShellState.{ShellState}
use Rattle.shell_family.specs.declared.forked.Forked.{Forked}
use Rattle.shell_family.specs.declared.forked.Outcome.{Outcome}
use Rattle.shell_family.specs.declared.forked.Outcome.TheVariants.{Ran, Back}

abbrev pub last_from : ℕ → List ℕ → ℕ
last_from x [] = x
last_from x (y ∷ ys) = last_from y ys

-- the number of a shell among its parent's children
abbrev pub number : {Po A : Type 0} → ShellEnd Po A → ℕ
number e = last_from 0 e.name

-- whether it is the end of child k
abbrev pub named : {Po A : Type 0} → ℕ → ShellEnd Po A → ℕ
named k c = cond (eqb k (number c)) 1 0

-- The transcript of a shell beside its children: each fork is followed at once by its Begin, each child was forked
-- once, and none but children are begun and waited for.
pub record IsOrderly (s : Seen Start) : Type 0 where
  pub starts : ForTold s.done ForksStart
  pub forks : ForTold s.done (λ es. (k : ℕ) → forks_in k es ≡ at_child is_settled s.children k)
  pub begins : (k : ℕ) (a : Answer) → Saw s.done (Begin k) a → at_child is_settled s.children k ≡ 1
  pub waits : (k v : ℕ) → Saw s.done (WaitShell k) (ShellEnded v) → at_child is_settled s.children k ≡ 1

-- the end of a child, beside what its parent's port tells; `faults` counts what a spawner could not start
pub record ChildFits {Po P A : Type 0} (sees : Po → Seen Start) (faults : P → ℕ) (s : Seen Start) (c : ShellEnd Po A) : Type 0 where
  pub name : c.name ≡ s.name ++ number c ∷ []
  pub over : (sees c.port).live ≡ false
  pub port_name : (sees c.port).name ≡ c.name
  pub origin : from (sees c.port) ≡ from s
  pub child : at_child is_settled s.children (number c) ≡ 1
  pub unrun : c.stop ≡ Unrun → at_child is_unrun s.children (number c) ≡ 1
  pub ran : (c.stop ≡ Unrun → ⊥) → at_child is_unrun s.children (number c) ≡ 0
  pub no_thread : c.stop ≡ Unrun → Only s.done (Begin (number c)) NoThread
  pub begun : (c.stop ≡ Unrun → ⊥) → Only s.done (Begin (number c)) SaysBegun
  pub fault : c.stop ≡ Unrun → (p : P) × (0 < faults p)
  pub run : (start : Start) × Has s.done (Fork start standard) (SaysForked (number c)) × RunTold start (sees c.port).done c.stop c.status
  pub waited : (v : ℕ) → Saw s.done (WaitShell (number c)) (ShellEnded v) → v ≡ c.status

-- the transcript is in order, and the album has one end for each child and no other, to this depth
abbrev pub FamilyTo : {Po P A : Type 0} → (Po → Seen Start) → (A → Option (List (ShellEnd Po A))) → (P → ℕ) → ℕ → ShellEnd Po A → Type 0
FamilyTo sees list faults zero e = Unit {0}
FamilyTo sees list faults (suc n) e =
    IsOrderly (sees e.port)
    × ForTold (list e.album)
    (λ ends. ((k : ℕ) → sum_by (named k) ends ≡ at_child is_settled (sees e.port).children k)
    × All (λ c. ChildFits sees faults (sees e.port) c × FamilyTo sees list faults n c) ends)

-- the same at any depth
abbrev pub Family : {Po P A : Type 0} → (Po → Seen Start) → (A → Option (List (ShellEnd Po A))) → (P → ℕ) → ShellEnd Po A → Type 0
Family sees list faults e = (n : ℕ) → FamilyTo sees list faults n e

pub record CanRun {Po P A : Type 0} (sees : Po → Seen Start) (list : A → Option (List (ShellEnd Po A))) (job : Forked Po P A) : Type 0 where
  pub live : (sees job.port).live ≡ true
  pub name : (sees job.port).name ≡ job.name
  pub children : (sees job.port).children ≡ []
  pub done : ForTold (sees job.port).done (λ es. es ≡ [])
  pub album : ForTold (list job.album) (λ ends. ends ≡ [])
  pub level : job.start.state.level ≤ 64
  pub budget : job.start.state.budget < 2 ^ 64

pub record Runs {Po P A : Type 0} (sees : Po → Seen Start) (list : A → Option (List (ShellEnd Po A))) (faults : P → ℕ) (job : Forked Po P A) (e : ShellEnd Po A) : Type 0 where
  pub name : e.name ≡ job.name
  pub over : (sees e.port).live ≡ false
  pub port_name : (sees e.port).name ≡ job.name
  pub origin : from (sees e.port) ≡ from (sees job.port)
  pub ran : e.stop ≡ Unrun → ⊥
  pub listed : e.stop ≡ Before → ⊥
  pub spent : e.stop ≡ Spent → e.status ≡ 123
  pub lost : e.stop ≡ Memory → e.status ≡ 121
  pub run : RunTold job.start (sees e.port).done e.stop e.status
  pub family : Family sees list faults e

-- a job that ran left its end, and a job that did not is as it was
abbrev pub Keeps : {Po P A : Type 0} → (Po → Seen Start) → (A → Option (List (ShellEnd Po A))) → (P → ℕ) → Forked Po P A → Outcome Po P A → Type 0
Keeps sees list faults job (Ran e) = Runs sees list faults job e
Keeps sees list faults job (Back j) = j ≡ job

-- the levels below a shell
abbrev pub below : ℕ → ℕ
below level = (64 - level) * 2 ^ 70

-- what a shell may still do: levels below it, then units
abbrev pub left : ShellState → ℕ
left s = below s.level + s.budget * 16
