-- Lists that may not be told, and counts over them.
use Rattle.std.specs.Prelude.{◌≡◌, ℕ, ◌+◌, eqb, cond, ◌⊎◌, List, [], ◌∷◌, Option, Some, None, is_some, Bool}
use Rattle.std.proofs.Common.{zero, suc}
use Rattle.kernel_ask.specs.Seen.{Seen}
use Rattle.kernel_ask.specs.declared.ask.Answer.{Answer}
use Rattle.kernel_ask.specs.declared.ask.Ask.{Ask}
use Rattle.kernel_ask.specs.declared.ask.Ask.TheVariants.{Asked, Fork, Begin, WaitShell}
use Rattle.kernel_ask.specs.declared.ask.Entry.{Entry}
use Rattle.kernel_ask.specs.declared.ask.Phase.{Phase}
use Rattle.kernel_ask.specs.declared.ask.Phase.TheVariants.{Made, Begun, Unrun, Waited}
use Rattle.kernel_ask.specs.declared.ask.Answer.TheVariants.{Forked, Refused, Begun as SaysBegun, NoThread, ShellEnded}

abbrev pub ForTold : {X : Type 0} → Option X → (X → Type 0) → Type 0
ForTold None P = Unit {0}
ForTold (Some x) P = P x

-- which world a port is of, and whether it tells its transcript; no call changes either
abbrev pub from : {F : Type 0} → Seen F → ℕ × Bool
from s = (s.origin, is_some s.done)

abbrev pub In : {X : Type 0} → X → List X → Type 0
In x [] = ⊥
In x (y ∷ ys) = (x ≡ y) ⊎ In x ys

-- the entry stands in the transcript, where it is told
abbrev pub Has : {F : Type 0} → Option (List (Entry F)) → Ask F → Answer → Type 0
Has None ask answer = Unit {0}
Has (Some es) ask answer = In record { ask = ask; answer = answer } es

-- the transcript is told, and the entry stands in it
abbrev pub Saw : {F : Type 0} → Option (List (Entry F)) → Ask F → Answer → Type 0
Saw None ask answer = ⊥
Saw (Some es) ask answer = In record { ask = ask; answer = answer } es

-- the ask stands in the transcript, where it is told, and has this answer wherever it stands
abbrev pub Only : {F : Type 0} → Option (List (Entry F)) → Ask F → Answer → Type 0
Only done ask answer = Has done ask answer × ((a : Answer) → Saw done ask a → a ≡ answer)

-- the next entry is the start of child k
abbrev pub Starts : {F : Type 0} → ℕ → List (Entry F) → Type 0
Starts k [] = ⊥
Starts k (e ∷ es) = (e.ask ≡ Begin k) × ((e.answer ≡ SaysBegun) ⊎ (e.answer ≡ NoThread))

abbrev pub StartsForked : {F : Type 0} → Answer → List (Entry F) → Type 0
StartsForked (Forked k) es = Starts k es
StartsForked _ es = Unit {0}

abbrev pub Follows : {F : Type 0} → Ask F → Answer → List (Entry F) → Type 0
Follows (Fork s keep) answer es = StartsForked answer es
Follows (Asked c) answer es = Unit {0}
Follows (Begin k) answer es = Unit {0}
Follows (WaitShell k) answer es = Unit {0}

-- each entry of a child that was forked is followed at once by its Begin
abbrev pub ForksStart : {F : Type 0} → List (Entry F) → Type 0
ForksStart [] = Unit {0}
ForksStart (e ∷ es) = Follows e.ask e.answer es × ForksStart es

abbrev pub is_fork_of : ℕ → Answer → ℕ
is_fork_of k (Forked j) = cond (eqb k j) 1 0
is_fork_of k _ = 0

-- whether it is the entry of the fork of child k
abbrev pub fork_of : {F : Type 0} → ℕ → Ask F → Answer → ℕ
fork_of k (Fork s keep) answer = is_fork_of k answer
fork_of k (Asked c) answer = 0
fork_of k (Begin j) answer = 0
fork_of k (WaitShell j) answer = 0

-- how often a transcript says that child k was forked
abbrev pub forks_in : {F : Type 0} → ℕ → List (Entry F) → ℕ
forks_in k [] = 0
forks_in k (e ∷ es) = fork_of k e.ask e.answer + forks_in k es

-- the weight of the phase of child k, 0 where there is none; children count from 1
abbrev pub at_child : (Phase → ℕ) → List Phase → ℕ → ℕ
at_child w [] k = 0
at_child w (p ∷ ps) zero = 0
at_child w (p ∷ ps) (suc zero) = w p
at_child w (p ∷ ps) (suc (suc k)) = at_child w ps (suc k)

abbrev pub is_begun : Phase → ℕ
is_begun Made = 0
is_begun Begun = 1
is_begun Unrun = 0
is_begun Waited = 0

abbrev pub is_unrun : Phase → ℕ
is_unrun Made = 0
is_unrun Begun = 0
is_unrun Unrun = 1
is_unrun Waited = 0

abbrev pub is_waited : Phase → ℕ
is_waited Made = 0
is_waited Begun = 0
is_waited Unrun = 0
is_waited Waited = 1

abbrev pub is_settled : Phase → ℕ
is_settled Made = 0
is_settled Begun = 1
is_settled Unrun = 1
is_settled Waited = 1

abbrev pub is_made : Phase → ℕ
is_made Made = 1
is_made Begun = 0
is_made Unrun = 0
is_made Waited = 0

abbrev pub is_no_thread : Answer → ℕ
is_no_thread NoThread = 1
is_no_thread _ = 0

-- whether it is the entry of a start that found no thread
abbrev pub is_unstarted : {F : Type 0} → Ask F → Answer → ℕ
is_unstarted (Begin k) answer = is_no_thread answer
is_unstarted (Asked c) answer = 0
is_unstarted (Fork s keep) answer = 0
is_unstarted (WaitShell k) answer = 0

-- how many starts found no thread
abbrev pub no_threads_in : {F : Type 0} → List (Entry F) → ℕ
no_threads_in [] = 0
no_threads_in (e ∷ es) = is_unstarted e.ask e.answer + no_threads_in es

abbrev pub no_threads : {F : Type 0} → Option (List (Entry F)) → ℕ
no_threads None = 0
no_threads (Some es) = no_threads_in es
