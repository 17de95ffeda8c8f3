-- What a port knows of its shell, and what each call leaves.
use Rattle.std.specs.Prelude.{◌≡◌, ◌≢◌, ℕ, ◌+◌, ◌-◌, ◌<◌, ◌≤◌, Bool, true, false, cond, List, [], ◌∷◌, ◌++◌, length, Option, Some, None, slice_index_or, slice_set}
use Rattle.kernel_ask.specs.declared.ask.Handle.{Handle}
use Rattle.kernel_ask.specs.declared.ask.Call.{Call}
use Rattle.kernel_ask.specs.declared.ask.Refusal.{Refusal}
use Rattle.kernel_ask.specs.declared.ask.Refusal.TheVariants.{TooMany}
use Rattle.kernel_ask.specs.declared.ask.Answer.{Answer}
use Rattle.kernel_ask.specs.declared.ask.Answer.TheVariants.{Forked, Refused, Begun as SaysBegun, NoThread, ShellEnded}
use Rattle.kernel_ask.specs.declared.ask.Ask.{Ask}
use Rattle.kernel_ask.specs.declared.ask.Ask.TheVariants.{Asked, Fork, Begin, WaitShell}
use Rattle.kernel_ask.specs.declared.ask.Entry.{Entry}
use Rattle.kernel_ask.specs.declared.ask.Phase.{Phase}
use Rattle.kernel_ask.specs.declared.ask.Phase.TheVariants.{Made, Begun, Unrun, Waited}
use Rattle.kernel_ask.specs.declared.ask.ForkRefused.{ForkRefused}
use Rattle.kernel_ask.specs.declared.ask.ForkRefused.TheVariants.{Memory as WantsMemory, Refused as IsRefused}

-- what a port tells: the transcript, where it is told, and the phase of each child
pub record Seen (F : Type 0) : Type 0 where
  pub done : Option (List (Entry F))
  pub children : List Phase
  pub live : Bool
  pub name : List ℕ
  pub origin : ℕ

-- a transcript that is told is empty at first
abbrev pub empty_where : {F : Type 0} → Bool → Option (List (Entry F))
empty_where told = cond told (Some []) None

-- one entry more, where the transcript is told
abbrev pub more : {F : Type 0} → Option (List (Entry F)) → Ask F → Answer → Option (List (Entry F))
more None ask answer = None
more (Some es) ask answer = Some (es ++ record { ask = ask; answer = answer } ∷ [])

-- empty where the other is told
abbrev pub emptied : {F : Type 0} → Option (List (Entry F)) → Option (List (Entry F))
emptied None = None
emptied (Some _) = Some []

-- the phase of child k; children count from 1
abbrev pub phase : List Phase → ℕ → Phase
phase children k = slice_index_or children (k - 1) Unrun

-- k is a child, in this phase
abbrev pub IsIn : List Phase → ℕ → Phase → Type 0
IsIn children k p = (0 < k) × (k ≤ length children) × (phase children k ≡ p)

abbrev pub NoneMade : List Phase → Type 0
NoneMade children = (k : ℕ) → 0 < k → k ≤ length children → phase children k ≢ Made

-- what a root's port tells
abbrev pub root_of : {F : Type 0} → ℕ → Bool → Seen F
root_of origin told = record { done = empty_where told; children = []; live = true; name = []; origin = origin }

abbrev pub acted : {F : Type 0} → Seen F → Call → Answer → Seen F
acted s call answer = record s { done = more s.done (Asked call) answer }

abbrev pub forked : {F : Type 0} → Seen F → F → List Handle → Seen F
forked s start keep = record s { done = more s.done (Fork start keep) (Forked (length s.children + 1)); children = s.children ++ Made ∷ [] }

abbrev pub not_forked : {F : Type 0} → Seen F → F → List Handle → Refusal → Seen F
not_forked s start keep why = record s { done = more s.done (Fork start keep) (Refused why) }

-- what the port of the child k tells at first
abbrev pub child_of : {F : Type 0} → Seen F → ℕ → Seen F
child_of s k = record { done = emptied s.done; children = []; live = true; name = s.name ++ k ∷ []; origin = s.origin }

abbrev pub marked : {F : Type 0} → Seen F → ℕ → Bool → Seen F
marked s k begun = record s { done = more s.done (Begin k) (cond begun SaysBegun NoThread); children = slice_set s.children (k - 1) (cond begun Begun Unrun) }

abbrev pub waited_for : {F : Type 0} → Seen F → ℕ → ℕ → Seen F
waited_for s k status = record s { done = more s.done (WaitShell k) (ShellEnded status); children = slice_set s.children (k - 1) Waited }

abbrev pub ended : {F : Type 0} → Seen F → Seen F
ended s = record s { live = false }

-- the start comes back; a refusal is told, want of memory is not
abbrev pub GivesBack : {F : Type 0} → Seen F → F → List Handle → Seen F → ForkRefused F → Type 0
GivesBack old start keep new (WantsMemory s) = (s ≡ start) × (new ≡ old)
GivesBack old start keep new (IsRefused why s) = (s ≡ start) × (new ≡ not_forked old start keep why)

-- a shell forks at most as often as a number of 32 bits can count
abbrev pub most_forks : ℕ
most_forks = 4294967295

-- past the last number the refusal is TooMany
abbrev pub SaysTooMany : {F : Type 0} → List Phase → ForkRefused F → Type 0
SaysTooMany children (WantsMemory _) = Unit {0}
SaysTooMany children (IsRefused why _) = most_forks ≤ length children → why ≡ TooMany
