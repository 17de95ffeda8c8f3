-- What the world of the tests answers.
use Rattle.std.specs.Prelude.{◌≡◌, ◌++◌, ℕ, Bool, true, false, List, [], ◌∷◌, count_by, get_or, if◌then◌else◌}
use Rattle.std.specs.declared.alloc.Global.{Global}
use Rattle.std.specs.declared.vec.Vec.{Vec}
use Rattle.ksh_base.specs.Text.{same_numbers}
use Rattle.kernel_ask.specs.declared.ask.Ask.{Ask}
use Rattle.kernel_ask.specs.declared.ask.Ask.TheVariants.{Asked, Fork, Begin, WaitShell}
use Rattle.kernel_ask.specs.declared.ask.Call.{Call}
use Rattle.kernel_ask.specs.declared.ask.Call.TheVariants.{Write, Close}
use Rattle.kernel_ask.specs.declared.ask.Refusal.TheVariants.{Io, TooMany}
use Rattle.kernel_ask.specs.declared.ask.Answer.{Answer}
use Rattle.kernel_ask.specs.declared.ask.Answer.TheVariants.{Taken, Closed, Refused}
use Rattle.kernel_ask.specs.declared.ask.Entry.{Entry}
use Rattle.kernel_ask.specs.declared.ask.ForkRefused.{ForkRefused}
use Rattle.kernel_ask.specs.declared.ask.ForkRefused.TheVariants.{Memory as WantsMemory, Refused as IsRefused}
use Rattle.kernel_ask.specs.declared.ask.Handle.{Handle}

-- names of shells, each with the answers to its calls
abbrev pub Lists : Type 0
Lists = List (List ℕ × Vec Answer Global)

-- the answers of the first list with that name; none for a shell that isn't listed
abbrev pub answers_for : Lists → List ℕ → List Answer
answers_for [] name = []
answers_for (l ∷ ls) name = if same_numbers l.0 name then l.1.items else answers_for ls name

-- the answer past the list
abbrev pub unlisted : Call → Answer
unlisted (Write _ _) = Taken
unlisted (Close _) = Closed
unlisted _ = Refused Io

abbrev pub is_call : {F : Type 0} → Ask F → Bool
is_call (Asked _) = true
is_call (Fork _ _) = false
is_call (Begin _) = false
is_call (WaitShell _) = false

-- how many calls a transcript has
abbrev pub calls_in : {F : Type 0} → List (Entry F) → ℕ
calls_in es = count_by (λ e. is_call e.ask) es

-- the answer to a shell's next call: that of its list at as many calls as it has made
abbrev pub next_answer : {F : Type 0} → Lists → List ℕ → List (Entry F) → Call → Answer
next_answer lists name done call = get_or (answers_for lists name) (calls_in done) (unlisted call)

-- a fork is refused as TooMany and told so, or there is no memory for it; its start comes back
abbrev pub Refuses : {F : Type 0} → List (Entry F) → F → List Handle → List (Entry F) → ForkRefused F → Type 0
Refuses old start keep new (WantsMemory s) = (s ≡ start) × (new ≡ old)
Refuses old start keep new (IsRefused why s) = (s ≡ start) × (why ≡ TooMany) × (new ≡ old ++ record { ask = Fork start keep; answer = Refused TooMany } ∷ [])
