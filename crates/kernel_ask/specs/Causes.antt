-- Counts of what went wrong.
use Rattle.std.specs.Prelude.{◌≡◌, ℕ, ◌+◌, ◌-◌, ◌^◌, ◌≤◌, min, List, Option, Some, None, sum_by, OnErr}
use Rattle.std.specs.declared.result.Result.{Result}
use Rattle.kernel_ask.specs.declared.ask.Answer.{Answer}
use Rattle.kernel_ask.specs.declared.ask.Answer.TheVariants.{Refused}
use Rattle.kernel_ask.specs.declared.ask.Entry.{Entry}
use Rattle.kernel_ask.specs.declared.ask.ForkRefused.{ForkRefused}
use Rattle.kernel_ask.specs.declared.ask.ForkRefused.TheVariants.{Memory as WantsMemory, Refused as IsRefused}

-- a count rose by n at least, or stands at its type's end
abbrev pub RoseBy : ℕ → ℕ → ℕ → Type 0
RoseBy n before now = (before ≤ now) × (min (before + n) (2 ^ 64 - 1) ≤ now)

-- what a call says of a count of faults: it never falls, and an error comes only where it rose
pub record HasCause {T E : Type 0} (before now : ℕ) (result : Result T E) : Type 0 where
  pub later : before ≤ now
  pub failed : OnErr result (RoseBy 1 before now)

-- a refusal comes only where the count of refusals rose; no other answer changes it
abbrev pub CountsRefusal : ℕ → ℕ → Answer → Type 0
CountsRefusal before now (Refused _) = RoseBy 1 before now
CountsRefusal before now _ = now ≡ before

-- the same of a fork that was not made
abbrev pub CountsForkRefusal : {F : Type 0} → ℕ → ℕ → ForkRefused F → Type 0
CountsForkRefusal before now (IsRefused _ _) = RoseBy 1 before now
CountsForkRefusal before now (WantsMemory _) = now ≡ before

abbrev pub is_refusal : Answer → ℕ
is_refusal (Refused _) = 1
is_refusal _ = 0

-- how many asks of a transcript were refused
abbrev pub refused_in : {F : Type 0} → List (Entry F) → ℕ
refused_in es = sum_by (λ e. is_refusal e.answer) es

-- a transcript that is told has at most as many refusals as were counted, or the count stands at its type's end
abbrev pub CoversRefusals : {F : Type 0} → Option (List (Entry F)) → ℕ → Type 0
CoversRefusals None count = Unit {0}
CoversRefusals (Some es) count = min (refused_in es) (2 ^ 64 - 1) ≤ count
