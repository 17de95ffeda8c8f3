-- A refusal leaves the kernel as it was.
use Rattle.std.specs.Prelude.{◌≡◌, ℕ, List}
use Rattle.kernel_ask.specs.declared.ask.Answer.TheVariants.{Refused}
use Rattle.kernel_ask.specs.declared.ask.Ask.{Ask}
use Rattle.kernel_ask.specs.declared.ask.Refusal.{Refusal}
use Rattle.kernel_core.specs.declared.kernel.Kernel.{Kernel}
use Rattle.kernel_core.specs.Step.{Step}

-- of any kernel
abbrev pub RefusalsKeep : Type 0 → Type 0
RefusalsKeep F = (k : Kernel) (who : List ℕ) (ask : Ask F) (why : Refusal) (new : Kernel) → Step k who ask (Refused why) new → new ≡ k
