-- The kernels that a box comes to.
use Rattle.std.specs.Prelude.{◌≡◌, ℕ, true, List, Ok}
use Rattle.kernel_ask.specs.declared.ask.Answer.{Answer}
use Rattle.kernel_ask.specs.declared.ask.Ask.{Ask}
use Rattle.kernel_objects.specs.declared.plan.BoxPlan.{BoxPlan}
use Rattle.kernel_core.specs.declared.kernel.Kernel.{Kernel}
use Rattle.kernel_core.specs.Forks.{lives}
use Rattle.kernel_core.specs.Handles.{ended}
use Rattle.kernel_core.specs.Opening.{plan_kernel}
use Rattle.kernel_core.specs.Step.{Step}

-- the box of the plan opens, its shells ask, and each ends where it will
pub data Reached (F : Type 0) (plan : BoxPlan) : Kernel → Type 0 where
  Opens : (k : Kernel) → plan_kernel plan ≡ Ok k → Reached F plan k
  Asks : (k : Kernel) (who : List ℕ) (ask : Ask F) (answer : Answer) (new : Kernel) → Reached F plan k → Step k who ask answer new → Reached F plan new
  Ends : (k : Kernel) (who : List ℕ) (new : Kernel) → Reached F plan k → lives k who ≡ true → new ≡ ended k who → Reached F plan new
