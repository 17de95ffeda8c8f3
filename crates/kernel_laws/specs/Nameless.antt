-- The count of nameless files, and the files that it counts.
use Rattle.std.specs.Prelude.{◌≡◌, ℕ, List, count_by}
use Rattle.std.specs.Map.{values_of}
use Rattle.kernel_objects.specs.declared.opened.Opened.{Opened}
use Rattle.kernel_objects.specs.declared.plan.BoxPlan.{BoxPlan}
use Rattle.kernel_core.specs.declared.kernel.Kernel.{Kernel}
use Rattle.kernel_core.specs.Handles.{is_scratch}
use Rattle.kernel_laws.specs.Reached.{Reached}

-- how many open rows are nameless files
abbrev pub nameless_in : List (List ℕ × Opened) → ℕ
nameless_in opens = count_by (λ o. is_scratch o.stream) (values_of opens)

-- of each kernel that a box comes to
abbrev pub CountsNameless : Type 0 → Type 0
CountsNameless F = (plan : BoxPlan) (k : Kernel) → Reached F plan k → k.stores.nameless ≡ nameless_in k.opens
