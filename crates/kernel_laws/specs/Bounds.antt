-- How much the shells of a box come to hold.
use Rattle.std.specs.Prelude.{◌≡◌, ℕ, ◌+◌, ◌≤◌, List, length, None, IfSome}
use Rattle.kernel_objects.specs.declared.plan.BoxPlan.{BoxPlan}
use Rattle.kernel_objects.specs.declared.shell.Shell.{Shell}
use Rattle.kernel_objects.specs.Rows.{at_name, at_number}
use Rattle.kernel_core.specs.declared.kernel.Kernel.{Kernel}
use Rattle.kernel_core.specs.Limits.{most_handles, most_number, most_shells}
use Rattle.kernel_laws.specs.Reached.{Reached}

-- a shell within its limits: its handles' numbers are below the next one
pub record IsWithin (s : Shell) : Type 0 where
  pub few : length s.handles ≤ most_handles
  pub numbered : (n : ℕ) → s.next ≤ n → at_number n s.handles ≡ None
  pub next : s.next ≤ most_number + 1
  pub started : s.started ≤ most_number

-- of each kernel that a box comes to
abbrev pub HasBounds : Type 0 → Type 0
HasBounds F = (plan : BoxPlan) (k : Kernel) → Reached F plan k → (length k.shells ≤ most_shells) × ((who : List ℕ) → IfSome (at_name who k.shells) IsWithin)
