-- The count of handles in an open row, and the handles that it counts.
use Rattle.std.specs.Prelude.{◌≡◌, ℕ, ◌+◌, ◌<◌, Bool, false, not, ◌&&◌, List, [], Option, Some, None, count_by, sum_by}
use Rattle.std.specs.Map.{values_of}
use Rattle.ksh_base.specs.Text.{same_numbers}
use Rattle.kernel_objects.specs.declared.opened.Held.{Held}
use Rattle.kernel_objects.specs.declared.opened.Opened.{Opened}
use Rattle.kernel_objects.specs.declared.opened.Side.{Side}
use Rattle.kernel_objects.specs.declared.plan.BoxPlan.{BoxPlan}
use Rattle.kernel_objects.specs.declared.shell.Shell.{Shell}
use Rattle.kernel_objects.specs.Rows.{at_name}
use Rattle.kernel_core.specs.declared.kernel.Kernel.{Kernel}
use Rattle.kernel_core.specs.Handles.{is_reading}
use Rattle.kernel_laws.specs.Reached.{Reached}

-- a handle that isn't for reading
abbrev pub only_writes : Side → Bool
only_writes side = not (is_reading side)

-- the handle stands for that row, on such a side
abbrev pub stands : (Side → Bool) → List ℕ → Held → Bool
stands good row held = same_numbers held.row row && good held.side

-- how many of those handles do
abbrev pub standing_among : (Side → Bool) → List ℕ → List (ℕ × Held) → ℕ
standing_among good row handles = count_by (stands good row) (values_of handles)

-- how many handles of all those shells do
abbrev pub standing : (Side → Bool) → List ℕ → List (List ℕ × Shell) → ℕ
standing good row shells = sum_by (λ s. standing_among good row s.handles) (values_of shells)

-- an open row counts the handles that stand for it, and there is one; none stands for what isn't open
abbrev pub CountsAs : ℕ → ℕ → Option Opened → Type 0
CountsAs reading writing None = (reading ≡ 0) × (writing ≡ 0)
CountsAs reading writing (Some o) = (o.readers ≡ reading) × (o.writers ≡ writing) × (0 < reading + writing)

abbrev pub IsCounted : Kernel → List ℕ → Type 0
IsCounted k row = CountsAs (standing is_reading row k.shells) (standing only_writes row k.shells) (at_name row k.opens)

abbrev pub HoldsNoneEnded : Option Shell → Type 0
HoldsNoneEnded None = Unit {0}
HoldsNoneEnded (Some s) = s.live ≡ false → s.handles ≡ []

-- of each kernel that a box comes to
abbrev pub CountsHandles : Type 0 → Type 0
CountsHandles F = (plan : BoxPlan) (k : Kernel) (row : List ℕ) → Reached F plan k → IsCounted k row

abbrev pub EndedHoldNone : Type 0 → Type 0
EndedHoldNone F = (plan : BoxPlan) (k : Kernel) (who : List ℕ) → Reached F plan k → HoldsNoneEnded (at_name who k.shells)
