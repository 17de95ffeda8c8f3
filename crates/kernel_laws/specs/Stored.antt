-- How much the files and pipes of a box come to hold.
use Rattle.std.specs.Prelude.{ℕ, ◌+◌, ◌≤◌, List, length, IfSome}
use Rattle.kernel_objects.specs.declared.files.Node.{Node}
use Rattle.kernel_objects.specs.declared.files.Node.TheVariants as node
use Rattle.kernel_objects.specs.declared.opened.Stream.{Stream}
use Rattle.kernel_objects.specs.declared.opened.Stream.TheVariants.{Input, Output, Errors, Null, File, Pipe, Scratch}
use Rattle.kernel_objects.specs.declared.plan.BoxPlan.{BoxPlan}
use Rattle.kernel_objects.specs.Paths.{node_at}
use Rattle.kernel_objects.specs.Rows.{at_name}
use Rattle.kernel_core.specs.declared.kernel.Kernel.{Kernel}
use Rattle.kernel_core.specs.Limits.{most_bytes, most_files, most_held}
use Rattle.kernel_laws.specs.Reached.{Reached}

-- a file has at most 16,777,216 bytes
abbrev pub IsSmall : Node → Type 0
IsSmall node.Folder = Unit {0}
IsSmall (node.File bytes writable) = length bytes ≤ most_bytes
IsSmall (node.Program output status) = Unit {0}
IsSmall node.Null = Unit {0}

-- a pipe holds at most 65,536 bytes, and a nameless file has as many as any
abbrev pub HoldsFew : Stream → Type 0
HoldsFew (Input place) = Unit {0}
HoldsFew Output = Unit {0}
HoldsFew Errors = Unit {0}
HoldsFew Null = Unit {0}
HoldsFew (File path place appends) = Unit {0}
HoldsFew (Pipe held) = length held ≤ most_held
HoldsFew (Scratch bytes read_at write_at) = length bytes ≤ most_bytes

-- of each kernel that a box comes to
abbrev pub StoresFew : Type 0 → Type 0
StoresFew F =
    (plan : BoxPlan) (k : Kernel) → Reached F plan k → ((path : List ℕ) → IfSome (node_at k.stores.files path) IsSmall) × ((row : List ℕ) → IfSome (at_name row k.opens) (λ o. HoldsFew o.stream))

-- where the plan has no more entries than a box has files
abbrev pub HasFewFiles : Type 0 → Type 0
HasFewFiles F = (plan : BoxPlan) (k : Kernel) → Reached F plan k → length plan.entries ≤ most_files → length k.stores.files + k.stores.nameless ≤ most_files
