-- Handles, and the open rows behind them.
use Rattle.std.specs.Prelude.{ℕ, ◌+◌, ◌-◌, ◌==◌, ◌||◌, ◌&&◌, Bool, true, false, nat_lt, min, List, [], ◌∷◌, length, Option, Some, None, if◌then◌else◌}
use Rattle.kernel_ask.specs.declared.ask.Answer.TheVariants.{Opened as SaysOpened, Closed}
use Rattle.kernel_ask.specs.declared.ask.Handle.{Handle}
use Rattle.kernel_ask.specs.declared.ask.Refusal.TheVariants.{BadHandle, TooMany}
use Rattle.kernel_objects.specs.declared.opened.Side.{Side}
use Rattle.kernel_objects.specs.declared.opened.Side.TheVariants.{Reads, Writes, Both}
use Rattle.kernel_objects.specs.declared.opened.Held.{Held}
use Rattle.kernel_objects.specs.declared.opened.Opened.{Opened}
use Rattle.kernel_objects.specs.declared.opened.Stream.{Stream}
use Rattle.kernel_objects.specs.declared.opened.Stream.TheVariants.{Input, Output, Errors, Null, File, Pipe, Scratch}
use Rattle.kernel_objects.specs.declared.shell.Shell.{Shell}
use Rattle.kernel_objects.specs.Rows.{at_name, set_name, drop_name, at_number, drop_number}
use Rattle.kernel_objects.specs.Shells.{given}
use Rattle.kernel_core.specs.declared.kernel.Kernel.{Kernel}
use Rattle.kernel_core.specs.declared.kernel.Stores.{Stores}
use Rattle.kernel_core.specs.Limits.{most_handles, most_number, most_count}
use Rattle.kernel_core.specs.Turn.{Turn, Answers, refused, by_shell, with_shell}

-- n more handles are too many, or their numbers too high
abbrev pub lacks_handles : Shell → ℕ → Bool
lacks_handles s n = nat_lt most_handles (length s.handles + n) || nat_lt (most_number + 1) (s.next + n)

abbrev pub is_reading : Side → Bool
is_reading Reads = true
is_reading Writes = false
is_reading Both = true

abbrev pub is_writing : Side → Bool
is_writing Reads = false
is_writing Writes = true
is_writing Both = true

abbrev pub one_more : ℕ → ℕ
one_more n = min (n + 1) most_count

-- the row with one handle more on that side
abbrev pub shared : Side → Opened → Opened
shared Writes o = record o { writers = one_more o.writers }
shared Reads o = record o { readers = one_more o.readers }
shared Both o = record o { readers = one_more o.readers }

-- the row with one handle less on that side
abbrev pub left_by : Side → Opened → Opened
left_by Writes o = record o { writers = o.writers - 1 }
left_by Reads o = record o { readers = o.readers - 1 }
left_by Both o = record o { readers = o.readers - 1 }

-- no handle stands for the row
abbrev pub is_unheld : Opened → Bool
is_unheld o = o.readers == 0 && o.writers == 0

abbrev pub is_scratch : Stream → Bool
is_scratch (Scratch _ _ _) = true
is_scratch (Input _) = false
is_scratch Output = false
is_scratch Errors = false
is_scratch Null = false
is_scratch (File _ _ _) = false
is_scratch (Pipe _) = false

-- a nameless file goes with its row
abbrev pub without_scratch : Stream → Stores → Stores
without_scratch stream d = if is_scratch stream then record d { nameless = d.nameless - 1 } else d

-- the open rows and the stores
pub record Reach : Type 0 where
  pub opens : List (List ℕ × Opened)
  pub stores : Stores

abbrev pub reach_of : List (List ℕ × Opened) → Stores → Reach
reach_of opens d = record { opens = opens; stores = d }

abbrev pub reach : Kernel → Reach
reach k = reach_of k.opens k.stores

abbrev pub with_reach : Kernel → Reach → Kernel
with_reach k r = record k { opens = r.opens; stores = r.stores }

-- what a row leaves once a handle is gone: the row, or nothing where it was the last
abbrev pub row_left : Reach → List ℕ → Opened → Reach
row_left r row o =
    if is_unheld o then reach_of (drop_name row r.opens) (without_scratch o.stream r.stores)
    else reach_of (set_name row o r.opens) r.stores

abbrev pub row_released : Reach → Held → Option Opened → Reach
row_released r held None = r
row_released r held (Some o) = row_left r held.row (left_by held.side o)

-- what is there once a handle of that row and side is gone
abbrev pub released : Reach → Held → Reach
released r held = row_released r held (at_name held.row r.opens)

abbrev pub row_shared : Held → Option Opened → List (List ℕ × Opened) → List (List ℕ × Opened)
row_shared held None opens = opens
row_shared held (Some o) opens = set_name held.row (shared held.side o) opens

-- the rows once one handle more stands for that row and side
abbrev pub retained_in : Held → List (List ℕ × Opened) → List (List ℕ × Opened)
retained_in held opens = row_shared held (at_name held.row opens) opens

abbrev pub retained : Kernel → Held → Kernel
retained k held = record k { opens = retained_in held k.opens }

-- a handle for that side of a row
abbrev pub handle : Side → List ℕ → Held
handle side row = record { row = row; side = side }

-- Dup
abbrev pub dup_held : Kernel → List ℕ → Shell → Option Held → Turn
dup_held k who s None = refused k BadHandle
dup_held k who s (Some held) =
    if lacks_handles s 1 then refused k TooMany
    else Answers (SaysOpened (record { 0 = s.next })) (retained (with_shell k who (given s held)) held)

abbrev pub dup_turn : Kernel → List ℕ → Handle → Turn
dup_turn k who h = by_shell (at_name who k.shells) (λ s. dup_held k who s (at_number h.0 s.handles))

-- Close
abbrev pub close_held : Kernel → List ℕ → Shell → ℕ → Option Held → Turn
close_held k who s h None = refused k BadHandle
close_held k who s h (Some held) = Answers Closed (with_reach (with_shell k who (record s { handles = drop_number h s.handles })) (released (reach k) held))

abbrev pub close_turn : Kernel → List ℕ → Handle → Turn
close_turn k who h = by_shell (at_name who k.shells) (λ s. close_held k who s h.0 (at_number h.0 s.handles))

-- what is there once all those handles are gone
abbrev pub all_released : Reach → List (ℕ × Held) → Reach
all_released r [] = r
all_released r (row ∷ rows) = all_released (released r row.1) rows

abbrev pub ended_by : Kernel → List ℕ → Option Shell → Kernel
ended_by k who None = k
ended_by k who (Some s) = with_reach (with_shell k who (record s { live = false; handles = [] })) (all_released (reach k) s.handles)

-- the end of a shell: all its handles are gone
abbrev pub ended : Kernel → List ℕ → Kernel
ended k who = ended_by k who (at_name who k.shells)
