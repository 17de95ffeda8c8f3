-- Read and Write.
use Rattle.std.specs.Prelude.{◌≡◌, ℕ, ◌+◌, ◌==◌, ◌||◌, Bool, true, false, nat_lt, nat_le, List, [], ◌++◌, length, take, drop, Option, Some, None, Result, Ok, Err, if◌then◌else◌}
use Rattle.kernel_ask.specs.declared.ask.Answer.{Answer}
use Rattle.kernel_ask.specs.declared.ask.Answer.TheVariants.{Bytes, Taken, Refused}
use Rattle.kernel_ask.specs.declared.ask.Handle.{Handle}
use Rattle.kernel_ask.specs.declared.ask.Refusal.{Refusal}
use Rattle.kernel_ask.specs.declared.ask.Refusal.TheVariants.{BadHandle, Broken, Io}
use Rattle.ksh_base.specs.declared.memory.Memory.{Memory}
use Rattle.kernel_objects.specs.declared.files.Node.{Node}
use Rattle.kernel_objects.specs.declared.files.Node.TheVariants as node
use Rattle.kernel_objects.specs.declared.opened.Side.{Side}
use Rattle.kernel_objects.specs.declared.opened.Held.{Held}
use Rattle.kernel_objects.specs.declared.opened.Opened.{Opened}
use Rattle.kernel_objects.specs.declared.opened.Stream.{Stream}
use Rattle.kernel_objects.specs.declared.opened.Stream.TheVariants.{Input, Output, Errors, Null, File, Pipe, Scratch}
use Rattle.kernel_objects.specs.Paths.{node_at}
use Rattle.kernel_objects.specs.Rows.{at_name, set_name, at_number}
use Rattle.kernel_tables.specs.Overlaid.{overlaid}
use Rattle.kernel_core.specs.declared.kernel.Kernel.{Kernel}
use Rattle.kernel_core.specs.declared.kernel.Stores.{Stores}
use Rattle.kernel_core.specs.Handles.{is_reading, is_writing}
use Rattle.kernel_core.specs.Limits.{most_bytes, most_held}
use Rattle.kernel_core.specs.Turn.{Turn, Answers, Waits, refused, by_shell}

-- what an ask on an open row leads to: the answer, the row and the stores afterwards, or none
pub data RowTurn : Type 0 where
  Says : Answer → Opened → Stores → RowTurn
  Holds : RowTurn

-- the row with that stream
abbrev pub with_stream : Opened → Stream → Opened
with_stream o s = record o { stream = s }

-- the bytes from a place on, up to max
abbrev pub from_place : ℕ → ℕ → List ℕ → List ℕ
from_place place max bytes = take max (drop place bytes)

-- the handle doesn't reach what is asked for
abbrev pub unreached : Opened → Stores → RowTurn
unreached o d = Says (Refused BadHandle) o d

-- those bytes were read, and the row has that stream
abbrev pub gives : List ℕ → Stream → Opened → Stores → RowTurn
gives bytes s o d = Says (Bytes bytes) (with_stream o s) d

abbrev pub read_file : Option Node → List ℕ → ℕ → Bool → ℕ → Opened → Stores → RowTurn
read_file (Some (node.File bytes writable)) path place appends max o d =
    gives (from_place place max bytes) (File path (place + length (from_place place max bytes)) appends) o d
read_file n path place appends max o d = unreached o d

-- a pipe is ready where max bytes are held or no handle is left that writes
abbrev pub read_pipe : List ℕ → ℕ → Opened → Stores → RowTurn
read_pipe held max o d =
    if nat_le max (length held) || o.writers == 0 then gives (take max held) (Pipe (drop max held)) o d else Holds

abbrev pub read_stream : Stream → ℕ → Opened → Stores → RowTurn
read_stream (Input place) max o d =
    gives (from_place place max d.input) (Input (place + length (from_place place max d.input))) o d
read_stream Output max o d = unreached o d
read_stream Errors max o d = unreached o d
read_stream Null max o d = gives [] Null o d
read_stream (File path place appends) max o d = read_file (node_at d.files path) path place appends max o d
read_stream (Pipe held) max o d = read_pipe held max o d
read_stream (Scratch bytes read_at write_at) max o d =
    gives (from_place read_at max bytes) (Scratch bytes (read_at + length (from_place read_at max bytes)) write_at) o d

-- the piece was taken, whole
abbrev pub taken : Stream → Opened → Stores → RowTurn
taken s o d = Says Taken (with_stream o s) d

-- a write that would bring a file past its limit
abbrev pub is_past : ℕ → List ℕ → Bool
is_past place piece = nat_lt most_bytes (place + length piece)

-- where the next write to a file goes
abbrev pub write_place : Bool → ℕ → List ℕ → ℕ
write_place true place bytes = length bytes
write_place false place bytes = place

abbrev pub with_file : Stores → List ℕ → Node → Stores
with_file d path n = record d { files = set_name path n d.files }

-- what a write to a file leads to: what is there afterwards and the place, or a refusal
pub data Written (X : Type 0) : Type 0 where
  Wrote : X → ℕ → Written X
  Unwritten : Refusal → Written X

abbrev pub written_from : ℕ → List ℕ → List ℕ → Written (List ℕ)
written_from at piece bytes = if is_past at piece then Unwritten Io else Wrote (overlaid at piece bytes) (at + length piece)

-- at the end, or at the place
abbrev pub write_bytes : Bool → ℕ → List ℕ → List ℕ → Written (List ℕ)
write_bytes appends place piece bytes = written_from (write_place appends place bytes) piece bytes

abbrev pub node_written : Bool → Written (List ℕ) → Written Node
node_written writable (Wrote bytes place) = Wrote (node.File bytes writable) place
node_written writable (Unwritten why) = Unwritten why

abbrev pub write_node : Bool → ℕ → List ℕ → Node → Written Node
write_node appends place piece (node.File bytes writable) = node_written writable (write_bytes appends place piece bytes)
write_node appends place piece n = Unwritten BadHandle

abbrev pub taken_or : Option Refusal → Option Answer
taken_or (Some why) = Some (Refused why)
taken_or None = Some Taken

abbrev pub file_written : List ℕ → Bool → Opened → Stores → Written Node → RowTurn
file_written path appends o d (Wrote n place) = Says Taken (with_stream o (File path place appends)) (with_file d path n)
file_written path appends o d (Unwritten why) = Says (Refused why) o d

abbrev pub write_file : Option Node → List ℕ → ℕ → Bool → List ℕ → Opened → Stores → RowTurn
write_file None path place appends piece o d = unreached o d
write_file (Some n) path place appends piece o d = file_written path appends o d (write_node appends place piece n)

-- Broken where no handle is left that reads; ready where the piece fits
abbrev pub write_pipe : List ℕ → List ℕ → Opened → Stores → RowTurn
write_pipe held piece o d =
    if o.readers == 0 then Says (Refused Broken) o d
    else (if nat_lt most_held (length held + length piece) then Holds
    else taken (Pipe (held ++ piece)) o d)

abbrev pub scratch_written : ℕ → Opened → Stores → Written (List ℕ) → RowTurn
scratch_written read_at o d (Wrote bytes place) = taken (Scratch bytes read_at place) o d
scratch_written read_at o d (Unwritten why) = Says (Refused why) o d

abbrev pub write_stream : Stream → List ℕ → Opened → Stores → RowTurn
write_stream (Input place) piece o d = unreached o d
write_stream Output piece o d = taken Output o (record d { output = d.output ++ piece })
write_stream Errors piece o d = taken Errors o (record d { errors = d.errors ++ piece })
write_stream Null piece o d = taken Null o d
write_stream (File path place appends) piece o d = write_file (node_at d.files path) path place appends piece o d
write_stream (Pipe held) piece o d = write_pipe held piece o d
write_stream (Scratch bytes read_at write_at) piece o d = scratch_written read_at o d (write_bytes false write_at piece bytes)

-- a call did what stands there, or wanted memory and did nothing
abbrev pub DoesRow : RowTurn → Result (Option Answer) Memory → Opened → Opened → Stores → Stores → Type 0
DoesRow turn (Ok (Some a)) o o' d d' = turn ≡ Says a o' d'
DoesRow turn (Ok None) o o' d d' = (turn ≡ Holds) × (o' ≡ o) × (d' ≡ d)
DoesRow turn (Err m) o o' d d' = (o' ≡ o) × (d' ≡ d)

-- the same of a write to a file
abbrev pub DoesWrite : {X : Type 0} → Written X → Result (Option Refusal) Memory → X → X → ℕ → ℕ → Type 0
DoesWrite turn (Ok None) x x' place place' = turn ≡ Wrote x' place'
DoesWrite turn (Ok (Some why)) x x' place place' = (turn ≡ Unwritten why) × (x' ≡ x) × (place' ≡ place)
DoesWrite turn (Err m) x x' place place' = (x' ≡ x) × (place' ≡ place)

-- the handle's row and side, where it is held and good for that
abbrev pub held_for : (Side → Bool) → Option Held → Option Held
held_for good None = None
held_for good (Some held) = if good held.side then Some held else None

-- what a row's turn is to the kernel
abbrev pub on_row : Kernel → List ℕ → RowTurn → Turn
on_row k row (Says a o d) = Answers a (record k { opens = set_name row o k.opens; stores = d })
on_row k row Holds = Waits

abbrev pub by_row : Kernel → List ℕ → Option Opened → (Opened → RowTurn) → Turn
by_row k row None f = refused k BadHandle
by_row k row (Some o) f = on_row k row (f o)

abbrev pub by_held : Kernel → Option Held → (Opened → RowTurn) → Turn
by_held k None f = refused k BadHandle
by_held k (Some held) f = by_row k held.row (at_name held.row k.opens) f

abbrev pub read_turn : Kernel → List ℕ → Handle → ℕ → Turn
read_turn k who h max =
    by_shell (at_name who k.shells) (λ s. by_held k (held_for is_reading (at_number h.0 s.handles)) (λ o. read_stream o.stream max o k.stores))

abbrev pub write_turn : Kernel → List ℕ → Handle → List ℕ → Turn
write_turn k who h piece =
    by_shell (at_name who k.shells) (λ s. by_held k (held_for is_writing (at_number h.0 s.handles)) (λ o. write_stream o.stream piece o k.stores))
