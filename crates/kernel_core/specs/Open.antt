-- Open, with Scratch among its modes, and Pipe.
use Rattle.std.specs.Prelude.{ℕ, ◌+◌, ◌||◌, ◌&&◌, Bool, true, false, is_none, List, [], ◌∷◌, ◌++◌, Option, Some, None, if◌then◌else◌}
use Rattle.kernel_ask.specs.declared.ask.Answer.TheVariants.{Opened as SaysOpened, Pair}
use Rattle.kernel_ask.specs.declared.ask.Mode.{Mode}
use Rattle.kernel_ask.specs.declared.ask.Mode.TheVariants.{Read, Write, Append, ReadWrite, New, Scratch}
use Rattle.kernel_ask.specs.declared.ask.Refusal.{Refusal}
use Rattle.kernel_ask.specs.declared.ask.Refusal.TheVariants.{NoEntry, IsDir, Exists, Denied, TooMany}
use Rattle.kernel_objects.specs.declared.files.Node.{Node}
use Rattle.kernel_objects.specs.declared.files.Node.TheVariants as node
use Rattle.kernel_objects.specs.declared.opened.Side.{Side}
use Rattle.kernel_objects.specs.declared.opened.Side.TheVariants.{Reads, Writes, Both}
use Rattle.kernel_objects.specs.declared.opened.Opened.{Opened}
use Rattle.kernel_objects.specs.declared.opened.Stream.{Stream}
use Rattle.kernel_objects.specs.declared.opened.Stream.TheVariants as stream
use Rattle.kernel_objects.specs.declared.shell.Shell.{Shell}
use Rattle.kernel_objects.specs.Paths.{FileRows, node_at, prefix_refusal}
use Rattle.kernel_objects.specs.Rows.{at_name, set_name, put_name}
use Rattle.kernel_objects.specs.Shells.{given}
use Rattle.kernel_core.specs.declared.kernel.Kernel.{Kernel}
use Rattle.kernel_core.specs.Files.{is_full}
use Rattle.kernel_core.specs.Handles.{handle, lacks_handles}
use Rattle.kernel_core.specs.Turn.{Turn, Answers, unless, by_shell}

-- the name of the row that a shell opens next
abbrev pub next_row : List ℕ → Shell → List ℕ
next_row who s = who ++ s.next ∷ []

-- a row for which one handle stands
abbrev pub row_for : Side → Stream → Opened
row_for Reads s = record { readers = 1; writers = 0; stream = s }
row_for Writes s = record { readers = 0; writers = 1; stream = s }
row_for Both s = record { readers = 1; writers = 0; stream = s }

-- a row for which two handles stand, one for each side
abbrev pub row_of_two : Stream → Opened
row_of_two s = record { readers = 1; writers = 1; stream = s }

-- the shell with a handle for the row that it opens
abbrev pub with_one : List ℕ → Shell → Side → Shell
with_one who s side = given s (handle side (next_row who s))

-- the shell with one for reading and one for writing
abbrev pub with_two : List ℕ → Shell → Shell
with_two who s = given (given s (handle Reads (next_row who s))) (handle Writes (next_row who s))

-- the kernel with a new row of a shell, and the shell with its handles
abbrev pub entered : Kernel → List ℕ → Shell → Shell → Opened → Kernel
entered k who s s' o = record k { shells = set_name who s' k.shells; opens = put_name (next_row who s) o k.opens }

abbrev pub pair_of : Shell → Kernel → Turn
pair_of s k = Answers (Pair (record { 0 = s.next }) (record { 0 = s.next + 1 })) k

abbrev pub too_many : Bool → Option Refusal
too_many true = Some TooMany
too_many false = None

abbrev pub pipe_by : Kernel → List ℕ → Shell → Turn
pipe_by k who s = unless k (too_many (lacks_handles s 2)) (pair_of s (entered k who s (with_two who s) (row_of_two (stream.Pipe []))))

abbrev pub pipe_turn : Kernel → List ℕ → Turn
pipe_turn k who = by_shell (at_name who k.shells) (λ s. pipe_by k who s)

-- a nameless file more
abbrev pub with_nameless : Kernel → Kernel
with_nameless k = record k { stores = record k.stores { nameless = k.stores.nameless + 1 } }

abbrev pub scratch_by : Kernel → List ℕ → Shell → Turn
scratch_by k who s =
    unless k (too_many (lacks_handles s 2 || is_full k.stores))
    (pair_of s (with_nameless (entered k who s (with_two who s) (row_of_two (stream.Scratch [] 0 0)))))

-- why what stands at a path, or doesn't, isn't opened so
abbrev pub node_refusal : Mode → Option Node → Option Refusal
node_refusal Read None = Some NoEntry
node_refusal mode None = None
node_refusal mode (Some node.Folder) = Some IsDir
node_refusal New (Some n) = Some Exists
node_refusal mode (Some (node.Program output status)) = Some Denied
node_refusal mode (Some node.Null) = None
node_refusal Read (Some (node.File bytes writable)) = None
node_refusal mode (Some (node.File bytes writable)) = if writable then None else Some Denied

abbrev pub side_of : Mode → Side
side_of Read = Reads
side_of Write = Writes
side_of Append = Writes
side_of New = Writes
side_of ReadWrite = Both
side_of Scratch = Both

abbrev pub is_append : Mode → Bool
is_append Append = true
is_append mode = false

abbrev pub stream_of : List ℕ → Mode → Option Node → Stream
stream_of path mode (Some node.Null) = stream.Null
stream_of path mode n = stream.File path 0 (is_append mode)

abbrev pub cut_node : Node → Node
cut_node (node.File bytes writable) = node.File [] writable
cut_node n = n

-- the file there is cut to nothing
abbrev pub cut_at : List ℕ → Option Node → FileRows → FileRows
cut_at path None files = files
cut_at path (Some n) files = set_name path (cut_node n) files

-- a missing file is made empty, Write cuts one to nothing
abbrev pub files_after : List ℕ → Mode → Option Node → FileRows → FileRows
files_after path mode None files = put_name path (node.File [] true) files
files_after path Write (Some n) files = set_name path (cut_node n) files
files_after path mode (Some n) files = files

abbrev pub with_files : Kernel → FileRows → Kernel
with_files k files = record k { stores = record k.stores { files = files } }

abbrev pub opened_at : Kernel → List ℕ → Shell → List ℕ → Mode → Option Node → Turn
opened_at k who s path mode n =
    Answers (SaysOpened (record { 0 = s.next }))
    (with_files (entered k who s (with_one who s (side_of mode)) (row_for (side_of mode) (stream_of path mode n))) (files_after path mode n k.stores.files))

-- the refusals in their order, then the file
abbrev pub open_node : Kernel → List ℕ → Shell → List ℕ → Mode → Option Node → Turn
open_node k who s path mode n =
    unless k (prefix_refusal k.stores.files path)
    (unless k (node_refusal mode n)
    (unless k (too_many (lacks_handles s 1 || (is_none n && is_full k.stores)))
    (opened_at k who s path mode n)))

abbrev pub open_by : Kernel → List ℕ → Shell → List ℕ → Mode → Turn
open_by k who s path Scratch = scratch_by k who s
open_by k who s path mode = open_node k who s path mode (node_at k.stores.files path)

abbrev pub open_turn : Kernel → List ℕ → List ℕ → Mode → Turn
open_turn k who path mode = by_shell (at_name who k.shells) (λ s. open_by k who s path mode)
