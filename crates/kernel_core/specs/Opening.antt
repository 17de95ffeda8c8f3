-- How a box opens.
use Rattle.std.specs.Prelude.{◌≡◌, ℕ, suc, ◌==◌, ◌||◌, ◌&&◌, Bool, true, false, not, nat_lt, is_some, List, [], ◌∷◌, ◌++◌, length, Option, Some, None, Result, Ok, Err, codes, if◌then◌else◌}
use Rattle.std.specs.List.{list_all, filter_map}
use Rattle.ksh_base.specs.Text.{same_numbers}
use Rattle.kernel_objects.specs.declared.files.Node.{Node}
use Rattle.kernel_objects.specs.declared.files.Node.TheVariants as node
use Rattle.kernel_objects.specs.declared.opened.Side.TheVariants.{Reads, Writes}
use Rattle.kernel_objects.specs.declared.opened.Opened.{Opened}
use Rattle.kernel_objects.specs.declared.opened.Stream.TheVariants.{Input, Output, Errors}
use Rattle.kernel_objects.specs.declared.plan.BoxEntry.{BoxEntry}
use Rattle.kernel_objects.specs.declared.plan.BoxEntry.TheVariants as entry
use Rattle.kernel_objects.specs.declared.plan.BoxFault.{BoxFault}
use Rattle.kernel_objects.specs.declared.plan.BoxFault.TheVariants.{BadPath, Doubled, NoFolder, TooLong, Memory}
use Rattle.kernel_objects.specs.declared.plan.BoxPlan.{BoxPlan}
use Rattle.kernel_objects.specs.declared.shell.Shell.{Shell}
use Rattle.kernel_objects.specs.Paths.{FileRows, node_at, prefix_refusal}
use Rattle.kernel_objects.specs.Rows.{put_name}
use Rattle.kernel_core.specs.declared.kernel.Kernel.{Kernel}
use Rattle.kernel_core.specs.declared.kernel.Stores.{Stores}
use Rattle.kernel_core.specs.Handles.{handle}
use Rattle.kernel_core.specs.Limits.{most_bytes}
use Rattle.kernel_core.specs.Open.{row_for}

-- bytes that a program puts out
abbrev pub most_output : ℕ
most_output = 4096

-- a component of a path
abbrev pub is_component : List ℕ → Bool
is_component c = not (same_numbers c [] || (same_numbers c (codes ".") || same_numbers c (codes "..")))

-- the components of the rest, `front` being the first bytes of the next
abbrev pub components_from : List ℕ → List ℕ → List (List ℕ)
components_from front [] = front ∷ []
components_from front (b ∷ bs) = if b == 47 then front ∷ components_from [] bs else components_from (front ++ b ∷ []) bs

-- absolute, and `/` or without components that are empty, `.` or `..`
abbrev pub is_plain : List ℕ → Bool
is_plain [] = false
is_plain (b ∷ bs) = b == 47 && (same_numbers bs [] || list_all is_component (components_from [] bs))

abbrev pub is_long : BoxEntry → Bool
is_long entry.Folder = false
is_long (entry.Plain bytes writable) = nat_lt most_bytes (length bytes)
is_long (entry.Program output status) = nat_lt most_output (length output)
is_long entry.Null = false

abbrev pub node_of : BoxEntry → Node
node_of entry.Folder = node.Folder
node_of (entry.Plain bytes writable) = node.File bytes writable
node_of (entry.Program output status) = node.Program output status
node_of entry.Null = node.Null

-- the fault of an entry at its place, where those files stand above it: a folder that it is in must be among them
abbrev pub fault_at : ℕ → FileRows → List ℕ → BoxEntry → Option BoxFault
fault_at i files path e =
    if not (is_plain path) then Some (BadPath i)
    else (if is_some (node_at files path) then Some (Doubled i)
    else (if is_some (prefix_refusal files path) then Some (NoFolder i)
    else (if is_long e then Some (TooLong i) else None)))

abbrev pub unless_fault : Option BoxFault → Result FileRows BoxFault → Result FileRows BoxFault
unless_fault (Some fault) files = Err fault
unless_fault None files = files

-- the files once the rest of the entries stand too, or the first fault
abbrev pub files_from : ℕ → FileRows → List (List ℕ × BoxEntry) → Result FileRows BoxFault
files_from i files [] = Ok files
files_from i files (e ∷ es) = unless_fault (fault_at i files e.0 e.1) (files_from (suc i) (put_name e.0 (node_of e.1) files) es)

abbrev pub plan_files : List (List ℕ × BoxEntry) → Result FileRows BoxFault
plan_files entries = files_from 0 [] entries

-- the root shell, with handles for input, output and errors
abbrev pub root_shell : Shell
root_shell = record {
  live = true;
  next = 3;
  handles = (0, handle Reads (0 ∷ [])) ∷ (1, handle Writes (1 ∷ [])) ∷ (2, handle Writes (2 ∷ [])) ∷ [];
  started = 0;
  programs = [];
  forks = [];
}

abbrev pub opening_rows : List (List ℕ × Opened)
opening_rows = (0 ∷ [], row_for Reads (Input 0)) ∷ (1 ∷ [], row_for Writes Output) ∷ (2 ∷ [], row_for Writes Errors) ∷ []

abbrev pub opening_stores : FileRows → List ℕ → Stores
opening_stores files input = record { files = files; nameless = 0; input = input; output = []; errors = [] }

-- the kernel as it opens
abbrev pub opening : FileRows → List ℕ → Kernel
opening files input = record { shells = ([], root_shell) ∷ []; opens = opening_rows; stores = opening_stores files input }

-- the files, or the first fault, unless memory was wanted
abbrev pub GivesFiles : Result FileRows BoxFault → Result FileRows BoxFault → Type 0
GivesFiles (Ok files) means = means ≡ Ok files
GivesFiles (Err Memory) means = Unit {0}
GivesFiles (Err fault) means = means ≡ Err fault

abbrev pub opened_files : List ℕ → Result FileRows BoxFault → Result Kernel BoxFault
opened_files input (Ok files) = Ok (opening files input)
opened_files input (Err fault) = Err fault

-- the kernel that the plan opens, or its first fault
abbrev pub plan_kernel : BoxPlan → Result Kernel BoxFault
plan_kernel plan = opened_files plan.input (plan_files plan.entries)

abbrev pub OpensAs : Result Kernel BoxFault → Result Kernel BoxFault → Type 0
OpensAs (Ok k) means = means ≡ Ok k
OpensAs (Err Memory) means = Unit {0}
OpensAs (Err fault) means = means ≡ Err fault

abbrev pub file_bytes : List ℕ → Node → Option (List ℕ × List ℕ)
file_bytes path (node.File bytes writable) = Some (path, bytes)
file_bytes path node.Folder = None
file_bytes path (node.Program output status) = None
file_bytes path node.Null = None

-- a file's path and bytes; none of what is no file
abbrev pub file_of : List ℕ × Node → Option (List ℕ × List ℕ)
file_of row = file_bytes row.0 row.1

-- path and bytes of each file that has a path, rising by path
abbrev pub files_in : FileRows → List (List ℕ × List ℕ)
files_in files = filter_map file_of files
