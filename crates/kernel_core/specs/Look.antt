-- List and Stat.
use Rattle.std.specs.Prelude.{ℕ, ◌==◌, true, false, List, [], ◌∷◌, ◌++◌, length, drop, Option, Some, None, nat_eq, codes, if◌then◌else◌}
use Rattle.std.specs.List.{starts_with, filter_map, list_any}
use Rattle.ksh_base.specs.Text.{same_numbers}
use Rattle.kernel_ask.specs.declared.ask.Answer.TheVariants.{Names, Facts}
use Rattle.kernel_ask.specs.declared.ask.FileFacts.{FileFacts}
use Rattle.kernel_ask.specs.declared.ask.Refusal.{Refusal}
use Rattle.kernel_ask.specs.declared.ask.Refusal.TheVariants.{NoEntry, NotDir}
use Rattle.kernel_objects.specs.declared.files.Node.{Node}
use Rattle.kernel_objects.specs.declared.files.Node.TheVariants.{Folder, File, Program, Null}
use Rattle.kernel_objects.specs.Paths.{FileRows, node_at, prefix_refusal}
use Rattle.kernel_objects.specs.Rows.{at_name}
use Rattle.kernel_core.specs.declared.kernel.Kernel.{Kernel}
use Rattle.kernel_core.specs.Turn.{Turn, Answers, refused, unless, by_shell}

-- the size is that of a file's bytes; all but programs are readable; folders and programs are runnable
abbrev pub facts : Node → FileFacts
facts Folder = record { folder = true; plain = false; size = 0; readable = true; writable = true; runnable = true }
facts (File bytes writable) = record { folder = false; plain = true; size = length bytes; readable = true; writable = writable; runnable = false }
facts (Program output status) = record { folder = false; plain = true; size = 0; readable = false; writable = false; runnable = true }
facts Null = record { folder = false; plain = false; size = 0; readable = true; writable = true; runnable = false }

abbrev pub stat_node : Kernel → Option Node → Turn
stat_node k None = refused k NoEntry
stat_node k (Some n) = Answers (Facts (facts n)) k

abbrev pub stat_turn : Kernel → List ℕ → List ℕ → Turn
stat_turn k who path =
    by_shell (at_name who k.shells) (λ s. unless k (prefix_refusal k.stores.files path) (stat_node k (node_at k.stores.files path)))

-- what stands in a path before the names in a folder
abbrev pub front_of : List ℕ → List ℕ
front_of folder = if same_numbers folder (codes "/") then folder else folder ++ codes "/"

-- the bytes, where they are a name: some, and no `/` among them
abbrev pub name_of : List ℕ → Option (List ℕ)
name_of [] = None
name_of (b ∷ bs) = if list_any (λ c. c == 47) (b ∷ bs) then None else Some (b ∷ bs)

-- the name in the folder, where the path is in it
abbrev pub name_in : List ℕ → List ℕ → Option (List ℕ)
name_in front path = if starts_with nat_eq path front then name_of (drop (length front) path) else None

-- the names in a folder, in the order of their bytes
abbrev pub names_in : FileRows → List ℕ → List (List ℕ)
names_in files folder = filter_map (λ row. name_in (front_of folder) row.0) files

-- NotDir where a prefix or the path itself is no folder, else NoEntry where one is missing
abbrev pub list_refusal : Option Refusal → Option Node → Option Refusal
list_refusal (Some NotDir) n = Some NotDir
list_refusal before (Some Folder) = before
list_refusal before (Some n) = Some NotDir
list_refusal before None = Some NoEntry

abbrev pub list_turn : Kernel → List ℕ → List ℕ → Turn
list_turn k who path =
    by_shell (at_name who k.shells) (λ s. unless k (list_refusal (prefix_refusal k.stores.files path) (node_at k.stores.files path))
    (Answers (Names (names_in k.stores.files path)) k))
