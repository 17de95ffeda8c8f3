-- Files by path.
use Rattle.std.specs.Prelude.{ℕ, ◌==◌, Bool, true, false, List, [], ◌∷◌, ◌++◌, Option, Some, None, is_none, codes, if◌then◌else◌}
use Rattle.std.specs.List.{list_any}
use Rattle.ksh_base.specs.Text.{same_numbers}
use Rattle.kernel_ask.specs.declared.ask.Refusal.{Refusal}
use Rattle.kernel_ask.specs.declared.ask.Refusal.TheVariants.{NotDir, NoEntry}
use Rattle.kernel_objects.specs.Rows.{at_name}
use Rattle.kernel_objects.specs.declared.files.Node.{Node}
use Rattle.kernel_objects.specs.declared.files.Node.TheVariants.{Folder, File, Program, Null}

-- what has a path, rising by path
abbrev pub FileRows : Type 0
FileRows = List (List ℕ × Node)

abbrev pub node_at : FileRows → List ℕ → Option Node
node_at files path = at_name path files

-- before the first `/` of a path stands `/` itself
abbrev pub root_or : List ℕ → List ℕ
root_or [] = codes "/"
root_or (b ∷ bs) = b ∷ bs

-- what stands before each `/` of the rest, where `front` stands before the rest
abbrev pub prefixes_from : List ℕ → List ℕ → List (List ℕ)
prefixes_from front [] = []
prefixes_from front (b ∷ bs) = if b == 47 then root_or front ∷ prefixes_from (front ++ b ∷ []) bs else prefixes_from (front ++ b ∷ []) bs

-- the proper prefixes of a path, the shortest first; `/` has none
abbrev pub prefixes : List ℕ → List (List ℕ)
prefixes path = if same_numbers path (codes "/") then [] else prefixes_from [] path

-- something stands there that is no folder
abbrev pub is_no_folder : Option Node → Bool
is_no_folder None = false
is_no_folder (Some Folder) = false
is_no_folder (Some (File _ _)) = true
is_no_folder (Some (Program _ _)) = true
is_no_folder (Some Null) = true

-- NotDir where a proper prefix is no folder, else NoEntry where one is missing
abbrev pub refusal_of : FileRows → List (List ℕ) → Option Refusal
refusal_of files before =
    if list_any (λ p. is_no_folder (node_at files p)) before then Some NotDir
    else (if list_any (λ p. is_none (node_at files p)) before then Some NoEntry else None)

abbrev pub prefix_refusal : FileRows → List ℕ → Option Refusal
prefix_refusal files path = refusal_of files (prefixes path)
