-- The aliases of a shell: rows of a name and its value, in order of insertion, each name once.
use Rattle.std.specs.Prelude.{ℕ, List, [], ◌∷◌, Option, codes, ◌==◌}
use Rattle.std.specs.Map.{lookup, keys_of, remove_entry}
use Rattle.std.specs.List.{IsDistinct}
use Rattle.indexmap.specs.IndexMap.{insert_entry}
use Rattle.ksh_base.specs.Text.{same_numbers}

-- a name and its value
abbrev pub Row : Type 0
Row = List ℕ × List ℕ

-- no name stands in two rows
abbrev pub IsEachOnce : List Row → Type 0
IsEachOnce rows = IsDistinct same_numbers (keys_of rows)

-- the value in the row of the name, or nothing where there is none
abbrev pub value_of : List ℕ → List Row → Option (List ℕ)
value_of name rows = lookup (same_numbers name) rows

-- the rows with that value in the row of the name, which goes last where there was none
abbrev pub with_value : List ℕ → List ℕ → List Row → List Row
with_value name value rows = insert_entry same_numbers rows name value

-- the rows without that of the name
abbrev pub without : List ℕ → List Row → List Row
without name rows = remove_entry (same_numbers name) rows

-- the aliases that are there when a shell begins
abbrev pub presets : List Row
presets =
    (codes "integer", codes "typeset -i")
    ∷ (codes "nameref", codes "typeset -n")
    ∷ (codes "compound", codes "typeset -C")
    ∷ (codes "functions", codes "typeset -f")
    ∷ (codes "type", codes "whence -v")
    ∷ (codes "source", codes "command .")
    ∷ (codes "redirect", codes "command exec")
    ∷ []
