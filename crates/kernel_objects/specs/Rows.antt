-- Tables in plain words: rows by a name (a list of numbers or bytes), and rows by a number.
use Rattle.std.specs.Prelude.{ℕ, List, Option}
use Rattle.std.specs.Ordering.{nat_cmp}
use Rattle.std.specs.Cmp.Lexicographic.{slice_cmp}
use Rattle.std.specs.Map.{lookup, set_value, remove_entry}
use Rattle.std.specs.BTreeMap.{insert_entry, is_at}

module _ {X : Type 0} where
  -- what is at the name
  abbrev pub at_name : List ℕ → List (List ℕ × X) → Option X
  at_name name rows = lookup (is_at (slice_cmp nat_cmp name)) rows

  -- with that at the name, which is there
  abbrev pub set_name : List ℕ → X → List (List ℕ × X) → List (List ℕ × X)
  set_name name x rows = set_value (is_at (slice_cmp nat_cmp name)) rows x

  -- with that at the name, in the order of names
  abbrev pub put_name : List ℕ → X → List (List ℕ × X) → List (List ℕ × X)
  put_name name x rows = insert_entry (slice_cmp nat_cmp) rows name x

  -- without the name
  abbrev pub drop_name : List ℕ → List (List ℕ × X) → List (List ℕ × X)
  drop_name name rows = remove_entry (is_at (slice_cmp nat_cmp name)) rows

  -- the same by number
  abbrev pub at_number : ℕ → List (ℕ × X) → Option X
  at_number n rows = lookup (is_at (nat_cmp n)) rows

  abbrev pub put_number : ℕ → X → List (ℕ × X) → List (ℕ × X)
  put_number n x rows = insert_entry nat_cmp rows n x

  abbrev pub set_number : ℕ → X → List (ℕ × X) → List (ℕ × X)
  set_number n x rows = set_value (is_at (nat_cmp n)) rows x

  abbrev pub drop_number : ℕ → List (ℕ × X) → List (ℕ × X)
  drop_number n rows = remove_entry (is_at (nat_cmp n)) rows
