-- Names, and paths of them.
use Rattle.std.specs.Prelude.{ℕ, Bool, true, false, ◌||◌, ◌&&◌, ◌==◌, List, [], ◌∷◌, take, drop, if◌then◌else◌, codes, bytes_eq}
use Rattle.ksh_base.specs.Name.{dot_sh}
use Rattle.ksh_lexer.specs.Bytes.{starts_name, in_name}

abbrev pub are_in_name : List ℕ → Bool
are_in_name [] = true
are_in_name (b ∷ bs) = in_name b && are_in_name bs

-- a letter or `_`, then letters, digits and `_`
abbrev pub is_own_name : List ℕ → Bool
is_own_name [] = false
is_own_name (b ∷ bs) = starts_name b && are_in_name bs

-- the one other name is `.sh`
abbrev pub is_name : List ℕ → Bool
is_name bytes = bytes_eq bytes dot_sh || is_own_name bytes

abbrev mutual
  -- names with dots between them
  pub are_names : List ℕ → Bool
  are_names [] = false
  are_names (b ∷ bs) = starts_name b && are_more bs

  -- the rest of a name, and further names behind dots
  pub are_more : List ℕ → Bool
  are_more [] = true
  are_more (b ∷ bs) = if b == 46 then are_names bs else in_name b && are_more bs

-- a path: names with dots between them, perhaps those below `.sh`
abbrev pub is_path : List ℕ → Bool
is_path w = are_names w || (bytes_eq (take 4 w) (codes ".sh.") && are_names (drop 1 w))
