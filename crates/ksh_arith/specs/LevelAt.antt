-- Which level of the grammar goes on with the operator that stands somewhere.
use Rattle.std.specs.Prelude.{ℕ, ◌==◌, ◌||◌, List, [], ◌∷◌, drop, if◌then◌else◌}
use Rattle.ksh_arith.specs.Grammar.{begins}

-- behind a byte: one level where the byte stands twice, 12 where `=` makes it one of its kin, and else another
abbrev pub doubled : ℕ → ℕ → ℕ → List ℕ → ℕ
doubled b twice once rest = if begins b rest then twice else (if begins 61 rest then 12 else once)

-- behind a byte: one level where `=` stands there, and else another
abbrev pub with_equals : ℕ → ℕ → List ℕ → ℕ
with_equals equals other rest = if begins 61 rest then equals else other

abbrev pub angled : ℕ → List ℕ → ℕ
angled b rest = if begins b rest then with_equals 12 3 (drop 1 rest) else 4

-- the operators of which the looser levels are made
unfoldable pub loose_level : ℕ → List ℕ → ℕ
loose_level b rest =
    if b == 61 then with_equals 5 12 rest
    else (if b == 33 then with_equals 5 14 rest
    else (if b == 38 then doubled 38 9 6 rest
    else (if b == 94 then with_equals 12 7 rest
    else (if b == 124 then doubled 124 10 8 rest
    else (if b == 63 then 11
    else (if b == 44 then 13 else 14))))))

unfoldable pub level_by : ℕ → List ℕ → ℕ
level_by b rest =
    if b == 42 then doubled 42 0 1 rest
    else (if b == 47 || b == 37 then with_equals 12 1 rest
    else (if b == 43 then doubled 43 14 2 rest
    else (if b == 45 then doubled 45 14 2 rest
    else (if b == 60 || b == 62 then angled b rest
    else loose_level b rest))))

-- 0 `**`; 1 to 10 the operators that group from the left, the tightest first; 11 `?`; 12 `=` and its kin; 13 the comma; 14 where
-- no operator stands there
unfoldable pub level_at : List ℕ → ℕ
level_at [] = 14
level_at (b ∷ bs) = level_by b bs
