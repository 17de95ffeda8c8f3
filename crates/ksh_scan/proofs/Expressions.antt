-- Pairs that are removed from an arithmetic text, bytes that are kept, and how long a slice is.
use Rattle.std.specs.Prelude.{◌≡◌, ◌≤◌, ℕ, ◌+◌, ◌-◌, ◌==◌, Bool, true, false, List, [], ◌∷◌, length, take, drop, min}
use Rattle.std.proofs.Common.{refl, sym, ◌∙◌, ap, subst, arith}
use Rattle.std.proofs.lemmas.Bool.{ne_eqb}
use Rattle.std.proofs.lemmas.List.{length-take}
use Rattle.ksh_scan.specs.Arithmetic.{is_join, place_of}
use Rattle.ksh_scan.specs.Seeing.{slice}

pub joins_on : (place left b c : ℕ) (more : List ℕ) → is_join b c ≡ true → place + 2 + place_of more left ≡ place + place_of (b ∷ c ∷ more) left
joins_on place left b c more j = rw j (omega arith)

pub keeps_on : (place left b c : ℕ) (more : List ℕ) → is_join b c ≡ false → (left ≡ 0 → ⊥) → place + 1 + place_of (c ∷ more) (left - 1) ≡ place + place_of (b ∷ c ∷ more) left
keeps_on place left b c more j some =
    let apart : (left == 0) ≡ false = ne_eqb left 0 some in
    rw (j, apart) (omega arith)

pub slice_small : (text : List ℕ) (from to : ℕ) → length (slice text from to) ≤ to - from
slice_small text from to = let same : length (slice text from to) ≡ min (to - from) (length (drop from text)) = length-take (to - from) (drop from text) in omega (arith, same)
