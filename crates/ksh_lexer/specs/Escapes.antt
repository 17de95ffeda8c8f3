-- `$'..'`: where it ends, and the bytes for which it stands.
use Rattle.std.specs.Prelude.{ℕ, ◌-◌, not, ◌||◌, ◌&&◌, ◌==◌, List, [], ◌∷◌, length, drop, if◌then◌else◌}

-- what is left at the `'` that ends the quoting, at a NUL byte, or at the end: a backslash quotes the byte behind it
abbrev pub at_ansi_end : List ℕ → List ℕ
at_ansi_end [] = []
at_ansi_end (b ∷ []) = if b == 39 || b == 0 then b ∷ [] else []
at_ansi_end (b ∷ c ∷ bs) =
    if b == 39 || b == 0 then b ∷ c ∷ bs else
    if b == 92 && not (c == 0) then at_ansi_end bs else at_ansi_end (c ∷ bs)

-- the place of that end, for the bytes from a place on
abbrev pub ansi_end : List ℕ → ℕ → ℕ
ansi_end text from = length text - length (at_ansi_end (drop from text))
