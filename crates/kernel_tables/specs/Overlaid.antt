-- Bytes written into a file.
use Rattle.std.specs.Prelude.{ℕ, ◌+◌, ◌-◌, List, [], ◌∷◌, ◌++◌, length, take, drop, replicate}

-- what is before the place, with zeros up to it, then the bytes, then what is after them
abbrev pub spread : ℕ → List ℕ → List ℕ → List ℕ
spread place bytes file = (take place file ++ replicate (place - length file) 0) ++ (bytes ++ drop (place + length bytes) file)

-- the file with the bytes written from the place on; none change nothing
abbrev pub overlaid : ℕ → List ℕ → List ℕ → List ℕ
overlaid place [] file = file
overlaid place (b ∷ bs) file = spread place (b ∷ bs) file
