-- What a part of a tree puts before what follows it.
use Rattle.std.specs.Prelude.{ℕ, List, [], ◌∷◌, Bool, Option, Some, None, codes, if◌then◌else◌}
use Rattle.ksh_unparse.specs.Layout.{Mark, Bytes, Line, Open, Close}
use Rattle.ksh_unparse.specs.Quoting.{quoted, in_body, each_byte}

abbrev pub Put : Type 0
Put = List Mark → List Mark

abbrev pub nothing : Put
nothing rest = rest

abbrev pub say : List ℕ → Put
say bytes rest = Bytes bytes ∷ rest

abbrev pub line : Put
line rest = Line ∷ rest

abbrev pub begin_body : Put
begin_body rest = Open ∷ rest

abbrev pub end_body : Put
end_body rest = Close ∷ rest

abbrev pub quote : List ℕ → Put
quote text = say (quoted text)

abbrev pub escape : List ℕ → Put
escape text = say (each_byte in_body text)

-- one after another
abbrev pub each : List Put → Put
each [] rest = rest
each (x ∷ xs) rest = x (each xs rest)

-- each on a line of its own
abbrev pub lines : List Put → Put
lines [] rest = rest
lines (x ∷ xs) rest = x (line (lines xs rest))

-- each behind a newline
abbrev pub behind_lines : List Put → Put
behind_lines [] rest = rest
behind_lines (x ∷ xs) rest = line (x (behind_lines xs rest))

-- with a newline between them: of the one that stands there, itself
abbrev pub alone : List Put → Put
alone [] rest = rest
alone (x ∷ xs) rest = x (behind_lines xs rest)

-- each behind those bytes
abbrev pub behind : List ℕ → List Put → Put
behind bytes [] rest = rest
behind bytes (x ∷ xs) rest = say bytes (x (behind bytes xs rest))

-- with those bytes between them
abbrev pub between : List ℕ → List Put → Put
between bytes [] rest = rest
between bytes (x ∷ xs) rest = x (behind bytes xs rest)

-- `"` where it opens or closes
abbrev pub quote_mark : Bool → Put
quote_mark quoted rest = if quoted then say (codes "\"") rest else rest

-- where it is there
abbrev pub maybe : Option Put → Put
maybe None rest = rest
maybe (Some put) rest = put rest
