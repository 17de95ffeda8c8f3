-- How bytes are written so that they are read as those bytes.
use Rattle.std.specs.Prelude.{ℕ, ◌+◌, ◌/◌, ◌%◌, ◌==◌, ◌&&◌, ◌||◌, Bool, not, nat_le, List, [], ◌∷◌, ◌++◌, codes, if◌then◌else◌}
use Rattle.std.specs.List.{list_all}

-- from blank to `~`, the quote excepted: it stands for itself in `'..'`
abbrev pub is_simple : ℕ → Bool
is_simple b = (nat_le 32 b && nat_le b 126) && not (b == 39)

-- a byte in `$'..'`
abbrev pub in_dollar_quotes : ℕ → List ℕ
in_dollar_quotes b =
    if b == 92 then codes "\\\\" else
    if b == 39 then codes "\\'" else
    if b == 10 then codes "\\n" else
    if b == 9 then codes "\\t" else
    if nat_le 32 b && nat_le b 126 then b ∷ []
    else 92 ∷ (48 + b / 64) ∷ (48 + b / 8 % 8) ∷ (48 + b % 8) ∷ []

-- the bytes of a text, each written its own way
abbrev pub each_byte : (ℕ → List ℕ) → List ℕ → List ℕ
each_byte f [] = []
each_byte f (b ∷ bs) = f b ++ each_byte f bs

-- `'..'` where each byte stands for itself there, else `$'..'`
abbrev pub quoted : List ℕ → List ℕ
quoted text = if list_all is_simple text then codes "'" ++ text ++ codes "'" else codes "$'" ++ each_byte in_dollar_quotes text ++ codes "'"

-- a byte in the body of a here-document, where `$`, backquote and backslash go on in an expansion
abbrev pub in_body : ℕ → List ℕ
in_body b = if b == 36 || (b == 96 || b == 92) then 92 ∷ b ∷ [] else b ∷ []
