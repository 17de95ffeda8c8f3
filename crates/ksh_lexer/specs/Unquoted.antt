-- The bytes for which those between `$'` and `'` stand.
use Rattle.std.specs.Prelude.{ℕ, zero, suc, ◌+◌, ◌-◌, ◌*◌, ◌%◌, Bool, ◌||◌, ◌&&◌, ◌==◌, nat_le, List, [], ◌∷◌, if◌then◌else◌}

abbrev pub is_octal : ℕ → Bool
is_octal b = nat_le 48 b && nat_le b 55

abbrev pub is_hex : ℕ → Bool
is_hex b = (nat_le 48 b && nat_le b 57) || ((nat_le 97 b && nat_le b 102) || (nat_le 65 b && nat_le b 70))

abbrev pub hex_value : ℕ → ℕ
hex_value b = if nat_le b 57 then b - 48 else if nat_le b 70 then b - 65 + 10 else b - 97 + 10

-- each gives the byte, and how many bytes behind the backslash belong to it

abbrev pub octal_more : ℕ → List ℕ → ℕ × ℕ
octal_more value [] = (value, 2)
octal_more value (b ∷ bs) = if is_octal b then ((value * 8 + (b - 48)) % 256, 3) else (value, 2)

-- `\ooo`, of which the first digit is read
abbrev pub octal : ℕ → List ℕ → ℕ × ℕ
octal value [] = (value, 1)
octal value (b ∷ bs) = if is_octal b then octal_more (value * 8 + (b - 48)) bs else (value, 1)

abbrev pub hex_more : ℕ → List ℕ → ℕ × ℕ
hex_more value [] = (value, 2)
hex_more value (b ∷ bs) = if is_hex b then (value * 16 + hex_value b, 3) else (value, 2)

-- `\xhh`, of which the `x` is read; without a digit the backslash stands for itself
abbrev pub hex : List ℕ → ℕ × ℕ
hex [] = (92, 0)
hex (b ∷ bs) = if is_hex b then hex_more (hex_value b) bs else (92, 0)

-- `\a` `\b` `\e` `\E` `\f` `\n` `\r` `\t` `\v`, a quoted backslash or quote, `\xhh`, `\ooo`; else the backslash stands for itself
abbrev pub escaped : ℕ → List ℕ → ℕ × ℕ
escaped b bs =
    if b == 97 then (7, 1) else
    if b == 98 then (8, 1) else
    if b == 101 || b == 69 then (27, 1) else
    if b == 102 then (12, 1) else
    if b == 110 then (10, 1) else
    if b == 114 then (13, 1) else
    if b == 116 then (9, 1) else
    if b == 118 then (11, 1) else
    if b == 92 || (b == 39 || b == 34) then (b, 1) else
    if b == 120 then hex bs else
    if is_octal b then octal (b - 48) bs else (92, 0)

abbrev pub escape : List ℕ → ℕ × ℕ
escape [] = (92, 0)
escape (b ∷ bs) = escaped b bs

-- the bytes, where that many in front belong to what was read
abbrev pub ansi_from : ℕ → List ℕ → List ℕ
ansi_from taken [] = []
ansi_from (suc taken) (b ∷ bs) = ansi_from taken bs
ansi_from zero (b ∷ bs) = if b == 92 then (escape bs).0 ∷ ansi_from (escape bs).1 bs else b ∷ ansi_from zero bs

abbrev pub ansi_bytes : List ℕ → List ℕ
ansi_bytes bytes = ansi_from zero bytes
