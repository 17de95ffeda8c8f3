-- The line that ends a here-document: its word without the quotes.
use Rattle.std.specs.Prelude.{ℕ, zero, suc, Bool, false, ◌||◌, ◌&&◌, ◌==◌, List, [], ◌∷◌, slice_get, if◌then◌else◌}
use Rattle.ksh_lexer.specs.declared.end_line.Within.{Within}
use Rattle.ksh_lexer.specs.declared.end_line.Within.TheVariants as within
use Rattle.ksh_lexer.specs.Bytes.{is}
use Rattle.ksh_lexer.specs.Unquoted.{escape}

-- a backslash quotes it in double quotes
abbrev pub is_escaped : ℕ → Bool
is_escaped b = b == 36 || (b == 96 || (b == 34 || b == 92))

-- the word's bytes, of which the first stands within that quoting; the bytes that belong to an escape of `$'..'` are counted
abbrev pub unquoted : Within → List ℕ → List ℕ
unquoted within.Backslash [] = 92 ∷ []
unquoted within.QuotedBackslash [] = 92 ∷ []
unquoted w [] = []
unquoted within.Nothing (b ∷ bs) =
    if b == 39 then unquoted within.Single bs else
    if b == 34 then unquoted within.Double bs else
    if b == 92 then unquoted within.Backslash bs else
    if b == 36 && is 34 (slice_get bs 0) then unquoted within.Nothing bs else
    if b == 36 && is 39 (slice_get bs 0) then unquoted within.Dollar bs else b ∷ unquoted within.Nothing bs
unquoted within.Backslash (b ∷ bs) = if b == 10 then unquoted within.Nothing bs else b ∷ unquoted within.Nothing bs
unquoted within.Single (b ∷ bs) = if b == 39 then unquoted within.Nothing bs else b ∷ unquoted within.Single bs
unquoted within.Double (b ∷ bs) =
    if b == 34 then unquoted within.Nothing bs else
    if b == 92 then unquoted within.QuotedBackslash bs else b ∷ unquoted within.Double bs
unquoted within.QuotedBackslash (b ∷ bs) =
    if b == 10 then unquoted within.Double bs else
    if is_escaped b then b ∷ unquoted within.Double bs else 92 ∷ b ∷ unquoted within.Double bs
unquoted within.Dollar (b ∷ bs) = unquoted (within.Ansi 0) bs
unquoted (within.Ansi (suc taken)) (b ∷ bs) = unquoted (within.Ansi taken) bs
unquoted (within.Ansi zero) (b ∷ bs) =
    if b == 39 then unquoted within.Nothing bs else
    if b == 92 then (escape bs).0 ∷ unquoted (within.Ansi (escape bs).1) bs else b ∷ unquoted (within.Ansi zero) bs

abbrev pub end_word : List ℕ → List ℕ
end_word word = unquoted within.Nothing word

abbrev pub is_quoted : List ℕ → Bool
is_quoted [] = false
is_quoted (b ∷ bs) = (b == 39 || (b == 34 || b == 92)) || is_quoted bs
