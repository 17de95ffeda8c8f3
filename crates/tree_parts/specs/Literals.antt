-- The literals of a word.
use Rattle.std.specs.Prelude.{◌≡◌, ℕ, ◌-◌, Bool, true, false, List, [], ◌∷◌, ◌++◌, drop, take, length, Option, Some, None, if◌then◌else◌}
use Rattle.ksh_ast.specs.declared.tree.Piece.{Piece}
use Rattle.ksh_ast.specs.declared.tree.Piece.TheVariants.{Literal}
use Rattle.ksh_lexer.specs.declared.kind.TokenKind.{TokenKind}
use Rattle.ksh_lexer.specs.declared.kind.TokenKind.TheVariants as token
use Rattle.ksh_lexer.specs.Unquoted.{ansi_bytes}
use Rattle.ksh_syntax.specs.declared.kind.Mode.{Mode}
use Rattle.ksh_syntax.specs.declared.kind.Mode.TheVariants as mode
use Rattle.tree_parts.specs.declared.sign.Sign.{Sign}

-- bytes without quotes, of which there are none
abbrev pub is_nothing : List ℕ → Bool → Bool
is_nothing [] false = true
is_nothing _ _ = false

-- they are no literal
abbrev pub literal : List ℕ → Bool → List Piece
literal bytes quoted = if is_nothing bytes quoted then [] else Literal bytes quoted ∷ []

abbrev pub same : Bool → Bool → Bool
same true quoted = quoted
same false true = false
same false false = true

-- a literal behind a piece is joined to it, where that is one of the same quoting
abbrev pub behind : Piece → List ℕ → Bool → List Piece
behind (Literal text q) bytes quoted = if same q quoted then Literal (text ++ bytes) q ∷ [] else Literal text q ∷ Literal bytes quoted ∷ []
behind p bytes quoted = p ∷ Literal bytes quoted ∷ []

abbrev pub with_bytes : List Piece → List ℕ → Bool → List Piece
with_bytes [] bytes quoted = Literal bytes quoted ∷ []
with_bytes (p ∷ []) bytes quoted = behind p bytes quoted
with_bytes (p ∷ q ∷ ps) bytes quoted = p ∷ with_bytes (q ∷ ps) bytes quoted

abbrev pub with_literal : List Piece → List ℕ → Bool → List Piece
with_literal ps bytes quoted = if is_nothing bytes quoted then ps else with_bytes ps bytes quoted

-- a piece behind others
abbrev pub with_piece : List Piece → Piece → List Piece
with_piece ps (Literal bytes quoted) = with_literal ps bytes quoted
with_piece ps p = ps ++ p ∷ []

abbrev pub joined : List Piece → List Piece → List Piece
joined ps [] = ps
joined ps (q ∷ qs) = joined (with_piece ps q) qs

-- double quotes and expanded bodies quote
abbrev pub quotes : Mode → Bool
quotes mode.Quoted = true
quotes mode.Body = true
quotes _ = false

-- the bytes from a place of the script on that belong to a token
abbrev pub from_place : Sign → ℕ → List ℕ → List ℕ
from_place s at bytes = drop (at - s.from) bytes

-- parentheses and brackets that belong to a text close within it
abbrev pub is_nested : Mode → Bool
is_nested mode.Group = true
is_nested mode.Subscript = true
is_nested mode.Parentheses = true
is_nested _ = false

-- the bytes for which a token of a text stands, and whether they are quoted
abbrev pub literal_by : TokenKind → Sign → List ℕ → Option (List ℕ × Bool)
literal_by token.Plain s bytes = Some (bytes, quotes s.mode)
literal_by token.Joined s bytes = Some ([], false)
literal_by token.Escaped s bytes = Some (drop 1 bytes, true)
literal_by token.Single s bytes = Some (take (length bytes - 2) (drop 1 bytes), true)
literal_by (token.Ansi at) s bytes = Some (ansi_bytes (take (length (from_place s at bytes) - 1) (from_place s at bytes)), true)
literal_by token.OpenQuote s bytes = Some ([], true)
literal_by token.CloseQuote s bytes = Some ([], false)
literal_by token.Dollar s bytes = Some (bytes, true)
literal_by token.Open s bytes = Some (bytes, false)
literal_by token.Close s bytes = if is_nested s.mode then Some (bytes, false) else None
literal_by _ s bytes = None

abbrev pub literal_of : Sign → List ℕ → Option (List ℕ × Bool)
literal_of s bytes = literal_by s.token s bytes

-- the literal of a token is added where the token is one
abbrev pub Adds : Bool → Sign → List ℕ → List Piece → List Piece → Type 0
Adds true s bytes old new = (text : List ℕ) × (quoted : Bool) × (literal_of s bytes ≡ Some (text, quoted)) × (new ≡ with_literal old text quoted)
Adds false s bytes old new = (literal_of s bytes ≡ None) × (new ≡ old)
