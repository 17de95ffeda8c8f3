-- What the bytes of a token are.
use Rattle.std.specs.Prelude.{◌≡◌, ℕ, ◌-◌, Bool, true, false, ◌||◌, ◌&&◌, nat_lt, List, [], ◌∷◌, take, drop}
use Rattle.ksh_lexer.specs.declared.kind.Descriptor.{Descriptor}
use Rattle.ksh_lexer.specs.declared.kind.Descriptor.TheVariants as descriptor
use Rattle.ksh_lexer.specs.declared.kind.Token.{Token}
use Rattle.ksh_lexer.specs.declared.kind.TokenKind.{TokenKind}
use Rattle.ksh_lexer.specs.declared.kind.TokenKind.TheVariants as kinds
use Rattle.ksh_lexer.specs.declared.mode.LexMode.{LexMode}
use Rattle.ksh_lexer.specs.declared.mode.LexMode.TheVariants as mode
use Rattle.ksh_lexer.specs.Bytes.{is_special}
use Rattle.ksh_lexer.specs.Names.{is_name, is_own_name, is_path}
use Rattle.ksh_lexer.specs.Tok.{Tok, bytes_between, may_assign}

-- one byte, which is a parameter by itself
abbrev pub is_one_special : List ℕ → Bool
is_one_special (b ∷ []) = is_special b
is_one_special _ = false

-- a digit, or a name from the token's second byte to a place
abbrev pub is_descriptor : Descriptor → ℕ → List ℕ → Bool
is_descriptor descriptor.Default from bytes = true
is_descriptor (descriptor.Digit n) from bytes = nat_lt n 10
is_descriptor (descriptor.Named end) from bytes = is_own_name (take (end - from - 1) (drop 1 bytes))

abbrev pub is_target : LexMode → Bool
is_target mode.Target = true
is_target _ = false

-- the bytes of a token that begins at a place: names where names are told, and assignments only where they are looked for
abbrev pub is_spelled : LexMode → TokenKind → ℕ → List ℕ → Bool
is_spelled m kinds.Element from bytes = may_assign m && is_path bytes
is_spelled m kinds.Name from bytes = is_name bytes
is_spelled m (kinds.Member at) from bytes = is_own_name (drop (at - from) bytes)
is_spelled m (kinds.Expand at) from bytes = is_own_name (drop (at - from) bytes) || is_one_special (drop (at - from) bytes)
is_spelled m (kinds.Redirect r d) from bytes = is_descriptor d from bytes
is_spelled m kinds.Assign from bytes = is_target m
is_spelled m kinds.AddAssign from bytes = is_target m
is_spelled m _ from bytes = true

abbrev pub IsSpelled : LexMode → List ℕ → Token → Type 0
IsSpelled m text t = is_spelled m t.kind t.from (bytes_between text t.from t.to) ≡ true

-- each token has such bytes
abbrev pub Spells : Type 0
Spells = (m : LexMode) (text : List ℕ) (at : ℕ) (t : Token) → Tok m text at t → IsSpelled m text t
