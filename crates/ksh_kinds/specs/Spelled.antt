-- What the bytes of a token are, by its kind.
use Rattle.std.specs.Prelude.{◌≡◌, ℕ, Bool, true, false, ◌&&◌, List, drop, if◌then◌else◌}
use Rattle.ksh_lexer.specs.declared.kind.Token.{Token}
use Rattle.ksh_lexer.specs.declared.kind.TokenKind.{TokenKind}
use Rattle.ksh_lexer.specs.declared.kind.TokenKind.TheVariants as token
use Rattle.ksh_lexer.specs.declared.mode.LexMode.{LexMode}
use Rattle.ksh_lexer.specs.declared.mode.LexMode.TheVariants as lex
use Rattle.ksh_lexer.specs.Names.{is_own_name, is_path}
use Rattle.ksh_lexer.specs.Spells.{is_spelled}
use Rattle.ksh_lexer.specs.Tok.{Tok, bytes_between}
use Rattle.ksh_syntax.specs.declared.kind.Kind.{Kind}
use Rattle.ksh_syntax.specs.declared.kind.Kind.TheVariants as kind
use Rattle.ksh_syntax.specs.declared.kind.Mode.{Mode}
use Rattle.ksh_syntax.specs.declared.kind.Mode.TheVariants as mode
use Rattle.ksh_syntax.specs.declared.part.Words.TheVariants as words
use Rattle.ksh_syntax.specs.Takes.{are_in, same_kind}
use Rattle.ksh_kinds.specs.Tokens.{is_bare, kind_of}
use Rattle.ksh_kinds.specs.Words.{is_assignment}

-- the front of an assignment
abbrev pub is_front : Kind → Bool
is_front kind.Element = true
is_front kind.ValueOpen = true
is_front kind.Assignment = true
is_front kind.StartAssignment = true
is_front _ = false

-- a whole word of plain bytes: a name where the grammar takes the name of a variable, a path where it takes names with dots,
-- and a path and `=` or `+=` where an assignment begins
abbrev pub is_word_spelled : Kind → List ℕ → Bool
is_word_spelled k w =
    if are_in words.VariableName k then is_own_name w && is_path w else
    if same_kind k kind.Dotted then is_path w else
    if is_front k then is_assignment w else true

abbrev pub is_kind_spelled : LexMode → Kind → TokenKind → ℕ → List ℕ → Bool
is_kind_spelled l k t from bytes = (if is_bare t then is_word_spelled k bytes else true) && is_spelled l t from bytes

-- each token has such bytes
abbrev pub SpellsKinds : Type 0
SpellsKinds = (l : LexMode) (m : Mode) (text : List ℕ) (at : ℕ) (t : Token) → Tok l text at t → is_kind_spelled l (kind_of text m t) t.kind t.from (bytes_between text t.from t.to) ≡ true

-- where a word that has pieces begins with an assignment, a path and `=` or `+=` stand in the text
abbrev pub StartsAssignments : Type 0
StartsAssignments = (m : Mode) (text : List ℕ) (t : Token) → t.kind ≡ token.Start → kind_of text m t ≡ kind.StartAssignment → is_assignment (drop t.from text) ≡ true

-- no token of a pattern is the front of an assignment, and none of a condition
abbrev pub NoFronts : LexMode → Mode → Type 0
NoFronts l m = (text : List ℕ) (at : ℕ) (t : Token) → Tok l text at t → is_front (kind_of text m t) ≡ false
