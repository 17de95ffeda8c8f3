-- How operators are written, and that the longest wins.
use Rattle.std.specs.Prelude.{◌≡◌, ◌≢◌, ℕ, ◌≤◌, List, [], ◌∷◌, length, Option, Some, None, codes}
use Rattle.ksh_lexer.specs.declared.outer.Begins.TheVariants.{Take}
use Rattle.ksh_lexer.specs.declared.kind.TokenKind.{TokenKind}
use Rattle.ksh_lexer.specs.declared.kind.Operator.{Operator}
use Rattle.ksh_lexer.specs.declared.kind.Operator.TheVariants.{DoubleSemicolon, SemicolonAmpersand, AndIf, OrIf, BarAmpersand, DoubleParenthesis, Semicolon, Ampersand, Bar, OpenParenthesis, CloseParenthesis}
use Rattle.ksh_lexer.specs.declared.kind.Redirection.{Redirection}
use Rattle.ksh_lexer.specs.declared.kind.Redirection.TheVariants.{HereTabs, HereString, HereDocument, ReadWrite, CopyInput, Input, Clobber, Append, CopyOutput, Output}
use Rattle.ksh_lexer.specs.declared.mode.LexMode.{LexMode}
use Rattle.ksh_lexer.specs.declared.mode.LexMode.TheVariants as mode
use Rattle.ksh_lexer.specs.Between.{between}

abbrev pub operator_bytes : Operator → List ℕ
operator_bytes DoubleSemicolon = codes ";;"
operator_bytes SemicolonAmpersand = codes ";&"
operator_bytes AndIf = codes "&&"
operator_bytes OrIf = codes "||"
operator_bytes BarAmpersand = codes "|&"
operator_bytes DoubleParenthesis = codes "(("
operator_bytes Semicolon = codes ";"
operator_bytes Ampersand = codes "&"
operator_bytes Bar = codes "|"
operator_bytes OpenParenthesis = codes "("
operator_bytes CloseParenthesis = codes ")"

abbrev pub redirection_bytes : Redirection → List ℕ
redirection_bytes HereTabs = codes "<<-"
redirection_bytes HereString = codes "<<<"
redirection_bytes HereDocument = codes "<<"
redirection_bytes ReadWrite = codes "<>"
redirection_bytes CopyInput = codes "<&"
redirection_bytes Input = codes "<"
redirection_bytes Clobber = codes ">|"
redirection_bytes Append = codes ">>"
redirection_bytes CopyOutput = codes ">&"
redirection_bytes Output = codes ">"

-- these bytes stand in front, of three that are looked at
abbrev pub Stand : List ℕ → Option ℕ → Option ℕ → Option ℕ → Type 0
Stand [] a b c = Unit {0}
Stand (x ∷ xs) a b c = (a ≡ Some x) × Stand xs b c None

-- a token between words is as long as each operator that stands there; `((` counts for two between patterns
abbrev pub LongestOperator : Type 0
LongestOperator = (m : LexMode) (a b c : Option ℕ) (k : TokenKind) (width : ℕ) (o : Operator) → between m a b c ≡ Take k width
    → Stand (operator_bytes o) a b c → (m ≡ mode.Pattern → o ≢ DoubleParenthesis) → length (operator_bytes o) ≤ width

abbrev pub LongestRedirection : Type 0
LongestRedirection = (m : LexMode) (a b c : Option ℕ) (k : TokenKind) (width : ℕ) (r : Redirection) → between m a b c ≡ Take k width
    → Stand (redirection_bytes r) a b c → length (redirection_bytes r) ≤ width
