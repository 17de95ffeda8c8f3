-- The token that a script's reader sees next, and what becomes of the state by it.
use Rattle.std.specs.Prelude.{◌≡◌, ℕ, ◌≤◌, ◌-◌, ◌&&◌, length, take, drop, slice_get, Bool, true, false, not, List, [], ◌∷◌, ◌++◌, Option, Some, None, Result, Ok, Err, if◌then◌else◌}
use Rattle.ksh_lexer.specs.declared.fault.SyntaxFault.{SyntaxFault}
use Rattle.ksh_lexer.specs.declared.here.Body.{Body}
use Rattle.ksh_lexer.specs.declared.kind.Token.{Token}
use Rattle.ksh_lexer.specs.declared.kind.TokenKind.{TokenKind}
use Rattle.ksh_lexer.specs.declared.kind.TokenKind.TheVariants as token
use Rattle.ksh_lexer.specs.declared.mode.LexMode.{LexMode}
use Rattle.ksh_lexer.specs.declared.mode.LexMode.TheVariants as lex
use Rattle.ksh_lexer.specs.declared.mode.BraceEnd.TheVariants as brace
use Rattle.ksh_lexer.specs.Bytes.{is}
use Rattle.ksh_lexer.specs.Awaited.{Lexing, Misses, Takes, missing}
use Rattle.ksh_lexer.specs.Place.{fault_at}
use Rattle.ksh_lexer.specs.Tok.{IsFault, Tok}
use Rattle.ksh_kinds.specs.Tokens.{kind_of}
use Rattle.ksh_syntax.specs.declared.kind.Kind.{Kind}
use Rattle.ksh_syntax.specs.declared.kind.Kind.TheVariants as kind
use Rattle.ksh_syntax.specs.declared.kind.Mode.{Mode}
use Rattle.ksh_syntax.specs.declared.kind.Mode.TheVariants as mode
use Rattle.ksh_scan.specs.declared.opening.Opening.{Opening}
use Rattle.ksh_scan.specs.declared.see.Role.{Role}
use Rattle.ksh_scan.specs.declared.see.Role.TheVariants.{Newline, End, Backquote, Bare, Own}
use Rattle.ksh_scan.specs.declared.see.Seen.{Seen}
use Rattle.ksh_scan.specs.declared.state.Source.{Source}
use Rattle.ksh_scan.specs.declared.state.State.{State}
use Rattle.ksh_scan.specs.Openings.{in_backquotes, innermost}

abbrev pub text_of : State → List ℕ
text_of s = s.source.lexer.0

-- the bytes from one place to another
abbrev pub slice : List ℕ → ℕ → ℕ → List ℕ
slice text from to = take (to - from) (drop from text)

abbrev pub byte_of : Option Opening → ℕ
byte_of None = 0
byte_of (Some o) = o.byte

-- how the text's next token is lexed: in double quotes the innermost opening is their `"`
abbrev pub lex_mode : Source → Mode → LexMode
lex_mode s mode.Command = lex.Command
lex_mode s mode.Pattern = lex.Pattern
lex_mode s mode.Condition = lex.Condition
lex_mode s mode.Value = lex.Value
lex_mode s mode.Word = lex.Word
lex_mode s mode.Quoted = lex.Quoted (byte_of (innermost s.openings))
lex_mode s mode.Group = lex.Group
lex_mode s mode.Brace = lex.Braced brace.Brace
lex_mode s mode.Colon = lex.Braced brace.Colon
lex_mode s mode.Slash = lex.Braced brace.Slash
lex_mode s mode.Subscript = lex.Subscript
lex_mode s mode.Arithmetic = lex.Arithmetic
lex_mode s mode.LoopArithmetic = lex.LoopArithmetic
lex_mode s mode.Parentheses = lex.Parentheses
lex_mode s mode.Body = lex.HereBody s.tabs s.expands
lex_mode s mode.Parameter = lex.Parameter
lex_mode s mode.Form = lex.Form
lex_mode s mode.Target = lex.Target

-- words and operators stand there, and no pieces of words
abbrev pub is_between : Mode → Bool
is_between mode.Command = true
is_between mode.Pattern = true
is_between mode.Condition = true
is_between mode.Value = true
is_between _ = false

abbrev pub is_word : Mode → Bool
is_word mode.Word = true
is_word _ = false

abbrev pub without_body : Kind → Token → Seen
without_body k t = record { kind = k; token = t; body = None }

abbrev pub empty_token : TokenKind → ℕ → Token
empty_token k at = record { kind = k; from = at; to = at }

-- A backquote opens a substitution, and begins a word between words; inside backquotes it ends the word in hand, and
-- then the substitution. In quotings and in other texts inside backquotes it is the end of what they may hold.
abbrev pub backquote : Bool → Bool → Bool → Token → Seen
backquote true between word t =
    if between then without_body kind.Backquote t else
    if word then without_body kind.WordEnd (empty_token token.WordEnd t.from) else without_body kind.End t
backquote false between word t = if between then without_body kind.Start (empty_token token.Start t.from) else without_body kind.Backquote t

-- a backquote stands there and opens a substitution, which goes on with a word before it
abbrev pub goes_on : State → ℕ → Bool
goes_on s at = is 96 (slice_get (text_of s) at) && not (in_backquotes s.source.openings)

-- plain bytes are a whole word, or a word of pieces begins with them
abbrev pub bare_word : Bool → List ℕ → Mode → Token → Seen
bare_word true text m t = without_body (kind_of text m (empty_token token.Start t.from)) (empty_token token.Start t.from)
bare_word false text m t = without_body (kind_of text m t) t

abbrev pub at_place : State → ℕ → State
at_place s at = record s { source = record s.source { lexer = (s.source.lexer.0, at, s.source.lexer.2) } }

abbrev pub with_lexing : State → Lexing → State
with_lexing s l = record s { source = record s.source { lexer = l } }

abbrev pub one_or : Kind → Kind → Option Body → Kind
one_or one empty (Some b) = one
one_or one empty None = empty

-- where a body is awaited it is taken, and the token shows whether one was
abbrev pub TakesBody : Kind → Kind → State → Token → Result Seen SyntaxFault → State → Type 0
TakesBody one empty s t (Ok n) s' = Takes s.source.lexer s'.source.lexer n.body × (s' ≡ with_lexing s s'.source.lexer)
    × (n ≡ record { kind = one_or one empty n.body; token = t; body = n.body })
TakesBody one empty s t (Err f) s' = Misses s.source.lexer f × (s' ≡ s)

-- at the end of a body the text goes on behind it
pub data EndsBody (s : State) (t : Token) : Result Seen SyntaxFault → State → Type 0 where
  outside : s.outer ≡ [] → EndsBody s t (Ok (without_body kind.End t)) s
  inside : (more : List Source) (below : Source) {r : Result Seen SyntaxFault} {s' : State} → s.outer ≡ more ++ below ∷ []
      → TakesBody kind.BodyNext kind.BodyLast (record s { source = below; outer = more }) t r s' → EndsBody s t r s'

abbrev pub EndsBy : Mode → State → Token → Result Seen SyntaxFault → State → Type 0
EndsBy mode.Body s t r s' = EndsBody s t r s'
EndsBy _ s t r s' = (r ≡ Ok (without_body kind.End t)) × (s' ≡ s)

abbrev pub Ends : Option SyntaxFault → Mode → State → Token → Result Seen SyntaxFault → State → Type 0
Ends (Some f) m s t r s' = (r ≡ Err f) × (s' ≡ s)
Ends None m s t r s' = EndsBy m s t r s'

-- behind a newline bodies may stand, at the end of a text another goes on, and what a backquote is depends on what is open
abbrev pub role_of : TokenKind → Role
role_of token.Newline = Newline
role_of token.End = End
role_of token.Backquote = Backquote
role_of token.Bare = Bare
role_of _ = Own

-- what is seen where the text's token is that one, behind which the state stands
abbrev pub SeesBy : Role → Mode → State → Token → Result Seen SyntaxFault → State → Type 0
SeesBy Newline m s t r s' = TakesBody kind.NewlineBodies kind.Newline s t r s'
SeesBy End m s t r s' = Ends (missing s.source.lexer.0 s.source.lexer.2) m s t r s'
SeesBy Backquote m s t r s' =
    (r ≡ Ok (backquote (in_backquotes s.source.openings) (is_between m) (is_word m) t))
    × (s' ≡ at_place s (backquote (in_backquotes s.source.openings) (is_between m) (is_word m) t).token.to)
SeesBy Bare m s t r s' =
    (r ≡ Ok (bare_word (goes_on s t.to) (text_of s) m t)) × (s' ≡ at_place s (bare_word (goes_on s t.to) (text_of s) m t).token.to)
SeesBy Own m s t r s' = (r ≡ Ok (without_body (kind_of (text_of s) m t) t)) × (s' ≡ s)

-- what is seen next, read in that mode, and the state behind it; or the fault of the text or of a body that has no end
pub data Sees (s : State) (m : Mode) : Result Seen SyntaxFault → State → Type 0 where
  lexed : (t : Token) {r : Result Seen SyntaxFault} {s' : State} → Tok (lex_mode s.source m) s.source.lexer.0 s.source.lexer.1 t
      → SeesBy (role_of t.kind) m (at_place s t.to) t r s' → Sees s m r s'
  refused : {f : SyntaxFault} → IsFault (lex_mode s.source m) s.source.lexer.0 s.source.lexer.1 f.kind f.place.byte
      → f ≡ fault_at s.source.lexer.0 f.kind f.place.byte → Sees s m (Err f) s

-- the bytes of a body stand in the text
abbrev pub IsWithin : List ℕ → Option Body → Type 0
IsWithin text None = Unit {0}
IsWithin text (Some b) = (b.from ≤ b.to) × (b.to ≤ length text)
