-- The token that comes at a place of a text under a mode, or the fault where none does.
use Rattle.std.specs.Prelude.{◌≡◌, ℕ, ◌+◌, ◌-◌, Bool, true, false, ◌||◌, ◌&&◌, ◌==◌, nat_lt, List, [], ◌∷◌, take, drop, slice_get, slice_index, Option, Some, None, Result, Ok, Err, if◌then◌else◌}
use Rattle.bstr.specs.Bytes.{not_in}
use Rattle.ksh_lexer.specs.declared.outer.Begins.{Begins}
use Rattle.ksh_lexer.specs.declared.outer.Begins.TheVariants as begin
use Rattle.ksh_lexer.specs.declared.kind.Token.{Token}
use Rattle.ksh_lexer.specs.declared.kind.TokenKind.{TokenKind}
use Rattle.ksh_lexer.specs.declared.kind.TokenKind.TheVariants as kinds
use Rattle.ksh_lexer.specs.declared.kind.Descriptor.{Descriptor}
use Rattle.ksh_lexer.specs.declared.kind.Descriptor.TheVariants.{Digit, Named}
use Rattle.ksh_lexer.specs.declared.fault.SyntaxKind.{SyntaxKind}
use Rattle.ksh_lexer.specs.declared.fault.SyntaxKind.TheVariants.{BadName, NotInProfile, UnclosedQuote}
use Rattle.ksh_lexer.specs.declared.lex.LexFault.{LexFault}
use Rattle.ksh_lexer.specs.declared.mode.LexMode.{LexMode}
use Rattle.ksh_lexer.specs.declared.mode.LexMode.TheVariants as mode
use Rattle.ksh_lexer.specs.declared.scan.Class.TheVariants as class
use Rattle.ksh_lexer.specs.Begin.{begins_at, runs}
use Rattle.ksh_lexer.specs.Between.{less, greater}
use Rattle.ksh_lexer.specs.Brackets.{after_bracket, continues_assignment, is_assigned}
use Rattle.ksh_lexer.specs.Bytes.{is, is_blank, starts_name, ends_word}
use Rattle.ksh_lexer.specs.Class.{in_class}
use Rattle.ksh_lexer.specs.Escapes.{ansi_end}
use Rattle.ksh_lexer.specs.Names.{is_name, is_path}
use Rattle.ksh_lexer.specs.Reach.{IsRun, at_byte, next, reach, span}

abbrev pub Answer : Type 0
Answer = Result Token LexFault

abbrev pub token : TokenKind → ℕ → ℕ → Answer
token kind from to = Ok (record { kind = kind; from = from; to = to })

abbrev pub fault : SyntaxKind → ℕ → Answer
fault kind byte = Err (record { kind = kind; byte = byte })

-- the bytes from one place to another
abbrev pub bytes_between : List ℕ → ℕ → ℕ → List ℕ
bytes_between text from to = take (to - from) (drop from text)

-- the bytes of that class from one place to another
abbrev pub OfClass : (ℕ → Bool) → List ℕ → ℕ → ℕ → Type 0
OfClass test text from to = IsRun (at_byte test) text from to

-- what stands between words: a comment reaches to its newline
abbrev pub AtComment : Bool → List ℕ → ℕ → ℕ → Type 0
AtComment true text place from = OfClass (not_in (10 ∷ 0 ∷ [])) text place from
AtComment false text place from = from ≡ place

-- blanks and joined lines, and then perhaps a comment
abbrev pub PastBlanks : List ℕ → ℕ → ℕ → Type 0
PastBlanks text at from = AtComment (is 35 (slice_get text (at + span is_blank (drop at text)))) text (at + span is_blank (drop at text)) from

-- a line begins there
abbrev pub begins_line : List ℕ → ℕ → Bool
begins_line text at = at == 0 || slice_index text (at - 1) == 10

abbrev pub PastTabs : Bool → List ℕ → ℕ → ℕ → Type 0
PastTabs true text at from = OfClass (in_class class.Tab) text at from
PastTabs false text at from = from ≡ at

-- what is skipped before a token: blanks, joined lines and a comment between words, tabs at the start of a
-- line in the body of a `<<-`, and nothing elsewhere
abbrev pub Skips : LexMode → List ℕ → ℕ → ℕ → Type 0
Skips mode.Command text at from = PastBlanks text at from
Skips mode.Argument text at from = PastBlanks text at from
Skips mode.Pattern text at from = PastBlanks text at from
Skips mode.Condition text at from = PastBlanks text at from
Skips mode.Value text at from = PastBlanks text at from
Skips (mode.HereBody tabs expands) text at from = PastTabs (tabs && begins_line text at) text at from
Skips _ text at from = from ≡ at

abbrev pub quoted_by : TokenKind → ℕ → ℕ → Option ℕ → Answer
quoted_by kind from end None = fault UnclosedQuote from
quoted_by kind from end (Some b) = if b == 39 then token kind from (end + 1) else fault NotInProfile end

-- a quoting that a `'` ends: a NUL byte before it is refused, and the end of the text leaves it unclosed
abbrev pub quoted : TokenKind → List ℕ → ℕ → ℕ → Answer
quoted kind text from end = quoted_by kind from end (slice_get text end)

-- a prefix and a `(` open a group where a `)` comes before the line ends; else the prefix stands for itself
abbrev pub group : List ℕ → ℕ → ℕ → Answer
group text from stop = if is 41 (slice_get text stop) then token kinds.Open from (next text from + 1) else token kinds.Plain from (from + 1)

abbrev pub with_descriptor : Descriptor → TokenKind → TokenKind
with_descriptor d (kinds.Redirect r e) = kinds.Redirect r d
with_descriptor d kind = kind

abbrev pub redirect_by : Descriptor → List ℕ → ℕ → ℕ → Begins → Answer
redirect_by d text from place (begin.Take kind width) = token (with_descriptor d kind) from (reach text place width)
redirect_by d text from place (begin.Refuse kind) = fault kind place
redirect_by d text from place _ = fault NotInProfile place

-- the redirection whose operator stands at a place, behind the descriptor that begins at another
abbrev pub redirect : Descriptor → List ℕ → ℕ → ℕ → Answer
redirect d text from place = redirect_by d text from place (
    if is 60 (slice_get text place) then less (slice_get text (next text place)) (slice_get text (next text (next text place)))
    else greater (slice_get text (next text place)))

-- a name from the byte behind a `{` to a `}`, and a redirection
abbrev pub is_named : List ℕ → ℕ → ℕ → Bool
is_named text from end = nat_lt (from + 1) end && (starts_name (slice_index text (from + 1)) && (is 125 (slice_get text end)
    && (is 60 (slice_get text (next text end)) || is 62 (slice_get text (next text end)))))

-- assignments are looked for
abbrev pub may_assign : LexMode → Bool
may_assign mode.Command = true
may_assign mode.Argument = true
may_assign mode.Value = true
may_assign _ = false

abbrev pub is_value : LexMode → Bool
is_value mode.Value = true
is_value _ = false

-- a path, and a subscript with which an assignment goes on
abbrev pub is_element : LexMode → List ℕ → ℕ → ℕ → Bool
is_element m text from end = may_assign m && (is 91 (slice_get text end)
    && (is_path (bytes_between text from end) && continues_assignment (after_bracket 0 (drop (end + 1) text))))

-- a key of a value: a bracket, and a `=` behind it
abbrev pub is_key : LexMode → List ℕ → ℕ → Bool
is_key m text from = is_value m && (is 91 (slice_get text from) && is_assigned (after_bracket 0 (drop (from + 1) text)))

abbrev pub word_ends : Option ℕ → Bool
word_ends None = true
word_ends (Some b) = ends_word b || b == 96

-- plain bytes to the end of the word, or to a backquote, of which the reader of tokens knows whether it goes on with the word
abbrev pub bare : List ℕ → ℕ → ℕ → Answer
bare text from end = if nat_lt from end && word_ends (slice_get text end) then token kinds.Bare from end else token kinds.Start from from

abbrev pub WordBy : Bool → Bool → List ℕ → ℕ → ℕ → Answer → Type 0
WordBy true key text from path out = out ≡ token kinds.Element from path
WordBy false true text from path out = out ≡ token kinds.Key from (from + 1)
WordBy false false text from path out = (end : ℕ) × IsRun (runs mode.Word) text from end × (out ≡ bare text from end)

-- a word: the path of an element that is assigned, a key, a word of plain bytes, or a word of pieces
abbrev pub WordAt : LexMode → List ℕ → ℕ → Answer → Type 0
WordAt m text from out = (path : ℕ) × OfClass (in_class class.Path) text from path × WordBy (is_element m text from path) (is_key m text from) text from path out

-- the name of a parameter in braces; what begins with a dot is `.sh`
abbrev pub name : List ℕ → ℕ → ℕ → Answer
name text from end = if is_name (bytes_between text from end) then token kinds.Name from end else fault BadName from

abbrev pub NamedBy : Bool → LexMode → List ℕ → ℕ → ℕ → Answer → Type 0
NamedBy true m text from end out = out ≡ redirect (Named end) text from (next text end)
NamedBy false m text from end out = WordAt m text from out

-- what stands at a place, where the table says what begins there
abbrev pub Stands : LexMode → List ℕ → ℕ → Begins → Answer → Type 0
Stands m text from (begin.Take kind width) out = out ≡ token kind from (reach text from width)
Stands m text from (begin.Refuse kind) out = out ≡ fault kind from
Stands m text from (begin.Unclosed opening) out = out ≡ fault UnclosedQuote opening
Stands m text from begin.Digit out = out ≡ redirect (Digit (slice_index text from - 48)) text from (next text from)
Stands m text from begin.Brace out = (end : ℕ) × OfClass (in_class class.Name) text (from + 1) end × NamedBy (is_named text from end) m text from end out
Stands m text from begin.Start out = WordAt m text from out
Stands m text from begin.Single out = (end : ℕ) × OfClass (not_in (39 ∷ 0 ∷ [])) text (from + 1) end × (out ≡ quoted kinds.Single text from end)
Stands m text from begin.Ansi out = out ≡ quoted (kinds.Ansi (next text from + 1)) text from (ansi_end text (next text from + 1))
Stands m text from begin.Expand out = (end : ℕ) × OfClass (in_class class.Name) text (next text from) end × (out ≡ token (kinds.Expand (next text from)) from end)
Stands m text from begin.Special out = out ≡ token (kinds.Expand (next text from)) from (next text from + 1)
Stands m text from begin.Group out = (stop : ℕ) × OfClass (not_in (41 ∷ 10 ∷ [])) text (next text from + 1) stop × (out ≡ group text from stop)
Stands m text from begin.Run out = (end : ℕ) × IsRun (runs m) text from end × (out ≡ token kinds.Plain from end)
Stands m text from begin.Name out = (end : ℕ) × OfClass (in_class class.Name) text (from + 1) end × (out ≡ name text from end)
Stands m text from begin.Digits out = (end : ℕ) × OfClass (in_class class.Digit) text from end × (out ≡ token kinds.Digits from end)
Stands m text from begin.Member out = (end : ℕ) × OfClass (in_class class.Name) text (next text from) end × (out ≡ token (kinds.Member (next text from)) from end)

-- what comes at a place: what is skipped, and then a token or a fault
abbrev pub Comes : LexMode → List ℕ → ℕ → Answer → Type 0
Comes m text at out = (from : ℕ) × Skips m text at from × Stands m text from (begins_at m text from) out

-- the token that comes at a place
abbrev pub Tok : LexMode → List ℕ → ℕ → Token → Type 0
Tok m text at t = Comes m text at (Ok t)

-- the fault that comes at a place, where no token does
abbrev pub IsFault : LexMode → List ℕ → ℕ → SyntaxKind → ℕ → Type 0
IsFault m text at kind byte = Comes m text at (fault kind byte)
