-- What the bytes at a place inside a word, a quoting, a body or an arithmetic text begin.
use Rattle.std.specs.Prelude.{ℕ, Bool, true, false, ◌||◌, ◌&&◌, ◌==◌, Option, Some, None, if◌then◌else◌}
use Rattle.ksh_lexer.specs.declared.outer.Begins.{Begins}
use Rattle.ksh_lexer.specs.declared.outer.Begins.TheVariants.{Take, Refuse, Unclosed, Single, Ansi, Expand, Special, Group, Run}
use Rattle.ksh_lexer.specs.declared.kind.TokenKind.TheVariants as token
use Rattle.ksh_lexer.specs.declared.fault.SyntaxKind.TheVariants.{NotInProfile}
use Rattle.ksh_lexer.specs.declared.mode.LexMode.{LexMode}
use Rattle.ksh_lexer.specs.declared.mode.LexMode.TheVariants as mode
use Rattle.ksh_lexer.specs.declared.mode.BraceEnd.{BraceEnd}
use Rattle.ksh_lexer.specs.declared.mode.BraceEnd.TheVariants as until
use Rattle.ksh_lexer.specs.Bytes.{is, starts_name, is_special, ends_word}

-- the body of a here-document whose word holds a quoting
abbrev pub is_raw : LexMode → Bool
is_raw (mode.HereBody tabs false) = true
is_raw _ = false

abbrev pub raw : Option ℕ → Begins
raw None = Take token.End 0
raw (Some b) = if b == 0 then Refuse NotInProfile else if b == 10 then Take token.Plain 1 else Run

-- the end of the text ends a word, and leaves double quotes unclosed
abbrev pub at_end : LexMode → Begins
at_end mode.Word = Take token.WordEnd 0
at_end (mode.Quoted opening) = Unclosed opening
at_end _ = Take token.End 0

-- a backslash quotes `$`, backquote, `"` and backslash in double quotes and arithmetic texts,
-- those without `"` in a body, and every byte elsewhere
abbrev pub escapes : LexMode → ℕ → Bool
escapes (mode.Quoted opening) b = b == 36 || (b == 96 || (b == 34 || b == 92))
escapes mode.Arithmetic b = b == 36 || (b == 96 || (b == 34 || b == 92))
escapes mode.LoopArithmetic b = b == 36 || (b == 96 || (b == 34 || b == 92))
escapes mode.Parentheses b = b == 36 || (b == 96 || (b == 34 || b == 92))
escapes (mode.HereBody tabs expands) b = b == 36 || (b == 96 || b == 92)
escapes _ b = true

-- before a newline the two are removed; at the end and before a NUL byte a backslash stands for itself
abbrev pub backslash : LexMode → Option ℕ → Begins
backslash m None = Take token.Plain 1
backslash m (Some b) =
    if b == 0 then Take token.Plain 1 else
    if b == 10 then Take token.Joined 2 else
    if escapes m b then Take token.Escaped 2 else Run

-- `'` quotes but in double quotes and in a body
abbrev pub quotes_singly : LexMode → Bool
quotes_singly (mode.Quoted opening) = false
quotes_singly (mode.HereBody tabs expands) = false
quotes_singly _ = true

-- `"` is literal in a body
abbrev pub double_quote : LexMode → Begins
double_quote (mode.Quoted opening) = Take token.CloseQuote 1
double_quote (mode.HereBody tabs expands) = Run
double_quote _ = Take token.OpenQuote 1

-- `$((`, `$(`, `${`, `$'`, `$"`, a name, a special parameter; else a `$` by itself
abbrev pub dollar : LexMode → Option ℕ → Option ℕ → Begins
dollar m None third = Take token.Dollar 1
dollar m (Some b) third =
    if b == 40 then (if is 40 third then Take token.OpenArithmetic 3 else Take token.OpenSubstitution 2) else
    if b == 123 then Take token.OpenParameter 2 else
    if b == 39 && quotes_singly m then Ansi else
    if b == 34 && quotes_singly m then Take token.OpenQuote 2 else
    if starts_name b then Expand else
    if is_special b then Special else Take token.Dollar 1

-- one of `? * + @ !`
abbrev pub opens_group : ℕ → Bool
opens_group b = b == 63 || (b == 42 || (b == 43 || (b == 64 || b == 33)))

-- `~(` is refused
abbrev pub refuses_tilde : ℕ → Option ℕ → Begins
refuses_tilde b second = if b == 126 && is 40 second then Refuse NotInProfile else Run

abbrev pub in_word : ℕ → Option ℕ → Begins
in_word b second =
    if ends_word b then Take token.WordEnd 0 else
    if opens_group b && is 40 second then Group else refuses_tilde b second

abbrev pub in_group : ℕ → Option ℕ → Begins
in_group b second =
    if b == 40 then Take token.Open 1 else
    if b == 41 then Take token.Close 1 else refuses_tilde b second

-- the byte that ends a word of braces beside the `}`
abbrev pub parts_braced : BraceEnd → ℕ → Bool
parts_braced until.Brace b = false
parts_braced until.Colon b = b == 58
parts_braced until.Slash b = b == 47

abbrev pub ends_braced : BraceEnd → ℕ → Option ℕ → Begins
ends_braced end b second =
    if b == 125 then Take token.Close 1 else
    if parts_braced end b then Take token.Separator 1 else refuses_tilde b second

abbrev pub subscript : ℕ → Begins
subscript b = if b == 91 then Take token.Open 1 else if b == 93 then Take token.Close 1 else Run

-- a lone `)` outside parentheses stands for itself
abbrev pub arithmetic : ℕ → Option ℕ → Begins
arithmetic b second =
    if b == 40 then Take token.Open 1 else
    if b == 41 && is 41 second then Take token.Close 2 else Run

abbrev pub parenthesis : ℕ → Begins
parenthesis b = if b == 40 then Take token.Open 1 else if b == 41 then Take token.Close 1 else Run

-- what a byte begins that is no quoting and no expansion
abbrev pub own : LexMode → ℕ → Option ℕ → Begins
own mode.Word b second = in_word b second
own mode.Group b second = in_group b second
own (mode.Braced end) b second = ends_braced end b second
own mode.Subscript b second = subscript b
own mode.Arithmetic b second = arithmetic b second
own mode.LoopArithmetic b second = if b == 59 then Take token.Separator 1 else arithmetic b second
own mode.Parentheses b second = parenthesis b
own (mode.HereBody tabs expands) b second = if b == 10 then Take token.Plain 1 else Run
own _ b second = Run

abbrev pub cooked : LexMode → Option ℕ → Option ℕ → Option ℕ → Begins
cooked m None second third = at_end m
cooked m (Some b) second third =
    if b == 0 then Refuse NotInProfile else
    if b == 92 then backslash m second else
    if b == 36 then dollar m second third else
    if b == 96 then Take token.Backquote 1 else
    if b == 39 then (if quotes_singly m then Single else Run) else
    if b == 34 then double_quote m else own m b second

abbrev pub piece : LexMode → Option ℕ → Option ℕ → Option ℕ → Begins
piece m first second third = if is_raw m then raw first else cooked m first second third
