-- What the bytes at a place between words begin: the longest operator, or a word.
use Rattle.std.specs.Prelude.{ℕ, ◌||◌, ◌&&◌, ◌==◌, Option, Some, None, if◌then◌else◌}
use Rattle.ksh_lexer.specs.declared.outer.Begins.{Begins}
use Rattle.ksh_lexer.specs.declared.outer.Begins.TheVariants.{Take, Refuse, Digit, Brace, Start}
use Rattle.ksh_lexer.specs.declared.kind.TokenKind.TheVariants as token
use Rattle.ksh_lexer.specs.declared.kind.Operator.{Operator}
use Rattle.ksh_lexer.specs.declared.kind.Operator.TheVariants.{DoubleSemicolon, SemicolonAmpersand, AndIf, OrIf, BarAmpersand, DoubleParenthesis, Semicolon, Ampersand, Bar, OpenParenthesis, CloseParenthesis}
use Rattle.ksh_lexer.specs.declared.kind.Redirection.{Redirection}
use Rattle.ksh_lexer.specs.declared.kind.Redirection.TheVariants.{HereTabs, HereString, HereDocument, ReadWrite, CopyInput, Input, Clobber, Append, CopyOutput, Output}
use Rattle.ksh_lexer.specs.declared.kind.Descriptor.TheVariants.{Default}
use Rattle.ksh_lexer.specs.declared.fault.SyntaxKind.TheVariants.{NotInProfile}
use Rattle.ksh_lexer.specs.declared.mode.LexMode.{LexMode}
use Rattle.ksh_lexer.specs.declared.mode.LexMode.TheVariants as mode
use Rattle.ksh_lexer.specs.Bytes.{is, is_digit}

abbrev pub redirect : Redirection → ℕ → Begins
redirect r width = Take (token.Redirect r Default) width

-- behind a `<`: `<(` and `<#` are refused, then `<<-` `<<<` `<<` `<>` `<&` `<`
abbrev pub less : Option ℕ → Option ℕ → Begins
less second third =
    if is 40 second || is 35 second then Refuse NotInProfile else
    if is 60 second then (if is 45 third then redirect HereTabs 3 else if is 60 third then redirect HereString 3 else redirect HereDocument 2) else
    if is 62 second then redirect ReadWrite 2 else
    if is 38 second then redirect CopyInput 2 else redirect Input 1

-- behind a `>`: `>(`, `>#` and `>;` are refused, then `>|` `>>` `>&` `>`
abbrev pub greater : Option ℕ → Begins
greater second =
    if is 40 second || (is 35 second || is 59 second) then Refuse NotInProfile else
    if is 124 second then redirect Clobber 2 else
    if is 62 second then redirect Append 2 else
    if is 38 second then redirect CopyOutput 2 else redirect Output 1

-- `((`, which is no token between patterns, and `(`
abbrev pub parenthesis : LexMode → Option ℕ → Operator × ℕ
parenthesis mode.Pattern second = (OpenParenthesis, 1)
parenthesis _ second = if is 40 second then (DoubleParenthesis, 2) else (OpenParenthesis, 1)

-- `;;` `;&` `;`, `&&` `&`, `||` `|&` `|`, `((` `(`, `)`
abbrev pub operator : LexMode → ℕ → Option ℕ → Option (Operator × ℕ)
operator m b second =
    if b == 59 then Some (if is 59 second then (DoubleSemicolon, 2) else if is 38 second then (SemicolonAmpersand, 2) else (Semicolon, 1)) else
    if b == 38 then Some (if is 38 second then (AndIf, 2) else (Ampersand, 1)) else
    if b == 124 then Some (if is 124 second then (OrIf, 2) else if is 38 second then (BarAmpersand, 2) else (Bar, 1)) else
    if b == 40 then Some (parenthesis m second) else
    if b == 41 then Some (CloseParenthesis, 1) else None

-- a digit, or perhaps `{name}`, directly before a redirection, but in no condition; else a word
abbrev pub word : LexMode → ℕ → Option ℕ → Begins
word mode.Condition b second = Start
word _ b second =
    if is_digit b && (is 60 second || is 62 second) then Digit else
    if b == 123 then Brace else Start

abbrev pub operator_or : Begins → Option (Operator × ℕ) → Begins
operator_or other None = other
operator_or other (Some o) = Take (token.Operator o.0) o.1

-- the end, a NUL byte, a newline, a backquote, a redirection, another operator, or a word
abbrev pub between : LexMode → Option ℕ → Option ℕ → Option ℕ → Begins
between m None second third = Take token.End 0
between m (Some b) second third =
    if b == 0 then Refuse NotInProfile else
    if b == 10 then Take token.Newline 1 else
    if b == 96 then Take token.Backquote 1 else
    if b == 60 then less second third else
    if b == 62 then greater second else operator_or (word m b second) (operator m b second)
