-- Tables of single tokens and marks.
use Rattle.std.specs.Prelude.{Bool, true, false, ◌||◌, Option, Some, None}
use Rattle.ksh_ast.specs.declared.kinds.SubstKind.{SubstKind}
use Rattle.ksh_ast.specs.declared.kinds.SubstKind.TheVariants as subst
use Rattle.ksh_lexer.specs.declared.kind.TokenKind.{TokenKind}
use Rattle.ksh_lexer.specs.declared.kind.TokenKind.TheVariants as token
use Rattle.ksh_syntax.specs.declared.kind.Kind.{Kind}
use Rattle.ksh_syntax.specs.declared.kind.Kind.TheVariants as kind
use Rattle.ksh_syntax.specs.declared.part.Mark.{Mark}
use Rattle.ksh_syntax.specs.declared.part.Mark.TheVariants as mark

-- a mark that is told for others
abbrev pub is_silent_mark : Mark → Bool
is_silent_mark mark.Opens = true
is_silent_mark mark.Closes = true
is_silent_mark mark.CommandWord = true
is_silent_mark mark.CommandName = true
is_silent_mark _ = false

-- what closes a substitution
abbrev pub closes : SubstKind → Kind → Bool
closes subst.Current kind.RightBrace = true
closes subst.Fork kind.Close = true
closes subst.Fork kind.Backquote = true
closes _ _ = false

-- how a word with pieces begins: whether with `path=` or `path+=`
abbrev pub starts_word : Kind → Option Bool
starts_word kind.Start = Some false
starts_word kind.StartAssignment = Some true
starts_word _ = None

abbrev pub is_assignment : Kind → Bool
is_assignment kind.Assignment = true
is_assignment _ = false

-- `=` or `+=` behind a subscript
abbrev pub assigns : TokenKind → Option Bool
assigns token.Assign = Some false
assigns token.AddAssign = Some true
assigns _ = None

-- the end of an item of `case`: whether the next item's list runs too
abbrev pub ends_item : Kind → Option Bool
ends_item kind.DoubleSemicolon = Some false
ends_item kind.SemicolonAmpersand = Some true
ends_item _ = None

-- a subscript or a pair's key is opened
abbrev pub opens_bracket : Kind → Bool
opens_bracket kind.Open = true
opens_bracket kind.Key = true
opens_bracket _ = false

abbrev pub is_special : Kind → Bool
is_special kind.Digits = true
is_special kind.Special = true
is_special _ = false

-- what parts or ends the expressions of `for ((`
abbrev pub ends_part : Kind → Bool
ends_part kind.Separator = true
ends_part kind.Close = true
ends_part _ = false

-- a whole word of plain bytes, among those of control
abbrev pub is_front_word : Kind → Bool
is_front_word kind.If = true
is_front_word kind.Then = true
is_front_word kind.Else = true
is_front_word kind.Elif = true
is_front_word kind.Fi = true
is_front_word kind.Case = true
is_front_word kind.Esac = true
is_front_word kind.For = true
is_front_word kind.While = true
is_front_word kind.Until = true
is_front_word kind.Do = true
is_front_word kind.Done = true
is_front_word kind.LeftBrace = true
is_front_word kind.RightBrace = true
is_front_word kind.Function = true
is_front_word kind.Select = true
is_front_word _ = false

-- the others
abbrev pub is_other_word : Kind → Bool
is_other_word kind.LeftBrackets = true
is_other_word kind.Bang = true
is_other_word kind.RightBrackets = true
is_other_word kind.In = true
is_other_word kind.Time = true
is_other_word kind.Namespace = true
is_other_word kind.Typeset = true
is_other_word kind.Unary = true
is_other_word kind.Binary = true
is_other_word kind.Name = true
is_other_word kind.Dotted = true
is_other_word kind.Assignment = true
is_other_word kind.Other = true
is_other_word _ = false

-- a whole word of plain bytes
abbrev pub is_word : Kind → Bool
is_word k = is_front_word k || is_other_word k
