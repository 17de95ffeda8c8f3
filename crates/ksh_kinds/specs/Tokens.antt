-- What a token is for the grammar.
use Rattle.std.specs.Prelude.{ℕ, ◌-◌, Bool, true, false, ◌||◌, ◌&&◌, ◌==◌, List, [], ◌∷◌, length, take, drop, slice_get, Option, Some, None, if◌then◌else◌, codes, bytes_eq}
use Rattle.ksh_lexer.specs.Bytes.{is, is_blank}
use Rattle.ksh_lexer.specs.Names.{is_path}
use Rattle.ksh_lexer.specs.declared.kind.Token.{Token}
use Rattle.ksh_lexer.specs.declared.kind.TokenKind.{TokenKind}
use Rattle.ksh_lexer.specs.declared.kind.TokenKind.TheVariants as token
use Rattle.ksh_lexer.specs.declared.kind.Operator.{Operator}
use Rattle.ksh_lexer.specs.declared.kind.Operator.TheVariants as operator
use Rattle.ksh_lexer.specs.declared.kind.Redirection.{Redirection}
use Rattle.ksh_lexer.specs.declared.kind.Redirection.TheVariants as redirection
use Rattle.ksh_lexer.specs.declared.kind.Descriptor.{Descriptor}
use Rattle.ksh_lexer.specs.declared.kind.Descriptor.TheVariants as descriptor
use Rattle.ksh_lexer.specs.declared.kind.Form.{Form}
use Rattle.ksh_lexer.specs.declared.kind.Form.TheVariants as form
use Rattle.ksh_syntax.specs.declared.kind.Kind.{Kind}
use Rattle.ksh_syntax.specs.declared.kind.Kind.TheVariants as kind
use Rattle.ksh_syntax.specs.declared.kind.Mode.{Mode}
use Rattle.ksh_syntax.specs.declared.kind.Mode.TheVariants as mode
use Rattle.ksh_kinds.specs.Words.{is_assignment, path_front, word_kind}

abbrev pub operator_kind : Operator → Kind
operator_kind operator.DoubleSemicolon = kind.DoubleSemicolon
operator_kind operator.SemicolonAmpersand = kind.SemicolonAmpersand
operator_kind operator.AndIf = kind.AndIf
operator_kind operator.OrIf = kind.OrIf
operator_kind operator.BarAmpersand = kind.BarAmpersand
operator_kind operator.DoubleParenthesis = kind.DoubleParenthesis
operator_kind operator.Semicolon = kind.Semicolon
operator_kind operator.Ampersand = kind.Ampersand
operator_kind operator.Bar = kind.Bar
operator_kind operator.OpenParenthesis = kind.Open
operator_kind operator.CloseParenthesis = kind.Close

-- in a condition `<` and `>` compare
abbrev pub redirect_kind : Mode → Redirection → Kind
redirect_kind m redirection.HereTabs = kind.HereRedirect
redirect_kind m redirection.HereDocument = kind.HereRedirect
redirect_kind mode.Condition redirection.Input = kind.Order
redirect_kind mode.Condition redirection.Output = kind.Order
redirect_kind m r = kind.Redirect

abbrev pub form_kind : Form → Kind
form_kind (form.Instead colon) = kind.Instead
form_kind (form.Assign colon) = kind.Instead
form_kind (form.Fault colon) = kind.Instead
form_kind (form.Other colon) = kind.Instead
form_kind (form.Cut tail longest) = kind.Cut
form_kind form.Slice = kind.Slice
form_kind form.ReplaceFirst = kind.Replace
form_kind form.ReplaceAll = kind.Replace
form_kind form.ReplaceFront = kind.Replace
form_kind form.ReplaceTail = kind.Replace

-- it is `path=` or `path+=`, without a value
abbrev pub assigns_nothing : List ℕ → Bool
assigns_nothing w = is_path (path_front w) && (bytes_eq (drop (length (path_front w)) w) (codes "=") || bytes_eq (drop (length (path_front w)) w) (codes "+="))

-- assignments are looked for between the words of commands and of values alone
abbrev pub may_assign : Mode → Bool
may_assign mode.Command = true
may_assign mode.Value = true
may_assign _ = false

-- a whole word of plain bytes, where assignments are looked for or not
abbrev pub bare_kind : Bool → List ℕ → Option ℕ → Kind
bare_kind looks w behind = if looks && (is 40 behind && assigns_nothing w) then kind.ValueOpen else word_kind looks w

-- a blank or a newline comes next
abbrev pub parts : Option ℕ → Bool
parts None = false
parts (Some b) = is_blank b || b == 10

-- what a token of a text is, read in that mode, where it takes these bytes and this byte comes behind
abbrev pub kind_by : List ℕ → Option ℕ → Mode → TokenKind → Kind
kind_by rest behind m token.End = kind.End
kind_by rest behind m token.Newline = kind.Newline
kind_by rest behind m (token.Operator o) = operator_kind o
kind_by rest behind m (token.Redirect r d) = redirect_kind m r
kind_by rest behind m token.Bare = kind.Other
kind_by rest behind m token.Start = if may_assign m && is_assignment rest then kind.StartAssignment else kind.Start
kind_by rest behind m token.Element = kind.Element
kind_by rest behind m token.Key = kind.Key
kind_by rest behind m token.WordEnd = kind.WordEnd
kind_by rest behind m token.Plain = kind.Plain
kind_by rest behind m token.Joined = kind.Joined
kind_by rest behind m token.Escaped = kind.Escaped
kind_by rest behind m token.Single = kind.Single
kind_by rest behind m (token.Ansi at) = kind.Ansi
kind_by rest behind m token.OpenQuote = kind.OpenQuote
kind_by rest behind m token.CloseQuote = kind.CloseQuote
kind_by rest behind m token.Backquote = kind.Backquote
kind_by rest behind m (token.Expand at) = kind.Expand
kind_by rest behind m token.OpenParameter = if parts behind then kind.OpenCurrent else kind.OpenParameter
kind_by rest behind m token.OpenSubstitution = kind.OpenSubstitution
kind_by rest behind m token.OpenArithmetic = kind.OpenArithmetic
kind_by rest behind m token.Dollar = kind.Dollar
kind_by rest behind m token.Open = kind.Open
kind_by rest behind m token.Close = kind.Close
kind_by rest behind m token.Separator = kind.Separator
kind_by rest behind m token.Length = kind.Length
kind_by rest behind m token.Target = kind.Target
kind_by rest behind m token.Name = kind.Name
kind_by rest behind m token.Digits = kind.Digits
kind_by rest behind m token.Special = kind.Special
kind_by rest behind m (token.Form f) = form_kind f
kind_by rest behind m (token.Items joined) = kind.Items
kind_by rest behind m (token.Member at) = kind.Member
kind_by rest behind m token.Prefix = kind.Prefix
kind_by rest behind m token.Assign = if is 40 behind then kind.ValueOpen else kind.Assign
kind_by rest behind m token.AddAssign = if is 40 behind then kind.ValueOpen else kind.AddAssign
kind_by rest behind m token.Otherwise = kind.Otherwise

-- a word of plain bytes is known by its bytes
abbrev pub is_bare : TokenKind → Bool
is_bare token.Bare = true
is_bare k = false

abbrev pub kind_of : List ℕ → Mode → Token → Kind
kind_of text m t =
    if is_bare t.kind then bare_kind (may_assign m) (take (t.to - t.from) (drop t.from text)) (slice_get text t.to)
    else kind_by (drop t.from text) (slice_get text t.to) m t.kind
