-- Which kinds of token a terminal takes, and in which mode.
use Rattle.std.specs.Prelude.{ℕ, Bool, true, false, not, ◌&&◌, ◌||◌, ◌==◌}
use Rattle.ksh_syntax.specs.declared.kind.Mode.{Mode}
use Rattle.ksh_syntax.specs.declared.kind.Mode.TheVariants as mode
use Rattle.ksh_syntax.specs.declared.kind.Kind.{Kind}
use Rattle.ksh_syntax.specs.declared.kind.Kind.TheVariants as kind
use Rattle.ksh_syntax.specs.declared.part.Terminal.{Terminal}
use Rattle.ksh_syntax.specs.declared.part.Terminal.TheVariants.{One, Any}
use Rattle.ksh_syntax.specs.declared.part.Words.{Words}
use Rattle.ksh_syntax.specs.declared.part.Words.TheVariants as words

-- each kind has a number
abbrev pub kind_number : Kind → ℕ
kind_number kind.End = 0
kind_number kind.Newline = 1
kind_number kind.NewlineBodies = 2
kind_number kind.Semicolon = 3
kind_number kind.DoubleSemicolon = 4
kind_number kind.SemicolonAmpersand = 5
kind_number kind.AndIf = 6
kind_number kind.OrIf = 7
kind_number kind.Bar = 8
kind_number kind.BarAmpersand = 9
kind_number kind.Ampersand = 10
kind_number kind.DoubleParenthesis = 11
kind_number kind.Open = 12
kind_number kind.Close = 13
kind_number kind.Backquote = 14
kind_number kind.Redirect = 15
kind_number kind.HereRedirect = 16
kind_number kind.Order = 17
kind_number kind.Start = 18
kind_number kind.StartAssignment = 19
kind_number kind.Element = 20
kind_number kind.ValueOpen = 21
kind_number kind.Key = 22
kind_number kind.If = 23
kind_number kind.Then = 24
kind_number kind.Else = 25
kind_number kind.Elif = 26
kind_number kind.Fi = 27
kind_number kind.Case = 28
kind_number kind.Esac = 29
kind_number kind.For = 30
kind_number kind.While = 31
kind_number kind.Until = 32
kind_number kind.Do = 33
kind_number kind.Done = 34
kind_number kind.LeftBrace = 35
kind_number kind.RightBrace = 36
kind_number kind.Function = 37
kind_number kind.Select = 38
kind_number kind.LeftBrackets = 39
kind_number kind.Bang = 40
kind_number kind.RightBrackets = 41
kind_number kind.In = 42
kind_number kind.Time = 43
kind_number kind.Namespace = 44
kind_number kind.Typeset = 45
kind_number kind.Unary = 46
kind_number kind.Binary = 47
kind_number kind.Name = 48
kind_number kind.Dotted = 49
kind_number kind.Assignment = 50
kind_number kind.Other = 51
kind_number kind.Plain = 52
kind_number kind.Joined = 53
kind_number kind.Escaped = 54
kind_number kind.Single = 55
kind_number kind.Ansi = 56
kind_number kind.OpenQuote = 57
kind_number kind.Expand = 58
kind_number kind.OpenParameter = 59
kind_number kind.OpenCurrent = 60
kind_number kind.OpenSubstitution = 61
kind_number kind.OpenArithmetic = 62
kind_number kind.Dollar = 63
kind_number kind.Separator = 64
kind_number kind.WordEnd = 65
kind_number kind.CloseQuote = 66
kind_number kind.BodyNext = 67
kind_number kind.BodyLast = 68
kind_number kind.Length = 69
kind_number kind.Target = 70
kind_number kind.Digits = 71
kind_number kind.Special = 72
kind_number kind.Items = 73
kind_number kind.Member = 74
kind_number kind.Prefix = 75
kind_number kind.Instead = 76
kind_number kind.Cut = 77
kind_number kind.Slice = 78
kind_number kind.Replace = 79
kind_number kind.Assign = 80
kind_number kind.AddAssign = 81
kind_number kind.Otherwise = 82

abbrev pub mode_number : Mode → ℕ
mode_number mode.Command = 0
mode_number mode.Pattern = 1
mode_number mode.Condition = 2
mode_number mode.Value = 3
mode_number mode.Word = 4
mode_number mode.Quoted = 5
mode_number mode.Group = 6
mode_number mode.Brace = 7
mode_number mode.Colon = 8
mode_number mode.Slash = 9
mode_number mode.Subscript = 10
mode_number mode.Arithmetic = 11
mode_number mode.LoopArithmetic = 12
mode_number mode.Parentheses = 13
mode_number mode.Body = 14
mode_number mode.Parameter = 15
mode_number mode.Form = 16
mode_number mode.Target = 17

abbrev pub same_kind : Kind → Kind → Bool
same_kind k l = kind_number k == kind_number l

abbrev pub same_mode : Mode → Mode → Bool
same_mode m n = mode_number m == mode_number n

-- a whole word of plain bytes
abbrev pub is_bare : Kind → Bool
is_bare kind.If = true
is_bare kind.Then = true
is_bare kind.Else = true
is_bare kind.Elif = true
is_bare kind.Fi = true
is_bare kind.Case = true
is_bare kind.Esac = true
is_bare kind.For = true
is_bare kind.While = true
is_bare kind.Until = true
is_bare kind.Do = true
is_bare kind.Done = true
is_bare kind.LeftBrace = true
is_bare kind.RightBrace = true
is_bare kind.Function = true
is_bare kind.Select = true
is_bare kind.LeftBrackets = true
is_bare kind.Bang = true
is_bare kind.RightBrackets = true
is_bare kind.In = true
is_bare kind.Time = true
is_bare kind.Namespace = true
is_bare kind.Typeset = true
is_bare kind.Unary = true
is_bare kind.Binary = true
is_bare kind.Name = true
is_bare kind.Dotted = true
is_bare kind.Assignment = true
is_bare kind.Other = true
is_bare _ = false

-- a reserved word that is a name
abbrev pub is_reserved_name : Kind → Bool
is_reserved_name kind.If = true
is_reserved_name kind.Then = true
is_reserved_name kind.Else = true
is_reserved_name kind.Elif = true
is_reserved_name kind.Fi = true
is_reserved_name kind.Case = true
is_reserved_name kind.Esac = true
is_reserved_name kind.For = true
is_reserved_name kind.While = true
is_reserved_name kind.Until = true
is_reserved_name kind.Do = true
is_reserved_name kind.Done = true
is_reserved_name kind.Function = true
is_reserved_name kind.Select = true
is_reserved_name kind.Time = true
is_reserved_name kind.Namespace = true
is_reserved_name _ = false

-- a word that is reserved or refused where a command begins
abbrev pub is_reserved : Kind → Bool
is_reserved kind.LeftBrace = true
is_reserved kind.RightBrace = true
is_reserved kind.LeftBrackets = true
is_reserved kind.Bang = true
is_reserved k = is_reserved_name k

-- a name that isn't reserved, or names with dots between them
abbrev pub names_function : Kind → Bool
names_function kind.Name = true
names_function kind.Dotted = true
names_function kind.Typeset = true
names_function kind.In = true
names_function _ = false

-- which kinds are in a set
abbrev pub are_in : Words → Kind → Bool
are_in words.AnyWord k = is_bare k
are_in words.FunctionName k = names_function k
are_in words.CommandWord k = is_bare k && not (is_reserved k || (names_function k || same_kind k kind.Assignment))
are_in words.AnyStart k = same_kind k kind.Start || same_kind k kind.StartAssignment
are_in words.DottedName k = names_function k || is_reserved_name k
are_in words.RedirectStart k = same_kind k kind.Start || (same_kind k kind.StartAssignment || same_kind k kind.Element)
are_in words.VariableName k = (names_function k && not (same_kind k kind.Dotted)) || is_reserved_name k
are_in words.NotEsac k = is_bare k && not (same_kind k kind.Esac)
are_in words.EveryStart k = same_kind k kind.Start || (same_kind k kind.StartAssignment || (same_kind k kind.Element || same_kind k kind.ValueOpen))
are_in words.FirstOperand k = is_bare k && not (same_kind k kind.Bang || (same_kind k kind.RightBrackets || same_kind k kind.Unary))
are_in words.OperandWord k = is_bare k && not (same_kind k kind.RightBrackets)
are_in words.NotBinary k = is_bare k && not (same_kind k kind.RightBrackets || same_kind k kind.Binary)
are_in words.MemberName k = names_function k && not (same_kind k kind.Typeset)
are_in words.ItemWord k = is_bare k && not (names_function k || (same_kind k kind.Assignment || same_kind k kind.Function))
are_in words.NotAssignment k = is_bare k && not (same_kind k kind.Assignment)
are_in words.NotName k = is_bare k && not (names_function k || (is_reserved_name k || same_kind k kind.Assignment))
are_in words.NotBrace k = is_bare k && not (same_kind k kind.Assignment || same_kind k kind.LeftBrace)

abbrev pub takes : Terminal → Kind → Bool
takes (One m l) k = same_kind l k
takes (Any m ws) k = are_in ws k

abbrev pub takes_in : Terminal → Mode → Bool
takes_in (One n l) m = same_mode n m
takes_in (Any n ws) m = same_mode n m
