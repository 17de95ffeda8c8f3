-- All kinds, modes and parts.
use Rattle.std.specs.Prelude.{◌≡◌, List, [], ◌∷◌, slice_get, Some}
use Rattle.ksh_syntax.specs.declared.kind.Mode.{Mode}
use Rattle.ksh_syntax.specs.declared.kind.Mode.TheVariants as mode
use Rattle.ksh_syntax.specs.declared.kind.Kind.{Kind}
use Rattle.ksh_syntax.specs.declared.kind.Kind.TheVariants as kind
use Rattle.ksh_syntax.specs.declared.part.Part as declared
use Rattle.ksh_syntax.specs.declared.part.Part.TheVariants as part
use Rattle.ksh_syntax.specs.declared.part.Ending.TheVariants as ending
use Rattle.std.proofs.Common.{refl}
use Rattle.ksh_grammar.specs.Rules.{HasAll}
use Rattle.ksh_syntax.specs.Takes.{kind_number, mode_number}

abbrev pub kinds : List Kind
kinds = kind.End ∷ kind.Newline ∷ kind.NewlineBodies ∷ kind.Semicolon ∷ kind.DoubleSemicolon ∷ kind.SemicolonAmpersand ∷ kind.AndIf ∷ kind.OrIf ∷ kind.Bar ∷ kind.BarAmpersand ∷ kind.Ampersand ∷ kind.DoubleParenthesis ∷ kind.Open ∷ kind.Close ∷ kind.Backquote ∷ kind.Redirect ∷ kind.HereRedirect ∷ kind.Order ∷ kind.Start ∷ kind.StartAssignment ∷ kind.Element ∷ kind.ValueOpen ∷ kind.Key ∷ kind.If ∷ kind.Then ∷ kind.Else ∷ kind.Elif ∷ kind.Fi ∷ kind.Case ∷ kind.Esac ∷ kind.For ∷ kind.While ∷ kind.Until ∷ kind.Do ∷ kind.Done ∷ kind.LeftBrace ∷ kind.RightBrace ∷ kind.Function ∷ kind.Select ∷ kind.LeftBrackets ∷ kind.Bang ∷ kind.RightBrackets ∷ kind.In ∷ kind.Time ∷ kind.Namespace ∷ kind.Typeset ∷ kind.Unary ∷ kind.Binary ∷ kind.Name ∷ kind.Dotted ∷ kind.Assignment ∷ kind.Other ∷ kind.Plain ∷ kind.Joined ∷ kind.Escaped ∷ kind.Single ∷ kind.Ansi ∷ kind.OpenQuote ∷ kind.Expand ∷ kind.OpenParameter ∷ kind.OpenCurrent ∷ kind.OpenSubstitution ∷ kind.OpenArithmetic ∷ kind.Dollar ∷ kind.Separator ∷ kind.WordEnd ∷ kind.CloseQuote ∷ kind.BodyNext ∷ kind.BodyLast ∷ kind.Length ∷ kind.Target ∷ kind.Digits ∷ kind.Special ∷ kind.Items ∷ kind.Member ∷ kind.Prefix ∷ kind.Instead ∷ kind.Cut ∷ kind.Slice ∷ kind.Replace ∷ kind.Assign ∷ kind.AddAssign ∷ kind.Otherwise ∷ []

pub kind_at : (k : Kind) → slice_get kinds (kind_number k) ≡ Some k
kind_at kind.End = refl
kind_at kind.Newline = refl
kind_at kind.NewlineBodies = refl
kind_at kind.Semicolon = refl
kind_at kind.DoubleSemicolon = refl
kind_at kind.SemicolonAmpersand = refl
kind_at kind.AndIf = refl
kind_at kind.OrIf = refl
kind_at kind.Bar = refl
kind_at kind.BarAmpersand = refl
kind_at kind.Ampersand = refl
kind_at kind.DoubleParenthesis = refl
kind_at kind.Open = refl
kind_at kind.Close = refl
kind_at kind.Backquote = refl
kind_at kind.Redirect = refl
kind_at kind.HereRedirect = refl
kind_at kind.Order = refl
kind_at kind.Start = refl
kind_at kind.StartAssignment = refl
kind_at kind.Element = refl
kind_at kind.ValueOpen = refl
kind_at kind.Key = refl
kind_at kind.If = refl
kind_at kind.Then = refl
kind_at kind.Else = refl
kind_at kind.Elif = refl
kind_at kind.Fi = refl
kind_at kind.Case = refl
kind_at kind.Esac = refl
kind_at kind.For = refl
kind_at kind.While = refl
kind_at kind.Until = refl
kind_at kind.Do = refl
kind_at kind.Done = refl
kind_at kind.LeftBrace = refl
kind_at kind.RightBrace = refl
kind_at kind.Function = refl
kind_at kind.Select = refl
kind_at kind.LeftBrackets = refl
kind_at kind.Bang = refl
kind_at kind.RightBrackets = refl
kind_at kind.In = refl
kind_at kind.Time = refl
kind_at kind.Namespace = refl
kind_at kind.Typeset = refl
kind_at kind.Unary = refl
kind_at kind.Binary = refl
kind_at kind.Name = refl
kind_at kind.Dotted = refl
kind_at kind.Assignment = refl
kind_at kind.Other = refl
kind_at kind.Plain = refl
kind_at kind.Joined = refl
kind_at kind.Escaped = refl
kind_at kind.Single = refl
kind_at kind.Ansi = refl
kind_at kind.OpenQuote = refl
kind_at kind.Expand = refl
kind_at kind.OpenParameter = refl
kind_at kind.OpenCurrent = refl
kind_at kind.OpenSubstitution = refl
kind_at kind.OpenArithmetic = refl
kind_at kind.Dollar = refl
kind_at kind.Separator = refl
kind_at kind.WordEnd = refl
kind_at kind.CloseQuote = refl
kind_at kind.BodyNext = refl
kind_at kind.BodyLast = refl
kind_at kind.Length = refl
kind_at kind.Target = refl
kind_at kind.Digits = refl
kind_at kind.Special = refl
kind_at kind.Items = refl
kind_at kind.Member = refl
kind_at kind.Prefix = refl
kind_at kind.Instead = refl
kind_at kind.Cut = refl
kind_at kind.Slice = refl
kind_at kind.Replace = refl
kind_at kind.Assign = refl
kind_at kind.AddAssign = refl
kind_at kind.Otherwise = refl

pub all_kinds : HasAll kinds
all_kinds k = (kind_number k, kind_at k)

abbrev pub modes : List Mode
modes = mode.Command ∷ mode.Pattern ∷ mode.Condition ∷ mode.Value ∷ mode.Word ∷ mode.Quoted ∷ mode.Group ∷ mode.Brace ∷ mode.Colon ∷ mode.Slash ∷ mode.Subscript ∷ mode.Arithmetic ∷ mode.LoopArithmetic ∷ mode.Parentheses ∷ mode.Body ∷ mode.Parameter ∷ mode.Form ∷ mode.Target ∷ []

pub mode_at : (m : Mode) → slice_get modes (mode_number m) ≡ Some m
mode_at mode.Command = refl
mode_at mode.Pattern = refl
mode_at mode.Condition = refl
mode_at mode.Value = refl
mode_at mode.Word = refl
mode_at mode.Quoted = refl
mode_at mode.Group = refl
mode_at mode.Brace = refl
mode_at mode.Colon = refl
mode_at mode.Slash = refl
mode_at mode.Subscript = refl
mode_at mode.Arithmetic = refl
mode_at mode.LoopArithmetic = refl
mode_at mode.Parentheses = refl
mode_at mode.Body = refl
mode_at mode.Parameter = refl
mode_at mode.Form = refl
mode_at mode.Target = refl

pub all_modes : HasAll modes
all_modes m = (mode_number m, mode_at m)

abbrev pub parts : List declared.Part
parts = (part.Text mode.Command) ∷ (part.Text mode.Pattern) ∷ (part.Text mode.Condition) ∷ (part.Text mode.Value) ∷ (part.Text mode.Word) ∷ (part.Text mode.Quoted) ∷ (part.Text mode.Group) ∷ (part.Text mode.Brace) ∷ (part.Text mode.Colon) ∷ (part.Text mode.Slash) ∷ (part.Text mode.Subscript) ∷ (part.Text mode.Arithmetic) ∷ (part.Text mode.LoopArithmetic) ∷ (part.Text mode.Parentheses) ∷ (part.Text mode.Body) ∷ (part.Text mode.Parameter) ∷ (part.Text mode.Form) ∷ (part.Text mode.Target) ∷ (part.Lines ending.Operator) ∷ (part.Body ending.Operator) ∷ (part.Commands ending.Operator) ∷ (part.Piped ending.Operator) ∷ (part.AfterName ending.Operator) ∷ (part.AfterSimple ending.Operator) ∷ (part.AfterCompound ending.Operator) ∷ (part.Lines ending.Word) ∷ (part.Body ending.Word) ∷ (part.Commands ending.Word) ∷ (part.Piped ending.Word) ∷ (part.AfterName ending.Word) ∷ (part.AfterSimple ending.Word) ∷ (part.AfterCompound ending.Word) ∷ (part.Lines ending.Case) ∷ (part.Body ending.Case) ∷ (part.Commands ending.Case) ∷ (part.Piped ending.Case) ∷ (part.AfterName ending.Case) ∷ (part.AfterSimple ending.Case) ∷ (part.AfterCompound ending.Case) ∷ part.Parameter ∷ part.LengthOf ∷ part.LengthPath ∷ part.TargetPath ∷ part.PathForm ∷ part.SpecialForm ∷ part.SliceEnd ∷ part.ReplaceEnd ∷ part.Script ∷ part.Line ∷ part.BodyTexts ∷ part.BodyEnd ∷ part.Newlines ∷ part.Simple ∷ part.Compounded ∷ part.Arguments ∷ part.Redirections ∷ part.Redirection ∷ part.RedirectWord ∷ part.ElementValue ∷ part.Compound ∷ part.IfBody ∷ part.IfRest ∷ part.LoopBody ∷ part.ForBody ∷ part.ForSeparator ∷ part.SelectBody ∷ part.ForWords ∷ part.ForLines ∷ part.WordList ∷ part.CaseBody ∷ part.AnyWord ∷ part.CaseItems ∷ part.PatternLine ∷ part.PatternRest ∷ part.PatternWord ∷ part.Condition ∷ part.ConditionLines ∷ part.ConditionLine ∷ part.Alternatives ∷ part.Conjunction ∷ part.Conjuncts ∷ part.Negation ∷ part.Term ∷ part.AfterOperand ∷ part.Operand ∷ part.AfterUnary ∷ part.AfterBinary ∷ part.Value ∷ part.ValueLine ∷ part.ItemElement ∷ part.MemberElement ∷ part.Items ∷ part.KeyValue ∷ part.ItemsMixed ∷ part.ItemsMembers ∷ part.ValueLines ∷ part.MemberFunction ∷ part.TypesetMember ∷ part.ItemsTypeset ∷ part.ItemsFunction ∷ part.ItemsBrace ∷ part.AfterItemName ∷ part.ItemsWords ∷ part.ItemsPairs ∷ part.MemberRedirections ∷ part.FirstArguments ∷ part.FirstElement ∷ []

pub all_parts : HasAll parts
all_parts (part.Text mode.Command) = (0, refl)
all_parts (part.Text mode.Pattern) = (1, refl)
all_parts (part.Text mode.Condition) = (2, refl)
all_parts (part.Text mode.Value) = (3, refl)
all_parts (part.Text mode.Word) = (4, refl)
all_parts (part.Text mode.Quoted) = (5, refl)
all_parts (part.Text mode.Group) = (6, refl)
all_parts (part.Text mode.Brace) = (7, refl)
all_parts (part.Text mode.Colon) = (8, refl)
all_parts (part.Text mode.Slash) = (9, refl)
all_parts (part.Text mode.Subscript) = (10, refl)
all_parts (part.Text mode.Arithmetic) = (11, refl)
all_parts (part.Text mode.LoopArithmetic) = (12, refl)
all_parts (part.Text mode.Parentheses) = (13, refl)
all_parts (part.Text mode.Body) = (14, refl)
all_parts (part.Text mode.Parameter) = (15, refl)
all_parts (part.Text mode.Form) = (16, refl)
all_parts (part.Text mode.Target) = (17, refl)
all_parts (part.Lines ending.Operator) = (18, refl)
all_parts (part.Body ending.Operator) = (19, refl)
all_parts (part.Commands ending.Operator) = (20, refl)
all_parts (part.Piped ending.Operator) = (21, refl)
all_parts (part.AfterName ending.Operator) = (22, refl)
all_parts (part.AfterSimple ending.Operator) = (23, refl)
all_parts (part.AfterCompound ending.Operator) = (24, refl)
all_parts (part.Lines ending.Word) = (25, refl)
all_parts (part.Body ending.Word) = (26, refl)
all_parts (part.Commands ending.Word) = (27, refl)
all_parts (part.Piped ending.Word) = (28, refl)
all_parts (part.AfterName ending.Word) = (29, refl)
all_parts (part.AfterSimple ending.Word) = (30, refl)
all_parts (part.AfterCompound ending.Word) = (31, refl)
all_parts (part.Lines ending.Case) = (32, refl)
all_parts (part.Body ending.Case) = (33, refl)
all_parts (part.Commands ending.Case) = (34, refl)
all_parts (part.Piped ending.Case) = (35, refl)
all_parts (part.AfterName ending.Case) = (36, refl)
all_parts (part.AfterSimple ending.Case) = (37, refl)
all_parts (part.AfterCompound ending.Case) = (38, refl)
all_parts part.Parameter = (39, refl)
all_parts part.LengthOf = (40, refl)
all_parts part.LengthPath = (41, refl)
all_parts part.TargetPath = (42, refl)
all_parts part.PathForm = (43, refl)
all_parts part.SpecialForm = (44, refl)
all_parts part.SliceEnd = (45, refl)
all_parts part.ReplaceEnd = (46, refl)
all_parts part.Script = (47, refl)
all_parts part.Line = (48, refl)
all_parts part.BodyTexts = (49, refl)
all_parts part.BodyEnd = (50, refl)
all_parts part.Newlines = (51, refl)
all_parts part.Simple = (52, refl)
all_parts part.Compounded = (53, refl)
all_parts part.Arguments = (54, refl)
all_parts part.Redirections = (55, refl)
all_parts part.Redirection = (56, refl)
all_parts part.RedirectWord = (57, refl)
all_parts part.ElementValue = (58, refl)
all_parts part.Compound = (59, refl)
all_parts part.IfBody = (60, refl)
all_parts part.IfRest = (61, refl)
all_parts part.LoopBody = (62, refl)
all_parts part.ForBody = (63, refl)
all_parts part.ForSeparator = (64, refl)
all_parts part.SelectBody = (65, refl)
all_parts part.ForWords = (66, refl)
all_parts part.ForLines = (67, refl)
all_parts part.WordList = (68, refl)
all_parts part.CaseBody = (69, refl)
all_parts part.AnyWord = (70, refl)
all_parts part.CaseItems = (71, refl)
all_parts part.PatternLine = (72, refl)
all_parts part.PatternRest = (73, refl)
all_parts part.PatternWord = (74, refl)
all_parts part.Condition = (75, refl)
all_parts part.ConditionLines = (76, refl)
all_parts part.ConditionLine = (77, refl)
all_parts part.Alternatives = (78, refl)
all_parts part.Conjunction = (79, refl)
all_parts part.Conjuncts = (80, refl)
all_parts part.Negation = (81, refl)
all_parts part.Term = (82, refl)
all_parts part.AfterOperand = (83, refl)
all_parts part.Operand = (84, refl)
all_parts part.AfterUnary = (85, refl)
all_parts part.AfterBinary = (86, refl)
all_parts part.Value = (87, refl)
all_parts part.ValueLine = (88, refl)
all_parts part.ItemElement = (89, refl)
all_parts part.MemberElement = (90, refl)
all_parts part.Items = (91, refl)
all_parts part.KeyValue = (92, refl)
all_parts part.ItemsMixed = (93, refl)
all_parts part.ItemsMembers = (94, refl)
all_parts part.ValueLines = (95, refl)
all_parts part.MemberFunction = (96, refl)
all_parts part.TypesetMember = (97, refl)
all_parts part.ItemsTypeset = (98, refl)
all_parts part.ItemsFunction = (99, refl)
all_parts part.ItemsBrace = (100, refl)
all_parts part.AfterItemName = (101, refl)
all_parts part.ItemsWords = (102, refl)
all_parts part.ItemsPairs = (103, refl)
all_parts part.MemberRedirections = (104, refl)
all_parts part.FirstArguments = (105, refl)
all_parts part.FirstElement = (106, refl)
