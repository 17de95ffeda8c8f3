-- The grammar of scripts: the rules of each part.
use Rattle.std.specs.Prelude.{List, [], ◌∷◌, ◌++◌}
use Rattle.ksh_grammar.specs.declared.symbol.Place.{Place}
use Rattle.ksh_grammar.specs.declared.symbol.Place.TheVariants.{Token, Part, Inside, Make}
use Rattle.ksh_syntax.specs.declared.kind.Mode.{Mode}
use Rattle.ksh_syntax.specs.declared.kind.Mode.TheVariants as mode
use Rattle.ksh_syntax.specs.declared.kind.Kind.{Kind}
use Rattle.ksh_syntax.specs.declared.kind.Kind.TheVariants as kind
use Rattle.ksh_syntax.specs.declared.part.Terminal.{Terminal}
use Rattle.ksh_syntax.specs.declared.part.Terminal.TheVariants.{One, Any}
use Rattle.ksh_syntax.specs.declared.part.Words.TheVariants as words
use Rattle.ksh_syntax.specs.declared.part.Part as declared
use Rattle.ksh_syntax.specs.declared.part.Part.TheVariants as part
use Rattle.ksh_syntax.specs.declared.part.Ending.{Ending}
use Rattle.ksh_syntax.specs.declared.part.Ending.TheVariants as ending
use Rattle.ksh_syntax.specs.declared.part.Mark.{Mark}
use Rattle.ksh_syntax.specs.declared.part.Mark.TheVariants as mark

abbrev pub Rule : Type 0
Rule = List (Place Terminal declared.Part Mark)

abbrev one : Mode → Kind → Place Terminal declared.Part Mark
one m k = Token (One m k)

-- pieces of every text, and its end, which the token behind it shows
abbrev pub pieces : Mode → List Rule
pieces m =
    []
    ∷ (one m kind.Plain ∷ Part (part.Text m) ∷ [])
    ∷ (one m kind.Joined ∷ Part (part.Text m) ∷ [])
    ∷ (one m kind.Escaped ∷ Part (part.Text m) ∷ [])
    ∷ (one m kind.Expand ∷ Part (part.Text m) ∷ [])
    ∷ (one m kind.Dollar ∷ Part (part.Text m) ∷ [])
    ∷ (Make mark.Opens ∷ one m kind.Backquote ∷ Inside (part.Lines ending.Operator) ∷ Make mark.Closes ∷ one mode.Command kind.Backquote ∷ Part (part.Text m) ∷ [])
    ∷ (Make mark.Opens ∷ one m kind.OpenParameter ∷ Inside part.Parameter ∷ Part (part.Text m) ∷ [])
    ∷ (Make mark.Opens ∷ one m kind.OpenCurrent ∷ Inside (part.Body ending.Word) ∷ Make mark.Closes ∷ one mode.Command kind.RightBrace ∷ Part (part.Text m) ∷ [])
    ∷ (Make mark.Opens ∷ one m kind.OpenSubstitution ∷ Inside (part.Lines ending.Operator) ∷ Make mark.Closes ∷ one mode.Command kind.Close ∷ Part (part.Text m) ∷ [])
    ∷ (Make mark.Opens ∷ one m kind.OpenArithmetic ∷ Inside (part.Text mode.Arithmetic) ∷ Make mark.Closes ∷ one mode.Arithmetic kind.Close ∷ Part (part.Text m) ∷ [])
    ∷ []

-- quotings
abbrev quotings : Mode → List Rule
quotings m =
    (one m kind.Single ∷ Part (part.Text m) ∷ [])
    ∷ (one m kind.Ansi ∷ Part (part.Text m) ∷ [])
    ∷ (Make mark.Opens ∷ one m kind.OpenQuote ∷ Part (part.Text mode.Quoted) ∷ Make mark.Closes ∷ one mode.Quoted kind.CloseQuote ∷ Part (part.Text m) ∷ [])
    ∷ []

-- what opens and closes within a text: groups of a pattern, brackets of a subscript, parentheses of an arithmetic text
abbrev nested : Mode → List Rule
nested mode.Word = (one mode.Word kind.Open ∷ Part (part.Text mode.Group) ∷ one mode.Group kind.Close ∷ Part (part.Text mode.Word) ∷ []) ∷ []
nested mode.Group = (one mode.Group kind.Open ∷ Part (part.Text mode.Group) ∷ one mode.Group kind.Close ∷ Part (part.Text mode.Group) ∷ []) ∷ []
nested mode.Subscript = (one mode.Subscript kind.Open ∷ Part (part.Text mode.Subscript) ∷ one mode.Subscript kind.Close ∷ Part (part.Text mode.Subscript) ∷ []) ∷ []
nested mode.Arithmetic = (one mode.Arithmetic kind.Open ∷ Inside (part.Text mode.Parentheses) ∷ one mode.Parentheses kind.Close ∷ Part (part.Text mode.Arithmetic) ∷ []) ∷ []
nested mode.LoopArithmetic = (one mode.LoopArithmetic kind.Open ∷ Inside (part.Text mode.Parentheses) ∷ one mode.Parentheses kind.Close ∷ Part (part.Text mode.LoopArithmetic) ∷ []) ∷ []
nested mode.Parentheses = (one mode.Parentheses kind.Open ∷ Inside (part.Text mode.Parentheses) ∷ one mode.Parentheses kind.Close ∷ Part (part.Text mode.Parentheses) ∷ []) ∷ []
nested _ = []

-- in double quotes and in bodies nothing else quotes
abbrev pub text_rules : Mode → List Rule
text_rules mode.Quoted = pieces mode.Quoted
text_rules mode.Body = pieces mode.Body
text_rules m = pieces m ++ (quotings m ++ nested m)

-- what joins commands, and what ends a command
abbrev pub joins : Ending → List Rule
joins e =
    (one mode.Command kind.Bar ∷ Part part.Newlines ∷ Part (part.Piped e) ∷ [])
    ∷ (one mode.Command kind.AndIf ∷ Part part.Newlines ∷ Part (part.Commands e) ∷ [])
    ∷ (one mode.Command kind.OrIf ∷ Part part.Newlines ∷ Part (part.Commands e) ∷ [])
    ∷ (one mode.Command kind.Semicolon ∷ Part (part.Lines e) ∷ [])
    ∷ (one mode.Command kind.Ampersand ∷ Part (part.Lines e) ∷ [])
    ∷ (one mode.Command kind.BarAmpersand ∷ Part (part.Lines e) ∷ [])
    ∷ (Part part.Line ∷ Part (part.Lines e) ∷ [])
    ∷ []

-- the end of an item of `case`
abbrev item_ends : List Rule
item_ends =
    (Make mark.ListEnds ∷ one mode.Command kind.DoubleSemicolon ∷ Part part.CaseItems ∷ [])
    ∷ (Make mark.ListEnds ∷ one mode.Command kind.SemicolonAmpersand ∷ Part part.CaseItems ∷ [])
    ∷ []

-- the end of a list behind a separator or a compound command
abbrev pub list_ends : Ending → List Rule
list_ends ending.Case = item_ends ++ (Make mark.ListEnds ∷ Make mark.Closes ∷ one mode.Command kind.Esac ∷ []) ∷ []
list_ends _ = (Make mark.ListEnds ∷ []) ∷ []

-- the end of a list directly behind a simple command, where a reserved word would be an argument
abbrev pub simple_ends : Ending → List Rule
simple_ends ending.Operator = (Make mark.ListEnds ∷ []) ∷ []
simple_ends ending.Word = []
simple_ends ending.Case = item_ends

abbrev pub list_rules : Ending → List Rule
list_rules e = (Part part.Line ∷ Part (part.Lines e) ∷ []) ∷ (Make mark.AndOrBegins ∷ Part (part.Commands e) ∷ []) ∷ list_ends e

abbrev pub rules : declared.Part → List Rule
rules (part.Text m) = text_rules m
rules (part.Lines e) = list_rules e
rules (part.Body e) = (Part part.Line ∷ Part (part.Body e) ∷ []) ∷ (Make mark.AndOrBegins ∷ Part (part.Commands e) ∷ []) ∷ []
rules (part.Commands e) = (Make mark.PipelineBegins ∷ one mode.Command kind.Bang ∷ Part (part.Piped e) ∷ []) ∷ (Make mark.PipelineBegins ∷ Part (part.Piped e) ∷ []) ∷ []
rules (part.Piped e) =
    (Make mark.SimpleBegins ∷ Make mark.CommandName ∷ Token (Any mode.Command words.FunctionName) ∷ Part (part.AfterName e) ∷ [])
    ∷ (Make mark.SimpleBegins ∷ Part part.Simple ∷ Part (part.AfterSimple e) ∷ [])
    ∷ (Part part.Compounded ∷ Part (part.AfterCompound e) ∷ [])
    ∷ []
rules (part.AfterName e) =
    (one mode.Command kind.Open ∷ one mode.Command kind.Close ∷ Part part.Newlines ∷ Part part.Compound ∷ Part part.Redirections ∷ Part (part.AfterCompound e) ∷ [])
    ∷ (Part part.Arguments ∷ Part (part.AfterSimple e) ∷ [])
    ∷ []
rules (part.AfterSimple e) = joins e ++ simple_ends e
rules (part.AfterCompound e) = joins e ++ list_ends e
rules part.Parameter =
    (one mode.Parameter kind.Length ∷ Part part.LengthOf ∷ [])
    ∷ (one mode.Parameter kind.Target ∷ one mode.Parameter kind.Name ∷ Part part.TargetPath ∷ [])
    ∷ (one mode.Parameter kind.Name ∷ Part part.PathForm ∷ [])
    ∷ (one mode.Parameter kind.Digits ∷ Part part.SpecialForm ∷ [])
    ∷ (one mode.Parameter kind.Special ∷ Part part.SpecialForm ∷ [])
    ∷ []
rules part.LengthOf =
    (one mode.Parameter kind.Name ∷ Part part.LengthPath ∷ [])
    ∷ (one mode.Parameter kind.Digits ∷ Make mark.Closes ∷ one mode.Form kind.Close ∷ [])
    ∷ (one mode.Parameter kind.Special ∷ Make mark.Closes ∷ one mode.Form kind.Close ∷ [])
    ∷ []
rules part.LengthPath =
    (one mode.Form kind.Open ∷ Part (part.Text mode.Subscript) ∷ Make mark.SubscriptEnds ∷ one mode.Subscript kind.Close ∷ Part part.LengthPath ∷ [])
    ∷ (one mode.Form kind.Member ∷ Part part.LengthPath ∷ [])
    ∷ (one mode.Form kind.Items ∷ Make mark.Closes ∷ one mode.Form kind.Close ∷ [])
    ∷ (Make mark.Closes ∷ one mode.Form kind.Close ∷ [])
    ∷ []
rules part.TargetPath =
    (one mode.Form kind.Open ∷ Part (part.Text mode.Subscript) ∷ Make mark.SubscriptEnds ∷ one mode.Subscript kind.Close ∷ Part part.TargetPath ∷ [])
    ∷ (one mode.Form kind.Member ∷ Part part.TargetPath ∷ [])
    ∷ (one mode.Form kind.Items ∷ Make mark.Closes ∷ one mode.Form kind.Close ∷ [])
    ∷ (one mode.Form kind.Prefix ∷ Make mark.Closes ∷ one mode.Form kind.Close ∷ [])
    ∷ (Make mark.Closes ∷ one mode.Form kind.Close ∷ [])
    ∷ []
rules part.PathForm =
    (one mode.Form kind.Open ∷ Part (part.Text mode.Subscript) ∷ Make mark.SubscriptEnds ∷ one mode.Subscript kind.Close ∷ Part part.PathForm ∷ [])
    ∷ (one mode.Form kind.Member ∷ Part part.PathForm ∷ [])
    ∷ (one mode.Form kind.Items ∷ Part part.SpecialForm ∷ [])
    ∷ (Make mark.Closes ∷ one mode.Form kind.Close ∷ [])
    ∷ (one mode.Form kind.Instead ∷ Part (part.Text mode.Brace) ∷ Make mark.Closes ∷ one mode.Brace kind.Close ∷ [])
    ∷ (one mode.Form kind.Cut ∷ Part (part.Text mode.Brace) ∷ Make mark.Closes ∷ one mode.Brace kind.Close ∷ [])
    ∷ (one mode.Form kind.Slice ∷ Part (part.Text mode.Colon) ∷ Part part.SliceEnd ∷ [])
    ∷ (one mode.Form kind.Replace ∷ Part (part.Text mode.Slash) ∷ Part part.ReplaceEnd ∷ [])
    ∷ []
rules part.SpecialForm =
    (Make mark.Closes ∷ one mode.Form kind.Close ∷ [])
    ∷ (one mode.Form kind.Instead ∷ Part (part.Text mode.Brace) ∷ Make mark.Closes ∷ one mode.Brace kind.Close ∷ [])
    ∷ (one mode.Form kind.Cut ∷ Part (part.Text mode.Brace) ∷ Make mark.Closes ∷ one mode.Brace kind.Close ∷ [])
    ∷ (one mode.Form kind.Slice ∷ Part (part.Text mode.Colon) ∷ Part part.SliceEnd ∷ [])
    ∷ (one mode.Form kind.Replace ∷ Part (part.Text mode.Slash) ∷ Part part.ReplaceEnd ∷ [])
    ∷ []
rules part.SliceEnd = (Make mark.Closes ∷ one mode.Colon kind.Close ∷ []) ∷ (one mode.Colon kind.Separator ∷ Part (part.Text mode.Brace) ∷ Make mark.Closes ∷ one mode.Brace kind.Close ∷ []) ∷ []
rules part.ReplaceEnd = (Make mark.Closes ∷ one mode.Slash kind.Close ∷ []) ∷ (one mode.Slash kind.Separator ∷ Part (part.Text mode.Brace) ∷ Make mark.Closes ∷ one mode.Brace kind.Close ∷ []) ∷ []
rules part.Script = (Part (part.Lines ending.Operator) ∷ one mode.Command kind.End ∷ []) ∷ []
rules part.Line = (one mode.Command kind.Newline ∷ []) ∷ (one mode.Command kind.NewlineBodies ∷ Part part.BodyTexts ∷ []) ∷ []
rules part.BodyTexts = (Part (part.Text mode.Body) ∷ Part part.BodyEnd ∷ []) ∷ []
rules part.BodyEnd = (one mode.Body kind.BodyNext ∷ Part part.BodyTexts ∷ []) ∷ (one mode.Body kind.BodyLast ∷ []) ∷ []
rules part.Newlines = [] ∷ (Part part.Line ∷ Part part.Newlines ∷ []) ∷ []
rules part.Simple =
    (Make mark.CommandWord ∷ Make mark.CommandName ∷ Token (Any mode.Command words.CommandWord) ∷ Part part.Arguments ∷ [])
    ∷ (one mode.Command kind.Start ∷ Part (part.Text mode.Word) ∷ one mode.Word kind.WordEnd ∷ Part part.Arguments ∷ [])
    ∷ (one mode.Command kind.StartAssignment ∷ Part (part.Text mode.Word) ∷ one mode.Word kind.WordEnd ∷ Part part.FirstArguments ∷ [])
    ∷ (one mode.Command kind.Element ∷ Part part.FirstElement ∷ [])
    ∷ (one mode.Command kind.ValueOpen ∷ Part part.Value ∷ Part part.FirstArguments ∷ [])
    ∷ (one mode.Command kind.Assignment ∷ Part part.FirstArguments ∷ [])
    ∷ (Part part.Redirection ∷ Part part.FirstArguments ∷ [])
    ∷ []
rules part.FirstArguments =
    (Make mark.SimpleEnds ∷ [])
    ∷ (Make mark.CommandName ∷ Token (Any mode.Command words.NotAssignment) ∷ Part part.Arguments ∷ [])
    ∷ (one mode.Command kind.Start ∷ Part (part.Text mode.Word) ∷ one mode.Word kind.WordEnd ∷ Part part.Arguments ∷ [])
    ∷ (one mode.Command kind.StartAssignment ∷ Part (part.Text mode.Word) ∷ one mode.Word kind.WordEnd ∷ Part part.FirstArguments ∷ [])
    ∷ (one mode.Command kind.Element ∷ Part part.FirstElement ∷ [])
    ∷ (one mode.Command kind.ValueOpen ∷ Part part.Value ∷ Part part.FirstArguments ∷ [])
    ∷ (one mode.Command kind.Assignment ∷ Part part.FirstArguments ∷ [])
    ∷ (Part part.Redirection ∷ Part part.FirstArguments ∷ [])
    ∷ []
rules part.FirstElement =
    (one mode.Target kind.Open ∷ Part (part.Text mode.Subscript) ∷ Make mark.SubscriptEnds ∷ one mode.Subscript kind.Close ∷ Part part.FirstElement ∷ [])
    ∷ (one mode.Target kind.Member ∷ Part part.FirstElement ∷ [])
    ∷ (one mode.Target kind.Assign ∷ Part (part.Text mode.Word) ∷ one mode.Word kind.WordEnd ∷ Part part.FirstArguments ∷ [])
    ∷ (one mode.Target kind.AddAssign ∷ Part (part.Text mode.Word) ∷ one mode.Word kind.WordEnd ∷ Part part.FirstArguments ∷ [])
    ∷ (one mode.Target kind.ValueOpen ∷ Part part.Value ∷ Part part.FirstArguments ∷ [])
    ∷ (one mode.Target kind.Otherwise ∷ Part (part.Text mode.Word) ∷ one mode.Word kind.WordEnd ∷ Part part.Arguments ∷ [])
    ∷ []
rules part.Compounded =
    (Part part.Compound ∷ Part part.Redirections ∷ [])
    ∷ (one mode.Command kind.Function ∷ Token (Any mode.Command words.DottedName) ∷ Part part.Newlines ∷ Make mark.Opens ∷ one mode.Command kind.LeftBrace ∷ Inside (part.Body ending.Word) ∷ Make mark.Closes ∷ one mode.Command kind.RightBrace ∷ Part part.Redirections ∷ [])
    ∷ []
rules part.Arguments =
    (Make mark.SimpleEnds ∷ [])
    ∷ (Token (Any mode.Command words.AnyWord) ∷ Part part.Arguments ∷ [])
    ∷ (Token (Any mode.Command words.AnyStart) ∷ Part (part.Text mode.Word) ∷ one mode.Word kind.WordEnd ∷ Part part.Arguments ∷ [])
    ∷ (one mode.Command kind.Element ∷ Part part.ElementValue ∷ Part part.Arguments ∷ [])
    ∷ (one mode.Command kind.ValueOpen ∷ Part part.Value ∷ Part part.Arguments ∷ [])
    ∷ (Part part.Redirection ∷ Part part.Arguments ∷ [])
    ∷ []
rules part.Redirections = (Make mark.CompoundEnds ∷ []) ∷ (Part part.Redirection ∷ Part part.Redirections ∷ []) ∷ []
rules part.Redirection = (one mode.Command kind.Redirect ∷ Part part.RedirectWord ∷ []) ∷ (one mode.Command kind.HereRedirect ∷ Part part.RedirectWord ∷ []) ∷ []
rules part.RedirectWord =
    (Token (Any mode.Condition words.AnyWord) ∷ [])
    ∷ (Make mark.Opens ∷ Token (Any mode.Condition words.RedirectStart) ∷ Part (part.Text mode.Word) ∷ Make mark.Closes ∷ one mode.Word kind.WordEnd ∷ [])
    ∷ []
rules part.ElementValue =
    (one mode.Target kind.Open ∷ Part (part.Text mode.Subscript) ∷ Make mark.SubscriptEnds ∷ one mode.Subscript kind.Close ∷ Part part.ElementValue ∷ [])
    ∷ (one mode.Target kind.Member ∷ Part part.ElementValue ∷ [])
    ∷ (one mode.Target kind.Assign ∷ Part (part.Text mode.Word) ∷ one mode.Word kind.WordEnd ∷ [])
    ∷ (one mode.Target kind.AddAssign ∷ Part (part.Text mode.Word) ∷ one mode.Word kind.WordEnd ∷ [])
    ∷ (one mode.Target kind.ValueOpen ∷ Part part.Value ∷ [])
    ∷ (one mode.Target kind.Otherwise ∷ Part (part.Text mode.Word) ∷ one mode.Word kind.WordEnd ∷ [])
    ∷ []
rules part.Compound =
    (Make mark.Opens ∷ one mode.Command kind.LeftBrace ∷ Inside (part.Body ending.Word) ∷ Make mark.Closes ∷ one mode.Command kind.RightBrace ∷ [])
    ∷ (Make mark.Opens ∷ one mode.Command kind.Open ∷ Inside (part.Body ending.Operator) ∷ Make mark.Closes ∷ one mode.Command kind.Close ∷ [])
    ∷ (Make mark.Opens ∷ one mode.Command kind.DoubleParenthesis ∷ Inside (part.Text mode.Arithmetic) ∷ Make mark.Closes ∷ one mode.Arithmetic kind.Close ∷ [])
    ∷ (Make mark.Opens ∷ one mode.Command kind.LeftBrackets ∷ Inside part.Condition ∷ Make mark.Closes ∷ one mode.Condition kind.RightBrackets ∷ [])
    ∷ (Make mark.Opens ∷ one mode.Command kind.If ∷ Inside part.IfBody ∷ [])
    ∷ (Make mark.Opens ∷ one mode.Command kind.While ∷ Inside part.LoopBody ∷ [])
    ∷ (Make mark.Opens ∷ one mode.Command kind.Until ∷ Inside part.LoopBody ∷ [])
    ∷ (Make mark.Opens ∷ one mode.Command kind.For ∷ Inside part.ForBody ∷ [])
    ∷ (Make mark.Opens ∷ one mode.Command kind.Select ∷ Inside part.SelectBody ∷ [])
    ∷ (Make mark.Opens ∷ one mode.Command kind.Case ∷ Inside part.CaseBody ∷ [])
    ∷ []
rules part.IfBody = (Part (part.Body ending.Word) ∷ one mode.Command kind.Then ∷ Part (part.Body ending.Word) ∷ Part part.IfRest ∷ []) ∷ []
rules part.IfRest =
    (one mode.Command kind.Elif ∷ Part (part.Body ending.Word) ∷ one mode.Command kind.Then ∷ Part (part.Body ending.Word) ∷ Part part.IfRest ∷ [])
    ∷ (one mode.Command kind.Else ∷ Part (part.Body ending.Word) ∷ Make mark.Closes ∷ one mode.Command kind.Fi ∷ [])
    ∷ (Make mark.Closes ∷ one mode.Command kind.Fi ∷ [])
    ∷ []
rules part.LoopBody = (Part (part.Body ending.Word) ∷ one mode.Command kind.Do ∷ Part (part.Body ending.Word) ∷ Make mark.Closes ∷ one mode.Command kind.Done ∷ []) ∷ []
rules part.ForBody =
    (Make mark.Opens ∷ one mode.Command kind.DoubleParenthesis ∷ Part (part.Text mode.LoopArithmetic) ∷ one mode.LoopArithmetic kind.Separator ∷ Part (part.Text mode.LoopArithmetic) ∷ one mode.LoopArithmetic kind.Separator ∷ Part (part.Text mode.Arithmetic) ∷ Make mark.Closes ∷ one mode.Arithmetic kind.Close ∷ Part part.ForSeparator ∷ one mode.Command kind.Do ∷ Part (part.Body ending.Word) ∷ Make mark.Closes ∷ one mode.Command kind.Done ∷ [])
    ∷ (Token (Any mode.Command words.VariableName) ∷ Part part.ForWords ∷ [])
    ∷ []
rules part.ForSeparator = (one mode.Command kind.Semicolon ∷ Part part.Newlines ∷ []) ∷ (Part part.Newlines ∷ []) ∷ []
rules part.SelectBody = (Token (Any mode.Command words.VariableName) ∷ Part part.ForWords ∷ []) ∷ []
rules part.ForWords =
    (one mode.Command kind.In ∷ Part part.WordList ∷ [])
    ∷ (one mode.Command kind.Do ∷ Part (part.Body ending.Word) ∷ Make mark.Closes ∷ one mode.Command kind.Done ∷ [])
    ∷ (one mode.Command kind.Semicolon ∷ Part part.Newlines ∷ one mode.Command kind.Do ∷ Part (part.Body ending.Word) ∷ Make mark.Closes ∷ one mode.Command kind.Done ∷ [])
    ∷ (Part part.Line ∷ Part part.ForLines ∷ [])
    ∷ []
rules part.ForLines =
    (Part part.Line ∷ Part part.ForLines ∷ [])
    ∷ (one mode.Command kind.In ∷ Part part.WordList ∷ [])
    ∷ (one mode.Command kind.Do ∷ Part (part.Body ending.Word) ∷ Make mark.Closes ∷ one mode.Command kind.Done ∷ [])
    ∷ []
rules part.WordList =
    (Token (Any mode.Command words.AnyWord) ∷ Part part.WordList ∷ [])
    ∷ (Token (Any mode.Command words.AnyStart) ∷ Part (part.Text mode.Word) ∷ one mode.Word kind.WordEnd ∷ Part part.WordList ∷ [])
    ∷ (one mode.Command kind.Semicolon ∷ Part part.Newlines ∷ one mode.Command kind.Do ∷ Part (part.Body ending.Word) ∷ Make mark.Closes ∷ one mode.Command kind.Done ∷ [])
    ∷ (Part part.Line ∷ Part part.Newlines ∷ one mode.Command kind.Do ∷ Part (part.Body ending.Word) ∷ Make mark.Closes ∷ one mode.Command kind.Done ∷ [])
    ∷ []
rules part.CaseBody = (Part part.AnyWord ∷ Part part.Newlines ∷ one mode.Command kind.In ∷ Part part.CaseItems ∷ []) ∷ []
rules part.AnyWord =
    (Token (Any mode.Command words.AnyWord) ∷ [])
    ∷ (Token (Any mode.Command words.AnyStart) ∷ Part (part.Text mode.Word) ∷ one mode.Word kind.WordEnd ∷ [])
    ∷ []
rules part.CaseItems =
    (Make mark.Closes ∷ one mode.Pattern kind.Esac ∷ [])
    ∷ (Part part.PatternLine ∷ Part part.CaseItems ∷ [])
    ∷ (one mode.Pattern kind.Open ∷ Part part.PatternWord ∷ Part part.PatternRest ∷ Part (part.Lines ending.Case) ∷ [])
    ∷ (Token (Any mode.Pattern words.NotEsac) ∷ Part part.PatternRest ∷ Part (part.Lines ending.Case) ∷ [])
    ∷ (Token (Any mode.Pattern words.EveryStart) ∷ Part (part.Text mode.Word) ∷ one mode.Word kind.WordEnd ∷ Part part.PatternRest ∷ Part (part.Lines ending.Case) ∷ [])
    ∷ []
rules part.PatternLine = (one mode.Pattern kind.Newline ∷ []) ∷ (one mode.Pattern kind.NewlineBodies ∷ Part part.BodyTexts ∷ []) ∷ []
rules part.PatternRest = (one mode.Pattern kind.Bar ∷ Part part.PatternWord ∷ Part part.PatternRest ∷ []) ∷ (one mode.Pattern kind.Close ∷ []) ∷ []
rules part.PatternWord =
    (Token (Any mode.Pattern words.AnyWord) ∷ [])
    ∷ (Token (Any mode.Pattern words.EveryStart) ∷ Part (part.Text mode.Word) ∷ one mode.Word kind.WordEnd ∷ [])
    ∷ []
rules part.Condition = (Part part.ConditionLines ∷ Part part.Conjunction ∷ Part part.Alternatives ∷ []) ∷ []
rules part.ConditionLines = [] ∷ (Part part.ConditionLine ∷ Part part.ConditionLines ∷ []) ∷ []
rules part.ConditionLine = (one mode.Condition kind.Newline ∷ []) ∷ (one mode.Condition kind.NewlineBodies ∷ Part part.BodyTexts ∷ []) ∷ []
rules part.Alternatives = [] ∷ (one mode.Condition kind.OrIf ∷ Part part.ConditionLines ∷ Part part.Conjunction ∷ Part part.Alternatives ∷ []) ∷ []
rules part.Conjunction = (Part part.Negation ∷ Part part.Conjuncts ∷ []) ∷ []
rules part.Conjuncts = [] ∷ (one mode.Condition kind.AndIf ∷ Part part.ConditionLines ∷ Part part.Negation ∷ Part part.Conjuncts ∷ []) ∷ []
rules part.Negation = (one mode.Condition kind.Bang ∷ Part part.ConditionLines ∷ Part part.Negation ∷ []) ∷ (Part part.Term ∷ Make mark.TermEnds ∷ Part part.ConditionLines ∷ []) ∷ []
rules part.Term =
    (one mode.Condition kind.Open ∷ Inside part.Condition ∷ one mode.Condition kind.Close ∷ [])
    ∷ (one mode.Condition kind.Unary ∷ Part part.AfterUnary ∷ [])
    ∷ (Token (Any mode.Condition words.FirstOperand) ∷ Part part.AfterOperand ∷ [])
    ∷ (Token (Any mode.Condition words.EveryStart) ∷ Part (part.Text mode.Word) ∷ one mode.Word kind.WordEnd ∷ Part part.AfterOperand ∷ [])
    ∷ []
rules part.AfterOperand = [] ∷ (one mode.Condition kind.Binary ∷ Part part.Operand ∷ []) ∷ (one mode.Condition kind.Order ∷ Part part.Operand ∷ []) ∷ []
rules part.Operand =
    (Token (Any mode.Condition words.OperandWord) ∷ [])
    ∷ (Token (Any mode.Condition words.EveryStart) ∷ Part (part.Text mode.Word) ∷ one mode.Word kind.WordEnd ∷ [])
    ∷ []
rules part.AfterUnary =
    []
    ∷ (Token (Any mode.Condition words.NotBinary) ∷ [])
    ∷ (Token (Any mode.Condition words.EveryStart) ∷ Part (part.Text mode.Word) ∷ one mode.Word kind.WordEnd ∷ [])
    ∷ (one mode.Condition kind.Binary ∷ Part part.AfterBinary ∷ [])
    ∷ (one mode.Condition kind.Order ∷ Part part.Operand ∷ [])
    ∷ []
rules part.AfterBinary =
    []
    ∷ (Token (Any mode.Condition words.OperandWord) ∷ [])
    ∷ (Token (Any mode.Condition words.EveryStart) ∷ Part (part.Text mode.Word) ∷ one mode.Word kind.WordEnd ∷ [])
    ∷ []
rules part.Value = (Make mark.Opens ∷ one mode.Value kind.Open ∷ Inside part.Items ∷ []) ∷ []
rules part.ValueLine = (one mode.Value kind.Newline ∷ []) ∷ (one mode.Value kind.NewlineBodies ∷ Part part.BodyTexts ∷ []) ∷ []
rules part.ItemElement =
    (one mode.Target kind.Open ∷ Part (part.Text mode.Subscript) ∷ Make mark.SubscriptEnds ∷ one mode.Subscript kind.Close ∷ Part part.ItemElement ∷ [])
    ∷ (one mode.Target kind.Member ∷ Part part.ItemElement ∷ [])
    ∷ (one mode.Target kind.Assign ∷ Part (part.Text mode.Word) ∷ one mode.Word kind.WordEnd ∷ Part part.ItemsMixed ∷ [])
    ∷ (one mode.Target kind.AddAssign ∷ Part (part.Text mode.Word) ∷ one mode.Word kind.WordEnd ∷ Part part.ItemsMixed ∷ [])
    ∷ (one mode.Target kind.ValueOpen ∷ Part part.Value ∷ Part part.ItemsMembers ∷ [])
    ∷ (one mode.Target kind.Otherwise ∷ Part (part.Text mode.Word) ∷ one mode.Word kind.WordEnd ∷ Part part.ItemsWords ∷ [])
    ∷ []
rules part.MemberElement =
    (one mode.Target kind.Open ∷ Part (part.Text mode.Subscript) ∷ Make mark.SubscriptEnds ∷ one mode.Subscript kind.Close ∷ Part part.MemberElement ∷ [])
    ∷ (one mode.Target kind.Member ∷ Part part.MemberElement ∷ [])
    ∷ (one mode.Target kind.Assign ∷ Part (part.Text mode.Word) ∷ one mode.Word kind.WordEnd ∷ [])
    ∷ (one mode.Target kind.AddAssign ∷ Part (part.Text mode.Word) ∷ one mode.Word kind.WordEnd ∷ [])
    ∷ (one mode.Target kind.ValueOpen ∷ Part part.Value ∷ [])
    ∷ []
rules part.Items =
    (Make mark.Closes ∷ one mode.Value kind.Close ∷ [])
    ∷ (Part part.ValueLine ∷ Part part.Items ∷ [])
    ∷ (one mode.Value kind.Semicolon ∷ Part part.ItemsMembers ∷ [])
    ∷ (one mode.Value kind.Assignment ∷ Part part.ItemsMixed ∷ [])
    ∷ (one mode.Value kind.StartAssignment ∷ Part (part.Text mode.Word) ∷ one mode.Word kind.WordEnd ∷ Part part.ItemsMixed ∷ [])
    ∷ (one mode.Value kind.Element ∷ Part part.ItemElement ∷ [])
    ∷ (one mode.Value kind.ValueOpen ∷ Part part.Value ∷ Part part.ItemsMembers ∷ [])
    ∷ (one mode.Value kind.Key ∷ Part (part.Text mode.Subscript) ∷ Make mark.SubscriptEnds ∷ one mode.Subscript kind.Close ∷ Part part.KeyValue ∷ Part part.ItemsPairs ∷ [])
    ∷ (one mode.Value kind.Typeset ∷ Part part.ItemsTypeset ∷ [])
    ∷ (one mode.Value kind.Function ∷ Part part.ItemsFunction ∷ [])
    ∷ (Token (Any mode.Value words.MemberName) ∷ Part part.AfterItemName ∷ [])
    ∷ (Token (Any mode.Value words.ItemWord) ∷ Part part.ItemsWords ∷ [])
    ∷ (one mode.Value kind.Start ∷ Part (part.Text mode.Word) ∷ one mode.Word kind.WordEnd ∷ Part part.ItemsWords ∷ [])
    ∷ []
rules part.KeyValue = (one mode.Target kind.Assign ∷ Part (part.Text mode.Word) ∷ one mode.Word kind.WordEnd ∷ []) ∷ []
rules part.ItemsMixed =
    (Make mark.Closes ∷ one mode.Value kind.Close ∷ [])
    ∷ (Part part.ValueLine ∷ Part part.ItemsMixed ∷ [])
    ∷ (one mode.Value kind.Semicolon ∷ Part part.ItemsMembers ∷ [])
    ∷ (one mode.Value kind.Assignment ∷ Part part.ItemsMixed ∷ [])
    ∷ (one mode.Value kind.StartAssignment ∷ Part (part.Text mode.Word) ∷ one mode.Word kind.WordEnd ∷ Part part.ItemsMixed ∷ [])
    ∷ (one mode.Value kind.Element ∷ Part part.ItemElement ∷ [])
    ∷ (one mode.Value kind.ValueOpen ∷ Part part.Value ∷ Part part.ItemsMembers ∷ [])
    ∷ (one mode.Value kind.Key ∷ Part (part.Text mode.Subscript) ∷ Make mark.SubscriptEnds ∷ one mode.Subscript kind.Close ∷ Part part.KeyValue ∷ Part part.ItemsWords ∷ [])
    ∷ (one mode.Value kind.Typeset ∷ Part part.ItemsTypeset ∷ [])
    ∷ (one mode.Value kind.Function ∷ Part part.ItemsFunction ∷ [])
    ∷ (Token (Any mode.Value words.MemberName) ∷ Part part.AfterItemName ∷ [])
    ∷ (Token (Any mode.Value words.ItemWord) ∷ Part part.ItemsWords ∷ [])
    ∷ (one mode.Value kind.Start ∷ Part (part.Text mode.Word) ∷ one mode.Word kind.WordEnd ∷ Part part.ItemsWords ∷ [])
    ∷ []
rules part.ItemsMembers =
    (Make mark.Closes ∷ one mode.Value kind.Close ∷ [])
    ∷ (Part part.ValueLine ∷ Part part.ItemsMembers ∷ [])
    ∷ (one mode.Value kind.Semicolon ∷ Part part.ItemsMembers ∷ [])
    ∷ (one mode.Value kind.Assignment ∷ Part part.ItemsMembers ∷ [])
    ∷ (one mode.Value kind.StartAssignment ∷ Part (part.Text mode.Word) ∷ one mode.Word kind.WordEnd ∷ Part part.ItemsMembers ∷ [])
    ∷ (one mode.Value kind.Element ∷ Part part.MemberElement ∷ Part part.ItemsMembers ∷ [])
    ∷ (one mode.Value kind.ValueOpen ∷ Part part.Value ∷ Part part.ItemsMembers ∷ [])
    ∷ (one mode.Value kind.Typeset ∷ Part part.TypesetMember ∷ [])
    ∷ (one mode.Value kind.Function ∷ Token (Any mode.Value words.DottedName) ∷ Part part.ValueLines ∷ Make mark.MemberBody ∷ Make mark.Opens ∷ one mode.Value kind.LeftBrace ∷ Inside (part.Body ending.Word) ∷ Make mark.Closes ∷ one mode.Command kind.RightBrace ∷ Part part.MemberRedirections ∷ [])
    ∷ (Token (Any mode.Value words.MemberName) ∷ Part part.MemberFunction ∷ [])
    ∷ []
rules part.ValueLines = [] ∷ (Part part.ValueLine ∷ Part part.ValueLines ∷ []) ∷ []
rules part.MemberFunction = (one mode.Value kind.Open ∷ one mode.Command kind.Close ∷ Part part.Newlines ∷ Part part.Compound ∷ Part part.MemberRedirections ∷ []) ∷ []
rules part.TypesetMember =
    (Make mark.Closes ∷ one mode.Value kind.Close ∷ [])
    ∷ (Part part.ValueLine ∷ Part part.ItemsMembers ∷ [])
    ∷ (one mode.Value kind.Semicolon ∷ Part part.ItemsMembers ∷ [])
    ∷ (one mode.Value kind.Assignment ∷ Part part.TypesetMember ∷ [])
    ∷ (one mode.Value kind.StartAssignment ∷ Part (part.Text mode.Word) ∷ one mode.Word kind.WordEnd ∷ Part part.TypesetMember ∷ [])
    ∷ (one mode.Value kind.Element ∷ Part part.MemberElement ∷ Part part.TypesetMember ∷ [])
    ∷ (one mode.Value kind.ValueOpen ∷ Part part.Value ∷ Part part.TypesetMember ∷ [])
    ∷ (Token (Any mode.Value words.NotAssignment) ∷ Part part.TypesetMember ∷ [])
    ∷ (one mode.Value kind.Start ∷ Part (part.Text mode.Word) ∷ one mode.Word kind.WordEnd ∷ Part part.TypesetMember ∷ [])
    ∷ []
rules part.ItemsTypeset =
    (Make mark.Closes ∷ one mode.Value kind.Close ∷ [])
    ∷ (Part part.ValueLine ∷ Part part.ItemsMixed ∷ [])
    ∷ (one mode.Value kind.Semicolon ∷ Part part.ItemsMembers ∷ [])
    ∷ (one mode.Value kind.Assignment ∷ Part part.ItemsTypeset ∷ [])
    ∷ (one mode.Value kind.StartAssignment ∷ Part (part.Text mode.Word) ∷ one mode.Word kind.WordEnd ∷ Part part.ItemsTypeset ∷ [])
    ∷ (one mode.Value kind.Element ∷ Part part.MemberElement ∷ Part part.TypesetMember ∷ [])
    ∷ (one mode.Value kind.ValueOpen ∷ Part part.Value ∷ Part part.TypesetMember ∷ [])
    ∷ (Token (Any mode.Value words.NotAssignment) ∷ Part part.ItemsTypeset ∷ [])
    ∷ (one mode.Value kind.Start ∷ Part (part.Text mode.Word) ∷ one mode.Word kind.WordEnd ∷ Part part.ItemsTypeset ∷ [])
    ∷ []
rules part.ItemsFunction =
    (Make mark.Closes ∷ one mode.Value kind.Close ∷ [])
    ∷ (Part part.ValueLine ∷ Part part.ItemsWords ∷ [])
    ∷ (one mode.Value kind.Assignment ∷ Part part.ItemsWords ∷ [])
    ∷ (one mode.Value kind.StartAssignment ∷ Part (part.Text mode.Word) ∷ one mode.Word kind.WordEnd ∷ Part part.ItemsWords ∷ [])
    ∷ (Token (Any mode.Value words.DottedName) ∷ Part part.ItemsBrace ∷ [])
    ∷ (Token (Any mode.Value words.NotName) ∷ Part part.ItemsWords ∷ [])
    ∷ (one mode.Value kind.Start ∷ Part (part.Text mode.Word) ∷ one mode.Word kind.WordEnd ∷ Part part.ItemsWords ∷ [])
    ∷ []
rules part.ItemsBrace =
    (Make mark.Closes ∷ one mode.Value kind.Close ∷ [])
    ∷ (Part part.ValueLine ∷ Part part.ItemsBrace ∷ [])
    ∷ (Make mark.MemberBody ∷ Make mark.Opens ∷ one mode.Value kind.LeftBrace ∷ Inside (part.Body ending.Word) ∷ Make mark.Closes ∷ one mode.Command kind.RightBrace ∷ Part part.MemberRedirections ∷ [])
    ∷ (one mode.Value kind.Assignment ∷ Part part.ItemsWords ∷ [])
    ∷ (one mode.Value kind.StartAssignment ∷ Part (part.Text mode.Word) ∷ one mode.Word kind.WordEnd ∷ Part part.ItemsWords ∷ [])
    ∷ (Token (Any mode.Value words.NotBrace) ∷ Part part.ItemsWords ∷ [])
    ∷ (one mode.Value kind.Start ∷ Part (part.Text mode.Word) ∷ one mode.Word kind.WordEnd ∷ Part part.ItemsWords ∷ [])
    ∷ []
rules part.AfterItemName =
    (one mode.Value kind.Open ∷ one mode.Command kind.Close ∷ Part part.Newlines ∷ Part part.Compound ∷ Part part.MemberRedirections ∷ [])
    ∷ (Make mark.Closes ∷ one mode.Value kind.Close ∷ [])
    ∷ (Part part.ValueLine ∷ Part part.ItemsWords ∷ [])
    ∷ (one mode.Value kind.Assignment ∷ Part part.ItemsWords ∷ [])
    ∷ (one mode.Value kind.StartAssignment ∷ Part (part.Text mode.Word) ∷ one mode.Word kind.WordEnd ∷ Part part.ItemsWords ∷ [])
    ∷ (Token (Any mode.Value words.NotAssignment) ∷ Part part.ItemsWords ∷ [])
    ∷ (one mode.Value kind.Start ∷ Part (part.Text mode.Word) ∷ one mode.Word kind.WordEnd ∷ Part part.ItemsWords ∷ [])
    ∷ []
rules part.ItemsWords =
    (Make mark.Closes ∷ one mode.Value kind.Close ∷ [])
    ∷ (Part part.ValueLine ∷ Part part.ItemsWords ∷ [])
    ∷ (one mode.Value kind.Assignment ∷ Part part.ItemsWords ∷ [])
    ∷ (one mode.Value kind.StartAssignment ∷ Part (part.Text mode.Word) ∷ one mode.Word kind.WordEnd ∷ Part part.ItemsWords ∷ [])
    ∷ (Token (Any mode.Value words.NotAssignment) ∷ Part part.ItemsWords ∷ [])
    ∷ (one mode.Value kind.Start ∷ Part (part.Text mode.Word) ∷ one mode.Word kind.WordEnd ∷ Part part.ItemsWords ∷ [])
    ∷ (one mode.Value kind.Key ∷ Part (part.Text mode.Subscript) ∷ Make mark.SubscriptEnds ∷ one mode.Subscript kind.Close ∷ Part part.KeyValue ∷ Part part.ItemsWords ∷ [])
    ∷ []
rules part.ItemsPairs =
    (Make mark.Closes ∷ one mode.Value kind.Close ∷ [])
    ∷ (Part part.ValueLine ∷ Part part.ItemsPairs ∷ [])
    ∷ (one mode.Value kind.Key ∷ Part (part.Text mode.Subscript) ∷ Make mark.SubscriptEnds ∷ one mode.Subscript kind.Close ∷ Part part.KeyValue ∷ Part part.ItemsPairs ∷ [])
    ∷ (one mode.Value kind.Assignment ∷ Part part.ItemsWords ∷ [])
    ∷ (one mode.Value kind.StartAssignment ∷ Part (part.Text mode.Word) ∷ one mode.Word kind.WordEnd ∷ Part part.ItemsWords ∷ [])
    ∷ (Token (Any mode.Value words.NotAssignment) ∷ Part part.ItemsWords ∷ [])
    ∷ (one mode.Value kind.Start ∷ Part (part.Text mode.Word) ∷ one mode.Word kind.WordEnd ∷ Part part.ItemsWords ∷ [])
    ∷ []
rules part.MemberRedirections =
    (Make mark.CompoundEnds ∷ Make mark.Closes ∷ one mode.Command kind.Close ∷ [])
    ∷ (Make mark.CompoundEnds ∷ Part part.Line ∷ Part part.ItemsMembers ∷ [])
    ∷ (Make mark.CompoundEnds ∷ one mode.Command kind.Semicolon ∷ Part part.ItemsMembers ∷ [])
    ∷ (Part part.Redirection ∷ Part part.MemberRedirections ∷ [])
    ∷ []

-- The mode in which a part is read.
abbrev pub mode_of : declared.Part → Mode
mode_of (part.Text m) = m
mode_of part.Parameter = mode.Parameter
mode_of part.LengthOf = mode.Parameter
mode_of part.LengthPath = mode.Form
mode_of part.TargetPath = mode.Form
mode_of part.PathForm = mode.Form
mode_of part.SpecialForm = mode.Form
mode_of part.SliceEnd = mode.Colon
mode_of part.ReplaceEnd = mode.Slash
mode_of part.BodyTexts = mode.Body
mode_of part.BodyEnd = mode.Body
mode_of part.RedirectWord = mode.Condition
mode_of part.ElementValue = mode.Target
mode_of part.FirstElement = mode.Target
mode_of part.CaseItems = mode.Pattern
mode_of part.PatternLine = mode.Pattern
mode_of part.PatternRest = mode.Pattern
mode_of part.PatternWord = mode.Pattern
mode_of part.Condition = mode.Condition
mode_of part.ConditionLines = mode.Condition
mode_of part.ConditionLine = mode.Condition
mode_of part.Alternatives = mode.Condition
mode_of part.Conjunction = mode.Condition
mode_of part.Conjuncts = mode.Condition
mode_of part.Negation = mode.Condition
mode_of part.Term = mode.Condition
mode_of part.AfterOperand = mode.Condition
mode_of part.Operand = mode.Condition
mode_of part.AfterUnary = mode.Condition
mode_of part.AfterBinary = mode.Condition
mode_of part.Value = mode.Value
mode_of part.ValueLine = mode.Value
mode_of part.ItemElement = mode.Target
mode_of part.MemberElement = mode.Target
mode_of part.Items = mode.Value
mode_of part.KeyValue = mode.Target
mode_of part.ItemsMixed = mode.Value
mode_of part.ItemsMembers = mode.Value
mode_of part.ValueLines = mode.Value
mode_of part.MemberFunction = mode.Value
mode_of part.TypesetMember = mode.Value
mode_of part.ItemsTypeset = mode.Value
mode_of part.ItemsFunction = mode.Value
mode_of part.ItemsBrace = mode.Value
mode_of part.AfterItemName = mode.Value
mode_of part.ItemsWords = mode.Value
mode_of part.ItemsPairs = mode.Value
mode_of _ = mode.Command
