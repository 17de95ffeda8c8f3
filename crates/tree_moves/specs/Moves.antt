-- What a token or a mark does to the frames of a builder of trees, by their tags, the innermost first: a table of the steps that the
-- builder has. What a word is by its bytes its kind tells; where a token has no row the builder has no step.
use Rattle.std.specs.Prelude.{List, [], ◌∷◌, ◌++◌, ◌||◌, map, Option, Some, None, option_and_then, if◌then◌else◌}
use Rattle.ksh_syntax.specs.declared.kind.Mode.{Mode}
use Rattle.ksh_syntax.specs.declared.kind.Mode.TheVariants as mode
use Rattle.ksh_syntax.specs.declared.kind.Kind.{Kind}
use Rattle.ksh_syntax.specs.declared.kind.Kind.TheVariants as kind
use Rattle.ksh_syntax.specs.declared.part.Words.TheVariants as words
use Rattle.ksh_syntax.specs.declared.part.Mark.{Mark}
use Rattle.ksh_syntax.specs.declared.part.Mark.TheVariants as mark
use Rattle.ksh_syntax.specs.Sentences.{Event, Took, Marked}
use Rattle.ksh_syntax.specs.Takes.{are_in, is_bare, same_kind}
use Rattle.tree_moves.specs.Tags.{Tag, same_tag}
use Rattle.tree_moves.specs.Tags as tag

-- ---- tables

-- the tags on top, and those that come in their place
abbrev pub Row : Type 0
Row = List Tag × List Tag

-- how the tags on top of others compare with those of a row
pub data Fit : Type 0 where
  -- they are these, and the rest stands below
  Over : List Tag → Fit
  -- there is another
  Another : Fit
  -- they are too few to tell
  Few : Fit

abbrev pub fit : List Tag → List Tag → Fit
fit [] ts = Over ts
fit (r ∷ row) [] = Few
fit (r ∷ row) (t ∷ ts) = if same_tag r t then fit row ts else Another

abbrev pub by_fit : Fit → List Tag → Option (List Tag) → Option (List Tag)
by_fit (Over rest) new otherwise = Some (new ++ rest)
by_fit Another new otherwise = otherwise
by_fit Few new otherwise = None

-- the first row that fits, where there are enough tags to tell
abbrev pub by_rows : List Row → List Tag → Option (List Tag)
by_rows [] ts = None
by_rows (row ∷ rows) ts = by_fit (fit row.0 ts) row.1 (by_rows rows ts)

abbrev pub row : Tag → List Tag → Row
row t new = (t ∷ [], new)

-- each tag stays, and these come on top
abbrev pub on : List Tag → List Tag → List Row
on ts top = map (λ t. (t ∷ [], top ++ t ∷ [])) ts

-- ---- values in parentheses

abbrev pub values : List Tag
values = tag.Value ∷ tag.ValueWord ∷ tag.ValueNamed ∷ tag.ValueTypeset ∷ tag.ValueBroken ∷ []

-- words that wait for what comes behind them
abbrev pub wholes : List Tag
wholes = tag.Whole ∷ tag.WholeName ∷ tag.WholeAssignment ∷ []

-- a name behind entries
abbrev pub named : Tag → Tag
named tag.ValueWord = tag.ValueNamed
named tag.ValueNamed = tag.ValueNamed
named _ = tag.ValueWord

-- a word that waits is put behind entries
abbrev pub settled : Tag → Tag → Tag
settled tag.WholeName v = named v
settled _ v = tag.Value

-- a newline or `;` behind entries
abbrev pub broken : Tag → Tag
broken tag.ValueNamed = tag.ValueBroken
broken tag.ValueTypeset = tag.ValueBroken
broken tag.ValueBroken = tag.ValueBroken
broken _ = tag.Value

-- `typeset` behind entries
abbrev pub declared : Tag → Tag
declared tag.ValueWord = tag.ValueTypeset
declared tag.ValueNamed = tag.ValueTypeset
declared _ = tag.Value

abbrev pub join_all : List (List Row) → List Row
join_all [] = []
join_all (rows ∷ more) = rows ++ join_all more

-- behind entries, of which a word that waits becomes one, stand these tags, and those come in their place
abbrev pub in_value : List Tag → (Tag → List Tag) → List Row
in_value below new =
    map (λ v. (v ∷ below, new v)) values
    ++ join_all (map (λ w. map (λ v. (w ∷ v ∷ below, new (settled w v))) values) wholes)

-- what a value is assigned in
abbrev pub close_value : List Row
close_value = in_value (tag.Assigning ∷ tag.Simple ∷ []) (λ v. tag.Simple ∷ []) ++ in_value (tag.Assigning ∷ tag.Value ∷ []) (λ v. tag.Value ∷ [])

-- ---- words

abbrev pub simples : List Tag
simples = tag.SimpleEmpty ∷ tag.SimpleName ∷ tag.Simple ∷ []

-- what takes a word, what it is behind the word, and what it is before the first
abbrev pub takers : List (Tag × Tag)
takers = (tag.Simple, tag.Simple) ∷ (tag.ForWords, tag.ForWords) ∷ (tag.Case, tag.CaseWord) ∷ (tag.Patterns, tag.Patterns) ∷ (tag.OperandsNone, tag.OperandsOne) ∷ (tag.OperandsUnary, tag.Operands) ∷ (tag.OperandsBinary, tag.Operands) ∷ (tag.OperandsBoth, tag.Operands) ∷ (tag.Value, tag.Value) ∷ []

abbrev pub redirected : List Tag
redirected = tag.Simple ∷ tag.Compound ∷ []

-- a word with pieces that ends: it belongs to what stands below it
abbrev pub end_word : Tag → List Row
end_word start =
    map (λ t. (tag.Text ∷ start ∷ t.0 ∷ [], t.1 ∷ [])) takers
    ++ map (λ t. (tag.Text ∷ start ∷ tag.Redirection ∷ t ∷ [], t ∷ [])) redirected
    ++ (tag.Text ∷ start ∷ tag.HereOperator ∷ [], tag.HereWord ∷ []) ∷ []

abbrev pub word_ends : List Row
word_ends =
    (tag.Text ∷ tag.Keyed ∷ tag.Value ∷ [], tag.Value ∷ [])
    ∷ (tag.Text ∷ tag.Assigning ∷ tag.Simple ∷ [], tag.Simple ∷ [])
    ∷ (tag.Text ∷ tag.Assigning ∷ tag.Value ∷ [], tag.Value ∷ [])
    ∷ end_word tag.WordStart ++ (end_word tag.AssignmentStart ++ end_word tag.Element)

-- a word with pieces that begins
abbrev pub start_word : Tag → List Row
start_word start =
    map (λ t. row t (tag.Text ∷ start ∷ tag.Simple ∷ [])) simples
    ++ on (tag.ForWords ∷ tag.Case ∷ tag.Patterns ∷ tag.OperandsUnary ∷ tag.OperandsBinary ∷ tag.OperandsBoth ∷ tag.Redirection ∷ tag.HereOperator ∷ []) (tag.Text ∷ start ∷ [])
    ++ row tag.Cases (tag.Text ∷ start ∷ tag.Patterns ∷ tag.Cases ∷ [])
    ∷ row tag.Terms (tag.Text ∷ start ∷ tag.OperandsNone ∷ tag.Terms ∷ [])
    ∷ in_value [] (λ v. tag.Text ∷ start ∷ tag.Value ∷ [])

-- an assignment that begins
abbrev pub start_assignment : List Tag → List Row
start_assignment top = map (λ t. row t (top ++ tag.Simple ∷ [])) simples ++ in_value [] (λ v. top ++ tag.Value ∷ [])

-- the first word of a simple command, of that kind
abbrev pub first_word : Kind → Tag
first_word k = if are_in words.DottedName k then tag.SimpleName else tag.Simple

-- the first word of a term, of that kind, and the word behind the name of a test of one word
abbrev pub first_operand : Kind → Tag
first_operand k = if same_kind k kind.Unary then tag.OperandsUnary else tag.OperandsOne

abbrev pub behind_unary : Kind → Tag
behind_unary k = if same_kind k kind.Binary then tag.OperandsBoth else tag.Operands

-- the name of a test of two words behind a word
abbrev pub behind_operand : Kind → List Row
behind_operand k = if same_kind k kind.Binary then row tag.OperandsOne (tag.OperandsBinary ∷ []) ∷ [] else []

-- the first pattern of an item, where no `esac` ends the items
abbrev pub begin_patterns : Kind → List Row
begin_patterns k = if same_kind k kind.Esac then [] else row tag.Cases (tag.Patterns ∷ tag.Cases ∷ []) ∷ []

-- the first word of a term, which is no `!` and no `]]`
abbrev pub begin_term : Kind → List Row
begin_term k = if same_kind k kind.Bang || same_kind k kind.RightBrackets then [] else row tag.Terms (first_operand k ∷ tag.Terms ∷ []) ∷ []

-- a word of plain bytes where it belongs to what stands there
abbrev pub plain_word : Kind → List Row
plain_word k =
    row tag.SimpleEmpty (first_word k ∷ [])
    ∷ row tag.SimpleName (tag.Simple ∷ [])
    ∷ row tag.Simple (tag.Simple ∷ [])
    ∷ row tag.ForWords (tag.ForWords ∷ [])
    ∷ row tag.Case (tag.CaseWord ∷ [])
    ∷ row tag.Patterns (tag.Patterns ∷ [])
    ∷ row tag.OperandsUnary (behind_unary k ∷ [])
    ∷ row tag.OperandsBinary (tag.Operands ∷ [])
    ∷ row tag.OperandsBoth (tag.Operands ∷ [])
    ∷ (tag.Redirection ∷ tag.Simple ∷ [], tag.Simple ∷ [])
    ∷ (tag.Redirection ∷ tag.Compound ∷ [], tag.Compound ∷ [])
    ∷ row tag.HereOperator (tag.HereWord ∷ [])
    ∷ behind_operand k ++ (begin_patterns k ++ begin_term k)

-- what a word of plain bytes is among the entries of a value
abbrev pub whole_of : Kind → Tag
whole_of k = if same_kind k kind.Assignment then tag.WholeAssignment else if are_in words.DottedName k then tag.WholeName else tag.Whole

-- the name of a variable, and that of a function
abbrev pub name_rows : Kind → List Row
name_rows k =
    (if are_in words.VariableName k then row tag.ForLoop (tag.ForName ∷ []) ∷ row tag.ForSelect (tag.ForName ∷ []) ∷ [] else [])
    ++ (if are_in words.DottedName k then row tag.Function (tag.FunctionName ∷ []) ∷ [] else [])

abbrev pub entry_rows : Kind → List Row
entry_rows kind.Typeset = in_value [] (λ v. declared v ∷ [])
entry_rows k = in_value [] (λ v. whole_of k ∷ v ∷ [])

abbrev pub bare_rows : Mode → Kind → List Row
bare_rows mode.Value k = entry_rows k
bare_rows m k = plain_word k

-- ---- commands

-- where a command may begin: what stands there, and what it is behind the command's first token
abbrev pub begin_command : List Tag → List Row
begin_command top = row tag.StagesFirst (top ++ tag.Stages ∷ []) ∷ row tag.Stages (top ++ tag.Stages ∷ []) ∷ row tag.FunctionName (top ++ tag.FunctionName ∷ []) ∷ []

-- a command ends, and the list of pipelines that it ends
abbrev pub end_chain : List Tag → List Row
end_chain new = (tag.Finished ∷ tag.Stages ∷ tag.Link ∷ tag.Lines ∷ [], new) ∷ []

-- reserved words, which are other words elsewhere
abbrev pub reserved_rows : Kind → List Row
reserved_rows kind.Bang = row tag.StagesFirst (tag.Stages ∷ []) ∷ row tag.Terms (tag.Terms ∷ []) ∷ []
reserved_rows kind.If = begin_command (tag.Lines ∷ tag.If ∷ [])
reserved_rows kind.While = begin_command (tag.Lines ∷ tag.Loop ∷ [])
reserved_rows kind.Until = begin_command (tag.Lines ∷ tag.Loop ∷ [])
reserved_rows kind.LeftBrace = row tag.MemberBody (tag.Lines ∷ tag.Group ∷ []) ∷ begin_command (tag.Lines ∷ tag.Group ∷ [])
reserved_rows kind.LeftBrackets = begin_command (tag.Terms ∷ tag.ConditionCommand ∷ [])
reserved_rows kind.For = begin_command (tag.ForLoop ∷ [])
reserved_rows kind.Select = begin_command (tag.ForSelect ∷ [])
reserved_rows kind.Case = begin_command (tag.Case ∷ [])
reserved_rows kind.Function = begin_command (tag.Function ∷ [])
reserved_rows kind.Then = (tag.Listed ∷ tag.If ∷ [], tag.Lines ∷ tag.Then ∷ []) ∷ []
reserved_rows kind.Elif = (tag.Listed ∷ tag.Then ∷ [], tag.Lines ∷ tag.If ∷ []) ∷ []
reserved_rows kind.Else = (tag.Listed ∷ tag.Then ∷ [], tag.Lines ∷ tag.Else ∷ []) ∷ []
reserved_rows kind.Fi = (tag.Listed ∷ tag.Then ∷ [], tag.Compound ∷ []) ∷ (tag.Listed ∷ tag.Else ∷ [], tag.Compound ∷ []) ∷ []
reserved_rows kind.Do =
    (tag.Listed ∷ tag.Loop ∷ [], tag.Lines ∷ tag.LoopBody ∷ [])
    ∷ row tag.ForName (tag.Lines ∷ tag.ForBody ∷ [])
    ∷ row tag.ForReady (tag.Lines ∷ tag.ForBody ∷ [])
    ∷ row tag.ForArithmeticThree (tag.Lines ∷ tag.ForArithmeticBody ∷ [])
    ∷ []
reserved_rows kind.Done = (tag.Listed ∷ tag.LoopBody ∷ [], tag.Compound ∷ []) ∷ (tag.Listed ∷ tag.ForBody ∷ [], tag.Compound ∷ []) ∷ (tag.Listed ∷ tag.ForArithmeticBody ∷ [], tag.Compound ∷ []) ∷ []
reserved_rows kind.In = row tag.ForName (tag.ForWords ∷ []) ∷ row tag.CaseWord (tag.Cases ∷ []) ∷ []
reserved_rows kind.Esac = (tag.Listed ∷ tag.Patterns ∷ tag.Cases ∷ [], tag.Compound ∷ []) ∷ row tag.Cases (tag.Compound ∷ []) ∷ []
reserved_rows kind.RightBrace = (tag.Listed ∷ tag.Group ∷ [], tag.Compound ∷ []) ∷ (tag.Listed ∷ tag.SubstitutionCurrent ∷ tag.Text ∷ [], tag.Text ∷ []) ∷ []
reserved_rows kind.RightBrackets = (tag.Terms ∷ tag.ConditionCommand ∷ [], tag.Compound ∷ []) ∷ []
reserved_rows _ = []

abbrev pub word_rows : Mode → Kind → List Row
word_rows m k = if is_bare k then reserved_rows k ++ (name_rows k ++ bare_rows m k) else []

-- ---- between words

-- behind these a newline says nothing
abbrev pub passing : List Tag
passing = tag.Lines ∷ tag.Linked ∷ tag.Stages ∷ tag.FunctionName ∷ tag.ForName ∷ tag.ForReady ∷ tag.ForArithmeticThree ∷ tag.CaseWord ∷ tag.Cases ∷ tag.Terms ∷ []

abbrev pub separator : List Row
separator = row tag.ForWords (tag.ForReady ∷ []) ∷ end_chain (tag.Lines ∷ []) ++ in_value [] (λ v. broken v ∷ [])

abbrev pub newline : List Row
newline = on passing [] ++ separator

abbrev pub close : List Row
close =
    (tag.Listed ∷ tag.Subshell ∷ [], tag.Compound ∷ [])
    ∷ (tag.Listed ∷ tag.SubstitutionFork ∷ tag.Text ∷ [], tag.Text ∷ [])
    ∷ row tag.Patterns (tag.Lines ∷ tag.Patterns ∷ [])
    ∷ (tag.Terms ∷ tag.Nested ∷ [], tag.Tested ∷ [])
    ∷ row tag.FunctionName (tag.FunctionName ∷ [])
    ∷ close_value

abbrev pub opening : List Row
opening =
    row tag.SimpleName (tag.FunctionName ∷ [])
    ∷ row tag.Cases (tag.Patterns ∷ tag.Cases ∷ [])
    ∷ row tag.Terms (tag.Terms ∷ tag.Nested ∷ tag.Terms ∷ [])
    ∷ row tag.Assigning (tag.Value ∷ tag.Assigning ∷ [])
    ∷ row tag.WholeName (tag.FunctionName ∷ [])
    ∷ begin_command (tag.Lines ∷ tag.Subshell ∷ [])

-- the operator of a redirection
abbrev pub redirect : Tag → List Row
redirect operator = map (λ t. row t (operator ∷ tag.Simple ∷ [])) simples ++ row tag.Compound (operator ∷ tag.Compound ∷ []) ∷ []

abbrev pub link : List Row
link = (tag.Finished ∷ tag.Stages ∷ tag.Link ∷ [], tag.Linked ∷ []) ∷ []

abbrev pub same : Tag → List Row
same t = row t (t ∷ []) ∷ []

abbrev pub between_rows : Mode → Kind → List Row
between_rows m kind.Newline = newline
between_rows m kind.NewlineBodies = newline
between_rows m kind.Semicolon = row tag.ForName (tag.ForName ∷ []) ∷ row tag.ForArithmeticThree (tag.ForArithmeticThree ∷ []) ∷ separator
between_rows m kind.Ampersand = end_chain (tag.Lines ∷ [])
between_rows m kind.BarAmpersand = end_chain (tag.Lines ∷ [])
between_rows mode.Condition kind.AndIf = same tag.Terms
between_rows mode.Condition kind.OrIf = same tag.Terms
between_rows m kind.AndIf = link
between_rows m kind.OrIf = link
between_rows mode.Pattern kind.Bar = same tag.Patterns
between_rows m kind.Bar = (tag.Finished ∷ tag.Stages ∷ [], tag.Stages ∷ []) ∷ []
between_rows m kind.DoubleSemicolon = (tag.Listed ∷ tag.Patterns ∷ tag.Cases ∷ [], tag.Cases ∷ []) ∷ []
between_rows m kind.SemicolonAmpersand = (tag.Listed ∷ tag.Patterns ∷ tag.Cases ∷ [], tag.Cases ∷ []) ∷ []
between_rows m kind.DoubleParenthesis = row tag.ForLoop (tag.Text ∷ tag.ForArithmeticNone ∷ []) ∷ begin_command (tag.Text ∷ tag.ArithmeticCommand ∷ [])
between_rows m kind.Open = opening
between_rows m kind.Close = close
between_rows m kind.Backquote = (tag.Listed ∷ tag.SubstitutionFork ∷ tag.Text ∷ [], tag.Text ∷ []) ∷ []
between_rows m kind.Redirect = redirect tag.Redirection
between_rows m kind.HereRedirect = redirect tag.HereOperator
between_rows m kind.Start = start_word tag.WordStart
between_rows m kind.StartAssignment = start_word tag.AssignmentStart
between_rows m kind.Element = start_assignment (tag.Target ∷ [])
between_rows m kind.ValueOpen = start_assignment (tag.Assigning ∷ [])
between_rows m kind.Key = in_value [] (λ v. tag.Text ∷ tag.Bracket ∷ tag.Value ∷ [])
between_rows mode.Condition kind.Order = row tag.OperandsOne (tag.OperandsBinary ∷ []) ∷ row tag.OperandsUnary (tag.OperandsBinary ∷ []) ∷ []
between_rows m kind.Order = []
between_rows m k = word_rows m k

-- ---- parameters in braces, and elements

abbrev pub parameter_rows : Kind → List Row
parameter_rows kind.Length = row tag.BracesValue (tag.BracesLength ∷ []) ∷ []
parameter_rows kind.Target = row tag.BracesValue (tag.BracesTarget ∷ []) ∷ []
parameter_rows kind.Name = row tag.BracesValue (tag.ParameterPath ∷ []) ∷ row tag.BracesLength (tag.AskedPath ∷ []) ∷ row tag.BracesTarget (tag.TargetPath ∷ []) ∷ []
parameter_rows kind.Digits = row tag.BracesValue (tag.ParameterOther ∷ []) ∷ row tag.BracesLength (tag.AskedOther ∷ []) ∷ []
parameter_rows kind.Special = row tag.BracesValue (tag.ParameterOther ∷ []) ∷ row tag.BracesLength (tag.AskedOther ∷ []) ∷ []
parameter_rows _ = []

-- what goes on with a path
abbrev pub path_goes_on : List Tag → List Row
path_goes_on top = on (tag.ParameterPath ∷ tag.TargetPath ∷ tag.AskedPath ∷ []) top

abbrev pub parameters : List Tag
parameters = tag.ParameterPath ∷ tag.ParameterOther ∷ tag.TargetPath ∷ tag.AskedPath ∷ tag.AskedOther ∷ []

abbrev pub begin_form : Tag → List Row
begin_form form = row tag.ParameterPath (tag.Text ∷ form ∷ []) ∷ row tag.ParameterOther (tag.Text ∷ form ∷ []) ∷ []

abbrev pub form_rows : Kind → List Row
form_rows kind.Open = path_goes_on (tag.Text ∷ tag.Bracket ∷ [])
form_rows kind.Member = path_goes_on []
form_rows kind.Items = path_goes_on []
form_rows kind.Prefix = row tag.TargetPath (tag.ParameterOther ∷ []) ∷ []
form_rows kind.Close = map (λ t. (t ∷ tag.Text ∷ [], tag.Text ∷ [])) parameters
form_rows kind.Instead = begin_form tag.FormedOnce
form_rows kind.Cut = begin_form tag.FormedOnce
form_rows kind.Slice = begin_form tag.FormedTwice
form_rows kind.Replace = begin_form tag.FormedTwice
form_rows _ = []

abbrev pub target_rows : Kind → List Row
target_rows kind.Open = row tag.Target (tag.Text ∷ tag.Bracket ∷ tag.Target ∷ []) ∷ []
target_rows kind.Member = same tag.Target
target_rows kind.Assign = row tag.Keyed (tag.Text ∷ tag.Keyed ∷ []) ∷ row tag.Target (tag.Text ∷ tag.Assigning ∷ []) ∷ []
target_rows kind.AddAssign = row tag.Target (tag.Text ∷ tag.Assigning ∷ []) ∷ []
target_rows kind.ValueOpen = row tag.Target (tag.Assigning ∷ []) ∷ []
target_rows kind.Otherwise = row tag.Target (tag.Text ∷ tag.Element ∷ []) ∷ []
target_rows _ = []

-- ---- texts

abbrev pub end_form : List Row
end_form = map (λ f. (tag.Text ∷ f ∷ tag.Text ∷ [], tag.Text ∷ [])) (tag.FormedOnce ∷ tag.FormedTwice ∷ tag.FormedLast ∷ [])

abbrev pub close_text : Mode → List Row
close_text mode.Brace = end_form
close_text mode.Colon = end_form
close_text mode.Slash = end_form
close_text mode.Subscript =
    (tag.Subscript ∷ tag.Value ∷ [], tag.Keyed ∷ tag.Value ∷ [])
    ∷ (tag.Subscript ∷ tag.ParameterPath ∷ [], tag.ParameterPath ∷ [])
    ∷ (tag.Subscript ∷ tag.AskedPath ∷ [], tag.AskedPath ∷ [])
    ∷ (tag.Subscript ∷ tag.TargetPath ∷ [], tag.TargetPath ∷ [])
    ∷ (tag.Subscript ∷ tag.Target ∷ [], tag.Target ∷ [])
    ∷ same tag.Text
close_text mode.Arithmetic =
    (tag.Text ∷ tag.Arithmetic ∷ tag.Text ∷ [], tag.Text ∷ [])
    ∷ (tag.Text ∷ tag.ForArithmeticTwo ∷ [], tag.ForArithmeticThree ∷ [])
    ∷ (tag.Text ∷ tag.ArithmeticCommand ∷ [], tag.Compound ∷ [])
    ∷ []
close_text mode.Group = same tag.Text
close_text mode.Parentheses = same tag.Text
close_text _ = []

abbrev pub part_text : Mode → List Row
part_text mode.LoopArithmetic =
    (tag.Text ∷ tag.ForArithmeticNone ∷ [], tag.Text ∷ tag.ForArithmeticOne ∷ [])
    ∷ (tag.Text ∷ tag.ForArithmeticOne ∷ [], tag.Text ∷ tag.ForArithmeticTwo ∷ [])
    ∷ []
part_text m = (tag.Text ∷ tag.FormedTwice ∷ [], tag.Text ∷ tag.FormedLast ∷ []) ∷ []

abbrev pub text_rows : Mode → Kind → List Row
text_rows m kind.Plain = same tag.Text
text_rows m kind.Joined = same tag.Text
text_rows m kind.Escaped = same tag.Text
text_rows m kind.Single = same tag.Text
text_rows m kind.Ansi = same tag.Text
text_rows m kind.OpenQuote = same tag.Text
text_rows m kind.CloseQuote = same tag.Text
text_rows m kind.Dollar = same tag.Text
text_rows m kind.Open = same tag.Text
text_rows m kind.Expand = same tag.Text
text_rows m kind.OpenParameter = row tag.Text (tag.BracesValue ∷ tag.Text ∷ []) ∷ []
text_rows m kind.OpenCurrent = row tag.Text (tag.Lines ∷ tag.SubstitutionCurrent ∷ tag.Text ∷ []) ∷ []
text_rows m kind.OpenSubstitution = row tag.Text (tag.Lines ∷ tag.SubstitutionFork ∷ tag.Text ∷ []) ∷ []
text_rows m kind.Backquote = row tag.Text (tag.Lines ∷ tag.SubstitutionFork ∷ tag.Text ∷ []) ∷ []
text_rows m kind.OpenArithmetic = row tag.Text (tag.Text ∷ tag.Arithmetic ∷ tag.Text ∷ []) ∷ []
text_rows m kind.WordEnd = word_ends
text_rows m kind.Separator = part_text m
text_rows m kind.Close = close_text m
text_rows m _ = []

-- ---- tokens and marks

abbrev pub token_rows : Mode → Kind → List Row
token_rows mode.Command k = between_rows mode.Command k
token_rows mode.Pattern k = between_rows mode.Pattern k
token_rows mode.Condition k = between_rows mode.Condition k
token_rows mode.Value k = between_rows mode.Value k
token_rows mode.Parameter k = parameter_rows k
token_rows mode.Form k = form_rows k
token_rows mode.Target k = target_rows k
token_rows m k = text_rows m k

abbrev pub compound_ends : List Row
compound_ends =
    (tag.Compound ∷ tag.Stages ∷ [], tag.Finished ∷ tag.Stages ∷ [])
    ∷ (tag.Compound ∷ tag.FunctionName ∷ tag.Stages ∷ [], tag.Finished ∷ tag.Stages ∷ [])
    ∷ (tag.Compound ∷ tag.ValueNamed ∷ [], tag.Value ∷ [])
    ∷ (tag.Compound ∷ tag.ValueTypeset ∷ [], tag.Value ∷ [])
    ∷ (tag.Compound ∷ tag.ValueBroken ∷ [], tag.Value ∷ [])
    ∷ map (λ v. (tag.Compound ∷ tag.FunctionName ∷ v ∷ [], tag.Value ∷ [])) values

abbrev pub member_body : List Row
member_body =
    row tag.ValueNamed (tag.MemberBody ∷ tag.ValueNamed ∷ [])
    ∷ row tag.ValueTypeset (tag.MemberBody ∷ tag.ValueTypeset ∷ [])
    ∷ row tag.ValueBroken (tag.MemberBody ∷ tag.ValueBroken ∷ [])
    ∷ (tag.WholeName ∷ tag.ValueWord ∷ [], tag.MemberBody ∷ tag.ValueNamed ∷ [])
    ∷ (tag.WholeName ∷ tag.ValueNamed ∷ [], tag.MemberBody ∷ tag.ValueNamed ∷ [])
    ∷ []

-- what is a whole term
abbrev pub terms : List Tag
terms = tag.OperandsOne ∷ tag.OperandsUnary ∷ tag.OperandsBoth ∷ tag.Operands ∷ tag.Tested ∷ []

-- none for what is told for others
abbrev pub mark_rows : Mark → Option (List Row)
mark_rows mark.SimpleBegins = Some (row tag.StagesFirst (tag.SimpleEmpty ∷ tag.Stages ∷ []) ∷ row tag.Stages (tag.SimpleEmpty ∷ tag.Stages ∷ []) ∷ [])
mark_rows mark.SimpleEnds = Some (map (λ t. row t (tag.Finished ∷ [])) simples)
mark_rows mark.PipelineBegins = Some (row tag.NoLink (tag.StagesFirst ∷ tag.Link ∷ []) ∷ row tag.Linked (tag.StagesFirst ∷ tag.Link ∷ []) ∷ [])
mark_rows mark.AndOrBegins = Some (row tag.Lines (tag.NoLink ∷ tag.Lines ∷ []) ∷ [])
mark_rows mark.ListEnds = Some (row tag.Lines (tag.Listed ∷ []) ∷ end_chain (tag.Listed ∷ []))
mark_rows mark.CompoundEnds = Some compound_ends
mark_rows mark.SubscriptEnds = Some ((tag.Text ∷ tag.Bracket ∷ [], tag.Subscript ∷ []) ∷ [])
mark_rows mark.TermEnds = Some (map (λ t. (t ∷ tag.Terms ∷ [], tag.Terms ∷ [])) terms)
mark_rows mark.MemberBody = Some member_body
mark_rows _ = None

-- what is told for others needs something to stay
abbrev pub kept : List Tag → Option (List Tag)
kept [] = None
kept (t ∷ ts) = Some (t ∷ ts)

abbrev pub by_mark : Option (List Row) → List Tag → Option (List Tag)
by_mark (Some rows) ts = by_rows rows ts
by_mark None ts = kept ts

-- the tags behind a token or a mark; nothing where the builder has no step
abbrev pub moves : Event → List Tag → Option (List Tag)
moves (Took t) ts = by_rows (token_rows t.0 t.1) ts
moves (Marked m) ts = by_mark (mark_rows m) ts

-- ---- bodies of here-documents

abbrev pub body_begins : List Row
body_begins = row tag.HereWord (tag.Text ∷ tag.HereBody ∷ []) ∷ []

abbrev pub body_ends : List Row
body_ends = map (λ t. (tag.Text ∷ tag.HereBody ∷ t ∷ [], t ∷ [])) redirected

-- behind the word of a here-document its body is heard: a text of its own, which is given to its command
abbrev pub heard : List Tag → Option (List Tag)
heard [] = None
heard (t ∷ ts) = if same_tag t tag.HereWord then option_and_then (by_rows body_ends) (by_rows body_begins (t ∷ ts)) else Some (t ∷ ts)

-- the tags behind a token or a mark, and behind the body of a here-document whose word it ends
abbrev pub step : Event → List Tag → Option (List Tag)
step e ts = option_and_then heard (moves e ts)
