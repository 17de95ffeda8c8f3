-- Which rows the steps follow that the tree takes: by the kind of a token, its mode, and what stands on top of the frames.
use Rattle.std.specs.Prelude.{Bool, true, false, List, [], ◌∷◌, ◌++◌, Option, Some, None, if◌then◌else◌}
use Rattle.ksh_syntax.specs.declared.kind.Mode.{Mode}
use Rattle.ksh_syntax.specs.declared.kind.Mode.TheVariants as mode
use Rattle.ksh_syntax.specs.declared.kind.Kind.{Kind}
use Rattle.ksh_syntax.specs.declared.kind.Kind.TheVariants as kind
use Rattle.ksh_syntax.specs.declared.part.Mark.{Mark}
use Rattle.ksh_syntax.specs.declared.part.Mark.TheVariants as mark
use Rattle.ksh_syntax.specs.declared.part.Words.TheVariants as words
use Rattle.ksh_syntax.specs.Takes.{are_in}
use Rattle.tree_moves.specs.Moves.{Row, row}
use Rattle.tree_moves.specs.Tags.{Tag}
use Rattle.tree_moves.specs.Tags as tag
use Rattle.tree_parts.specs.Literals.{is_nested}
use Rattle.tree_build.specs.Fits.{opens}
use Rattle.tree_build.specs.Silent.{is_silent}
use Rattle.tree_build.specs.Tables.{is_word}
use Rattle.tree_build.specs.declared.place.Place.{Place}
use Rattle.tree_build.specs.declared.place.Place.TheVariants as place
use Rattle.script_tree.specs.Steps.{then_rows}

-- these come on top
abbrev pub push : List Tag → List Row
push top = ([], top) ∷ []

-- what is silent there changes nothing
abbrev pub pass_steps : Kind → Place → List Row
pass_steps k p = if is_silent k p then ([], []) ∷ [] else []

-- ---- words

-- a word goes where it belongs
abbrev pub settle_steps : List Row
settle_steps =
    (tag.Whole ∷ tag.Simple ∷ [], tag.Simple ∷ [])
    ∷ (tag.WholeName ∷ tag.SimpleEmpty ∷ [], tag.SimpleName ∷ [])
    ∷ (tag.AnyWhole ∷ tag.ForWords ∷ [], tag.ForWords ∷ [])
    ∷ (tag.AnyWhole ∷ tag.Case ∷ [], tag.CaseWord ∷ [])
    ∷ (tag.AnyWhole ∷ tag.Patterns ∷ [], tag.Patterns ∷ [])
    ∷ (tag.WholeUnary ∷ tag.OperandsNone ∷ [], tag.OperandsUnary ∷ [])
    ∷ (tag.AnyWhole ∷ tag.OperandsNone ∷ [], tag.OperandsOne ∷ [])
    ∷ (tag.WholeBinary ∷ tag.OperandsUnary ∷ [], tag.OperandsBoth ∷ [])
    ∷ (tag.WholeBinary ∷ tag.OperandsOne ∷ [], tag.OperandsBinary ∷ [])
    ∷ (tag.AnyWhole ∷ tag.OperandsUnary ∷ [], tag.Operands ∷ [])
    ∷ (tag.AnyWhole ∷ tag.OperandsBinary ∷ [], tag.Operands ∷ [])
    ∷ (tag.Whole ∷ tag.Value ∷ [], tag.Value ∷ [])
    ∷ (tag.WholeName ∷ tag.Value ∷ [], tag.ValueWord ∷ [])
    ∷ (tag.WholeName ∷ tag.ValueWord ∷ [], tag.ValueNamed ∷ [])
    ∷ (tag.WholeAssignment ∷ tag.Simple ∷ [], tag.Simple ∷ [])
    ∷ (tag.WholeAssignment ∷ tag.Value ∷ [], tag.Value ∷ [])
    ∷ (tag.AnyWhole ∷ tag.Redirection ∷ tag.Simple ∷ [], tag.Simple ∷ [])
    ∷ (tag.AnyWhole ∷ tag.Redirection ∷ tag.Compound ∷ [], tag.Compound ∷ [])
    ∷ (tag.AnyWhole ∷ tag.HereOperator ∷ [], tag.HereWord ∷ [])
    ∷ []

-- what a word of plain bytes is by its kind
abbrev pub push_steps : Kind → List Row
push_steps kind.Assignment = push (tag.WholeAssignment ∷ [])
push_steps kind.Unary = ([], tag.Whole ∷ []) ∷ ([], tag.WholeUnary ∷ []) ∷ []
push_steps kind.Binary = ([], tag.Whole ∷ []) ∷ ([], tag.WholeBinary ∷ []) ∷ []
push_steps kind.Order = push (tag.WholeBinary ∷ [])
push_steps k = if is_word k then (if are_in words.DottedName k then push (tag.WholeName ∷ []) else push (tag.Whole ∷ [])) else []

abbrev pub settled_steps : Kind → List Row
settled_steps k = then_rows (push_steps k) settle_steps

-- among entries
abbrev pub entry_steps : Kind → List Row
entry_steps kind.Typeset = row tag.Value (tag.Value ∷ []) ∷ row tag.ValueWord (tag.ValueTypeset ∷ []) ∷ []
entry_steps k = push_steps k

abbrev pub plain_steps : Mode → Kind → List Row
plain_steps mode.Value k = entry_steps k
plain_steps m k = settled_steps k

abbrev pub any_word_steps : Mode → Kind → List Row
any_word_steps m kind.Start = push (tag.Text ∷ tag.WordStart ∷ [])
any_word_steps m kind.StartAssignment = push (tag.Text ∷ tag.AssignmentStart ∷ [])
any_word_steps m kind.Element = push (tag.Target ∷ [])
any_word_steps m kind.ValueOpen = push (tag.Assigning ∷ [])
any_word_steps m kind.Key = push (tag.Text ∷ tag.Bracket ∷ [])
any_word_steps m k = plain_steps m k

-- room is made for what begins
abbrev pub prepare_steps : Place → List Row
prepare_steps place.Cases = push (tag.Patterns ∷ [])
prepare_steps place.Terms = push (tag.OperandsNone ∷ [])
prepare_steps place.Whole = settle_steps
prepare_steps _ = push []

abbrev pub prepared_steps : Mode → Kind → Place → List Row
prepared_steps m k p = then_rows (prepare_steps p) (any_word_steps m k)

-- ---- commands

-- what the token opens
abbrev pub opened_steps : Option Tag → List Row
opened_steps (Some t) = push (t ∷ [])
opened_steps None = []

-- the same with a list
abbrev pub list_opened_steps : Option Tag → List Row
list_opened_steps (Some t) = push (tag.Lines ∷ t ∷ [])
list_opened_steps None = []

abbrev pub command_steps : Kind → List Row
command_steps kind.Bang = row tag.StagesFirst (tag.Stages ∷ []) ∷ []
command_steps kind.If = push (tag.Lines ∷ tag.If ∷ [])
command_steps kind.While = push (tag.Lines ∷ tag.Loop ∷ [])
command_steps kind.Until = push (tag.Lines ∷ tag.Loop ∷ [])
command_steps kind.LeftBrace = push (tag.Lines ∷ tag.Group ∷ [])
command_steps kind.LeftBrackets = push (tag.Terms ∷ tag.ConditionCommand ∷ [])
command_steps k = opened_steps (opens k)

-- `}` behind a list
abbrev pub group_steps : Kind → List Row
group_steps kind.RightBrace = (tag.Listed ∷ tag.Group ∷ [], tag.Compound ∷ []) ∷ []
group_steps _ = []

abbrev pub current_steps : Kind → List Row
current_steps kind.RightBrace = (tag.Listed ∷ tag.SubstitutionCurrent ∷ tag.Text ∷ [], tag.Text ∷ []) ∷ []
current_steps _ = []

abbrev pub fork_steps : List Row
fork_steps = (tag.Listed ∷ tag.SubstitutionFork ∷ tag.Text ∷ [], tag.Text ∷ []) ∷ []

abbrev pub right_brace_steps : Kind → Place → List Row
right_brace_steps k place.Group = group_steps k
right_brace_steps k p = current_steps k

abbrev pub done_steps : Place → List Row
done_steps place.LoopBody = (tag.Listed ∷ tag.LoopBody ∷ [], tag.Compound ∷ []) ∷ []
done_steps place.ForBody = (tag.Listed ∷ tag.ForBody ∷ [], tag.Compound ∷ []) ∷ []
done_steps p = (tag.Listed ∷ tag.ForArithmeticBody ∷ [], tag.Compound ∷ []) ∷ []

abbrev pub list_steps : Kind → Place → List Row
list_steps kind.Then p = (tag.Listed ∷ tag.If ∷ [], tag.Lines ∷ tag.Then ∷ []) ∷ []
list_steps kind.Elif p = (tag.Listed ∷ tag.Then ∷ [], tag.Lines ∷ tag.If ∷ []) ∷ []
list_steps kind.Else p = (tag.Listed ∷ tag.Then ∷ [], tag.Lines ∷ tag.Else ∷ []) ∷ []
list_steps kind.Fi p = (tag.Listed ∷ tag.Then ∷ [], tag.Compound ∷ []) ∷ (tag.Listed ∷ tag.Else ∷ [], tag.Compound ∷ []) ∷ []
list_steps kind.Do p = (tag.Listed ∷ tag.Loop ∷ [], tag.Lines ∷ tag.LoopBody ∷ []) ∷ []
list_steps kind.Done p = done_steps p
list_steps kind.Esac p = (tag.Listed ∷ tag.Patterns ∷ tag.Cases ∷ [], tag.Compound ∷ []) ∷ []
list_steps k p = right_brace_steps k p

-- names
abbrev pub for_name_steps : Kind → List Row
for_name_steps k = if are_in words.VariableName k then row tag.ForLoop (tag.ForName ∷ []) ∷ row tag.ForSelect (tag.ForName ∷ []) ∷ [] else []

abbrev pub function_name_steps : Kind → List Row
function_name_steps k = if are_in words.DottedName k then row tag.Function (tag.FunctionName ∷ []) ∷ [] else []

abbrev pub do_for_steps : Kind → List Row
do_for_steps kind.Do = row tag.ForName (tag.Lines ∷ tag.ForBody ∷ []) ∷ row tag.ForReady (tag.Lines ∷ tag.ForBody ∷ []) ∷ row tag.ForArithmeticThree (tag.Lines ∷ tag.ForArithmeticBody ∷ []) ∷ []
do_for_steps _ = []

abbrev pub case_in_steps : Kind → List Row
case_in_steps kind.In = row tag.CaseWord (tag.Cases ∷ []) ∷ []
case_in_steps _ = []

abbrev pub member_group_steps : Kind → List Row
member_group_steps kind.LeftBrace = row tag.MemberBody (tag.Lines ∷ tag.Group ∷ []) ∷ []
member_group_steps _ = []

-- behind the name of `for`
abbrev pub name_word_steps : Kind → List Row
name_word_steps kind.In = row tag.ForName (tag.ForWords ∷ []) ∷ []
name_word_steps k = do_for_steps k

-- where an item of `case` may begin
abbrev pub item_word_steps : Mode → Kind → List Row
item_word_steps m kind.Esac = row tag.Cases (tag.Compound ∷ []) ∷ []
item_word_steps m k = prepared_steps m k place.Cases

-- where a term of a condition may begin
abbrev pub term_word_steps : Mode → Kind → List Row
term_word_steps m kind.Bang = row tag.Terms (tag.Terms ∷ []) ∷ []
term_word_steps m kind.RightBrackets = (tag.Terms ∷ tag.ConditionCommand ∷ [], tag.Compound ∷ []) ∷ []
term_word_steps m k = prepared_steps m k place.Terms

abbrev pub word_steps : Mode → Kind → Place → Place → List Row
word_steps m k place.Stages below = command_steps k
word_steps m k place.FunctionName below = command_steps k
word_steps m k place.Listed below = list_steps k below
word_steps m k place.For below = for_name_steps k
word_steps m k place.ForName below = name_word_steps k
word_steps m k place.ForReady below = do_for_steps k
word_steps m k place.ForArithmetic below = do_for_steps k
word_steps m k place.Function below = function_name_steps k
word_steps m k place.CaseWord below = case_in_steps k
word_steps m k place.MemberBody below = member_group_steps k
word_steps m k place.Cases below = item_word_steps m k
word_steps m k place.Terms below = term_word_steps m k
word_steps m k p below = prepared_steps m k p

-- ---- between words

-- a command and the list of pipelines that it ends
abbrev pub chain_steps : List Row
chain_steps = (tag.Finished ∷ tag.Stages ∷ tag.Link ∷ tag.Lines ∷ [], tag.Lines ∷ []) ∷ []

abbrev pub entry_break_steps : List Row
entry_break_steps = row tag.Value (tag.Value ∷ []) ∷ row tag.ValueBroken (tag.ValueBroken ∷ []) ∷ []

abbrev pub break_steps : Kind → Place → List Row
break_steps k place.Finished = chain_steps
break_steps k place.Value = entry_break_steps
break_steps k place.Whole = then_rows settle_steps entry_break_steps
break_steps k place.ForWords = row tag.ForWords (tag.ForReady ∷ []) ∷ []
break_steps k p = pass_steps k p

abbrev pub double_steps : Place → List Row
double_steps place.For = row tag.ForLoop (tag.Text ∷ tag.ForArithmeticNone ∷ []) ∷ []
double_steps p = push (tag.Text ∷ tag.ArithmeticCommand ∷ [])

abbrev pub open_steps : Place → List Row
open_steps place.Simple = row tag.SimpleName (tag.FunctionName ∷ []) ∷ []
open_steps place.Cases = push (tag.Patterns ∷ [])
open_steps place.Terms = push (tag.Terms ∷ tag.Nested ∷ [])
open_steps place.Assigning = push (tag.Value ∷ [])
open_steps place.Whole = row tag.WholeName (tag.FunctionName ∷ []) ∷ []
open_steps p = push (tag.Lines ∷ tag.Subshell ∷ [])

abbrev pub value_close_steps : List Row
value_close_steps = (tag.Value ∷ tag.Assigning ∷ tag.Simple ∷ [], tag.Simple ∷ []) ∷ (tag.Value ∷ tag.Assigning ∷ tag.Value ∷ [], tag.Value ∷ []) ∷ []

abbrev pub list_close_steps : Place → List Row
list_close_steps place.Subshell = (tag.Listed ∷ tag.Subshell ∷ [], tag.Compound ∷ []) ∷ []
list_close_steps below = fork_steps

abbrev pub close_steps : Place → Place → List Row
close_steps place.Listed below = list_close_steps below
close_steps place.Patterns below = push (tag.Lines ∷ [])
close_steps place.Terms below = (tag.Terms ∷ tag.Nested ∷ [], tag.Tested ∷ []) ∷ []
close_steps place.Value below = value_close_steps
close_steps place.Whole below = then_rows settle_steps value_close_steps
close_steps p below = pass_steps kind.Close p

abbrev pub link_steps : List Row
link_steps = (tag.Finished ∷ tag.Stages ∷ tag.Link ∷ [], tag.Linked ∷ []) ∷ []

abbrev pub and_if_steps : Mode → Place → List Row
and_if_steps mode.Condition p = pass_steps kind.AndIf p
and_if_steps m p = link_steps

abbrev pub or_if_steps : Mode → List Row
or_if_steps mode.Condition = row tag.Terms (tag.Terms ∷ []) ∷ []
or_if_steps m = link_steps

abbrev pub bar_steps : Mode → Place → List Row
bar_steps mode.Pattern p = pass_steps kind.Bar p
bar_steps m p = (tag.Finished ∷ tag.Stages ∷ [], tag.Stages ∷ []) ∷ []

abbrev pub between_steps : Mode → Kind → Place → Place → List Row
between_steps m kind.Newline p below = break_steps kind.Newline p
between_steps m kind.NewlineBodies p below = break_steps kind.NewlineBodies p
between_steps m kind.Semicolon p below = break_steps kind.Semicolon p
between_steps m kind.Ampersand p below = chain_steps
between_steps m kind.BarAmpersand p below = chain_steps
between_steps m kind.AndIf p below = and_if_steps m p
between_steps m kind.OrIf p below = or_if_steps m
between_steps m kind.Bar p below = bar_steps m p
between_steps m kind.DoubleSemicolon p below = (tag.Listed ∷ tag.Patterns ∷ tag.Cases ∷ [], tag.Cases ∷ []) ∷ []
between_steps m kind.SemicolonAmpersand p below = (tag.Listed ∷ tag.Patterns ∷ tag.Cases ∷ [], tag.Cases ∷ []) ∷ []
between_steps m kind.DoubleParenthesis p below = double_steps p
between_steps m kind.Open p below = open_steps p
between_steps m kind.Close p below = close_steps p below
between_steps m kind.Backquote p below = fork_steps
between_steps m kind.Redirect p below = push (tag.Redirection ∷ [])
between_steps m kind.HereRedirect p below = push (tag.HereOperator ∷ [])
between_steps m k p below = word_steps m k p below

-- ---- parameters in braces, and elements

abbrev pub special_steps : Kind → List Row
special_steps kind.Digits = row tag.BracesValue (tag.ParameterOther ∷ []) ∷ row tag.BracesLength (tag.AskedOther ∷ []) ∷ []
special_steps kind.Special = row tag.BracesValue (tag.ParameterOther ∷ []) ∷ row tag.BracesLength (tag.AskedOther ∷ []) ∷ []
special_steps _ = []

abbrev pub brace_steps : Kind → List Row
brace_steps kind.Length = row tag.BracesValue (tag.BracesLength ∷ []) ∷ []
brace_steps kind.Target = row tag.BracesValue (tag.BracesTarget ∷ []) ∷ []
brace_steps kind.Name = row tag.BracesValue (tag.ParameterPath ∷ []) ∷ row tag.BracesLength (tag.AskedPath ∷ []) ∷ row tag.BracesTarget (tag.TargetPath ∷ []) ∷ []
brace_steps k = special_steps k

abbrev pub path_steps : List Row
path_steps = row tag.ParameterPath (tag.ParameterPath ∷ []) ∷ row tag.AskedPath (tag.AskedPath ∷ []) ∷ row tag.TargetPath (tag.TargetPath ∷ []) ∷ []

abbrev pub member_steps : List Row
member_steps = row tag.Target (tag.Target ∷ []) ∷ path_steps

abbrev pub form_steps : Kind → List Row
form_steps kind.Instead = row tag.ParameterOther (tag.Text ∷ tag.FormedOnce ∷ []) ∷ []
form_steps kind.Cut = row tag.ParameterOther (tag.Text ∷ tag.FormedOnce ∷ []) ∷ []
form_steps kind.Slice = row tag.ParameterOther (tag.Text ∷ tag.FormedTwice ∷ []) ∷ []
form_steps kind.Replace = row tag.ParameterOther (tag.Text ∷ tag.FormedTwice ∷ []) ∷ []
form_steps _ = []

abbrev pub name_steps : Kind → List Row
name_steps kind.Open = push (tag.Text ∷ tag.Bracket ∷ [])
name_steps kind.Member = member_steps
name_steps kind.Items = path_steps
name_steps kind.Prefix = row tag.TargetPath (tag.ParameterOther ∷ []) ∷ []
name_steps kind.Close = (tag.AskedOther ∷ tag.Text ∷ [], tag.Text ∷ []) ∷ []
name_steps k = form_steps k

abbrev pub otherwise_steps : Kind → List Row
otherwise_steps kind.Otherwise = row tag.Target (tag.Text ∷ tag.Element ∷ []) ∷ []
otherwise_steps _ = []

abbrev pub assign_steps : Place → List Row
assign_steps place.Keyed = push (tag.Text ∷ [])
assign_steps p = row tag.Target (tag.Text ∷ tag.Assigning ∷ []) ∷ []

abbrev pub target_steps : Kind → Place → List Row
target_steps kind.Open p = push (tag.Text ∷ tag.Bracket ∷ [])
target_steps kind.Member p = member_steps
target_steps kind.Assign p = assign_steps p
target_steps kind.AddAssign p = row tag.Target (tag.Text ∷ tag.Assigning ∷ []) ∷ []
target_steps kind.ValueOpen p = row tag.Target (tag.Assigning ∷ []) ∷ []
target_steps k p = otherwise_steps k

-- ---- texts

abbrev pub text_steps : List Row
text_steps = row tag.Text (tag.Text ∷ []) ∷ []

abbrev pub nested_steps : Mode → List Row
nested_steps m = if is_nested m then text_steps else []

abbrev pub end_form_steps : List Row
end_form_steps = (tag.Text ∷ tag.FormedLast ∷ tag.Text ∷ [], tag.Text ∷ []) ∷ []

abbrev pub subscript_steps : List Row
subscript_steps =
    (tag.Subscript ∷ tag.ParameterPath ∷ [], tag.ParameterPath ∷ [])
    ∷ (tag.Subscript ∷ tag.AskedPath ∷ [], tag.AskedPath ∷ [])
    ∷ (tag.Subscript ∷ tag.TargetPath ∷ [], tag.TargetPath ∷ [])
    ∷ (tag.Subscript ∷ tag.Target ∷ [], tag.Target ∷ [])
    ∷ []

abbrev pub whole_subscript_steps : Place → List Row
whole_subscript_steps place.Value = row tag.Subscript (tag.Keyed ∷ []) ∷ []
whole_subscript_steps below = subscript_steps

abbrev pub bracket_steps : Place → Place → List Row
bracket_steps place.Subscript below = whole_subscript_steps below
bracket_steps p below = text_steps

abbrev pub arithmetic_steps : Place → List Row
arithmetic_steps place.Arithmetic = (tag.Text ∷ tag.Arithmetic ∷ tag.Text ∷ [], tag.Text ∷ []) ∷ []
arithmetic_steps place.ForArithmetic = (tag.Text ∷ tag.ForArithmeticTwo ∷ [], tag.ForArithmeticThree ∷ []) ∷ []
arithmetic_steps below = (tag.Text ∷ tag.ArithmeticCommand ∷ [], tag.Compound ∷ []) ∷ []

abbrev pub close_text_steps : Mode → Place → Place → List Row
close_text_steps mode.Brace p below = end_form_steps
close_text_steps mode.Colon p below = end_form_steps
close_text_steps mode.Slash p below = end_form_steps
close_text_steps mode.Subscript p below = bracket_steps p below
close_text_steps mode.Arithmetic p below = arithmetic_steps below
close_text_steps m p below = nested_steps m

abbrev pub close_word_steps : List Row
close_word_steps = (tag.Text ∷ tag.WordStart ∷ [], tag.Whole ∷ []) ∷ (tag.Text ∷ tag.AssignmentStart ∷ [], tag.WholeAssignment ∷ []) ∷ (tag.Text ∷ tag.Element ∷ [], tag.Whole ∷ []) ∷ []

abbrev pub close_assigned_steps : List Row
close_assigned_steps = then_rows ((tag.Text ∷ tag.Assigning ∷ [], tag.Assigned ∷ []) ∷ []) ((tag.Assigned ∷ tag.Simple ∷ [], tag.Simple ∷ []) ∷ (tag.Assigned ∷ tag.Value ∷ [], tag.Value ∷ []) ∷ [])

abbrev pub word_end_steps : Place → List Row
word_end_steps place.Keyed = (tag.Text ∷ tag.Keyed ∷ tag.Value ∷ [], tag.Value ∷ []) ∷ []
word_end_steps place.Assigning = close_assigned_steps
word_end_steps below = then_rows close_word_steps settle_steps

abbrev pub part_for_steps : List Row
part_for_steps = (tag.Text ∷ tag.ForArithmeticNone ∷ [], tag.Text ∷ tag.ForArithmeticOne ∷ []) ∷ (tag.Text ∷ tag.ForArithmeticOne ∷ [], tag.Text ∷ tag.ForArithmeticTwo ∷ []) ∷ []

abbrev pub part_form_steps : List Row
part_form_steps = (tag.Text ∷ tag.FormedTwice ∷ [], tag.Text ∷ tag.FormedLast ∷ []) ∷ []

abbrev pub part_steps : Mode → List Row
part_steps mode.LoopArithmetic = part_for_steps
part_steps m = part_form_steps

-- what stands for bytes
abbrev pub literal_steps : Kind → List Row
literal_steps kind.Plain = text_steps
literal_steps kind.Joined = text_steps
literal_steps kind.Escaped = text_steps
literal_steps kind.Single = text_steps
literal_steps kind.Ansi = text_steps
literal_steps kind.OpenQuote = text_steps
literal_steps kind.CloseQuote = text_steps
literal_steps kind.Dollar = text_steps
literal_steps kind.Open = text_steps
literal_steps _ = []

abbrev pub in_text_steps : Mode → Kind → Place → Place → List Row
in_text_steps m kind.Expand p below = text_steps
in_text_steps m kind.OpenParameter p below = push (tag.BracesValue ∷ [])
in_text_steps m kind.OpenCurrent p below = push (tag.Lines ∷ tag.SubstitutionCurrent ∷ [])
in_text_steps m kind.OpenSubstitution p below = push (tag.Lines ∷ tag.SubstitutionFork ∷ [])
in_text_steps m kind.Backquote p below = push (tag.Lines ∷ tag.SubstitutionFork ∷ [])
in_text_steps m kind.OpenArithmetic p below = push (tag.Text ∷ tag.Arithmetic ∷ [])
in_text_steps m kind.WordEnd p below = word_end_steps below
in_text_steps m kind.Separator p below = part_steps m
in_text_steps m kind.Close p below = close_text_steps m p below
in_text_steps m k p below = literal_steps k

-- ---- tokens and marks

-- of a token in that mode, of that kind, where these stand on top
abbrev pub token_steps : Mode → Kind → Place → Place → List Row
token_steps mode.Command k p below = between_steps mode.Command k p below
token_steps mode.Pattern k p below = between_steps mode.Pattern k p below
token_steps mode.Condition k p below = between_steps mode.Condition k p below
token_steps mode.Value k p below = between_steps mode.Value k p below
token_steps mode.Parameter k p below = brace_steps k
token_steps mode.Form k p below = name_steps k
token_steps mode.Target k p below = target_steps k p
token_steps m k p below = in_text_steps m k p below

abbrev pub begin_member_steps : Place → List Row
begin_member_steps place.Whole = then_rows settle_steps (push (tag.MemberBody ∷ []))
begin_member_steps p = push (tag.MemberBody ∷ [])

abbrev pub end_compound_steps : List Row
end_compound_steps =
    (tag.Compound ∷ tag.Stages ∷ [], tag.Finished ∷ tag.Stages ∷ [])
    ∷ (tag.Compound ∷ tag.FunctionName ∷ tag.Stages ∷ [], tag.Finished ∷ tag.Stages ∷ [])
    ∷ (tag.Compound ∷ tag.FunctionName ∷ tag.Value ∷ [], tag.Value ∷ [])
    ∷ (tag.Compound ∷ tag.ValueBroken ∷ [], tag.Value ∷ [])
    ∷ []

abbrev pub mark_steps : Mark → Place → List Row
mark_steps mark.SimpleBegins p = push (tag.SimpleEmpty ∷ [])
mark_steps mark.SimpleEnds p = row tag.Simple (tag.Finished ∷ []) ∷ []
mark_steps mark.PipelineBegins p = push (tag.StagesFirst ∷ [])
mark_steps mark.AndOrBegins p = push (tag.NoLink ∷ [])
mark_steps mark.ListEnds p = row tag.Lines (tag.Listed ∷ []) ∷ (tag.Finished ∷ tag.Stages ∷ tag.Link ∷ tag.Lines ∷ [], tag.Listed ∷ []) ∷ []
mark_steps mark.CompoundEnds p = end_compound_steps
mark_steps mark.SubscriptEnds p = (tag.Text ∷ tag.Bracket ∷ [], tag.Subscript ∷ []) ∷ []
mark_steps mark.TermEnds p = (tag.Operands ∷ tag.Terms ∷ [], tag.Terms ∷ []) ∷ (tag.Tested ∷ tag.Terms ∷ [], tag.Terms ∷ []) ∷ []
mark_steps mark.MemberBody p = begin_member_steps p
mark_steps _ p = []
