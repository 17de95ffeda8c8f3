-- What each part of the grammar does to the tags on top: before it, and what they may be behind it.
use Rattle.std.specs.Prelude.{List, [], ◌∷◌, ◌++◌, map}
use Rattle.ksh_syntax.specs.declared.kind.Mode.{Mode}
use Rattle.ksh_syntax.specs.declared.kind.Mode.TheVariants as mode
use Rattle.ksh_syntax.specs.declared.part.Part as declared
use Rattle.ksh_syntax.specs.declared.part.Part.TheVariants as part
use Rattle.ksh_syntax.specs.declared.part.Ending.{Ending}
use Rattle.ksh_syntax.specs.declared.part.Ending.TheVariants as ending
use Rattle.tree_moves.specs.Tags.{Tag}
use Rattle.tree_moves.specs.Tags as tag
use Rattle.tree_moves.specs.Moves.{broken, settled, terms, values, wholes}

abbrev pub Effect : Type 0
Effect = List Tag × List (List Tag)

abbrev pub turns_to : List Tag → List Tag → Effect
turns_to before behind = (before, behind ∷ [])

abbrev pub stays : Tag → Effect
stays t = (t ∷ [], (t ∷ []) ∷ [])

abbrev pub one : List Tag → List Tag → List Effect
one before behind = turns_to before behind ∷ []

abbrev pub text_effects : Mode → List Effect
text_effects mode.Command = []
text_effects mode.Pattern = []
text_effects mode.Condition = []
text_effects mode.Value = []
text_effects mode.Parameter = []
text_effects mode.Form = []
text_effects mode.Target = []
text_effects m = stays tag.Text ∷ []

-- ---- lists

-- below the commands of a list, as far as its end closes it
abbrev pub below : Ending → List Tag
below ending.Case = tag.Lines ∷ tag.Patterns ∷ tag.Cases ∷ []
below _ = tag.Lines ∷ []

abbrev pub behind_list : Ending → List Tag
behind_list ending.Case = tag.Compound ∷ []
behind_list _ = tag.Listed ∷ []

abbrev pub in_list : Ending → List Tag → Effect
in_list e top = turns_to (top ++ below e) (behind_list e)

abbrev pub body_effects : Ending → List Effect
body_effects ending.Case = []
body_effects e = in_list e [] ∷ []

abbrev pub commands_effects : Ending → List Effect
commands_effects e = in_list e (tag.NoLink ∷ []) ∷ in_list e (tag.Linked ∷ []) ∷ []

abbrev pub piped_effects : Ending → List Effect
piped_effects e = in_list e (tag.StagesFirst ∷ tag.Link ∷ []) ∷ in_list e (tag.Stages ∷ tag.Link ∷ []) ∷ []

abbrev pub behind_command : Ending → Tag → List Effect
behind_command e t = in_list e (t ∷ tag.Stages ∷ tag.Link ∷ []) ∷ []

-- ---- values

-- a value's entries, with perhaps a word that waits
abbrev pub with_words : Tag → List (List Tag)
with_words v = (v ∷ []) ∷ map (λ w. w ∷ v ∷ []) wholes

abbrev pub any_entries : List (List Tag)
any_entries = with_words tag.Value ++ (with_words tag.ValueWord ++ (with_words tag.ValueNamed ++ (with_words tag.ValueTypeset ++ with_words tag.ValueBroken)))

-- what is on top, up to the end of the value
abbrev pub closing : List (List Tag) → List Effect
closing tops =
    map (λ top. turns_to (top ++ (tag.Assigning ∷ tag.Simple ∷ [])) (tag.Simple ∷ [])) tops
    ++ map (λ top. turns_to (top ++ (tag.Assigning ∷ tag.Value ∷ [])) (tag.Value ∷ [])) tops

abbrev pub entries_break : List Effect
entries_break = map (λ v. turns_to (v ∷ []) (broken v ∷ [])) values
    ++ (map (λ v. turns_to (tag.Whole ∷ v ∷ []) (broken (settled tag.Whole v) ∷ [])) values
    ++ (map (λ v. turns_to (tag.WholeName ∷ v ∷ []) (broken (settled tag.WholeName v) ∷ [])) values
    ++ map (λ v. turns_to (tag.WholeAssignment ∷ v ∷ []) (broken (settled tag.WholeAssignment v) ∷ [])) values))

-- behind `function` and a name
abbrev pub function_named : List (List Tag)
function_named = (tag.WholeName ∷ tag.ValueWord ∷ []) ∷ (tag.WholeName ∷ tag.ValueNamed ∷ []) ∷ (tag.ValueNamed ∷ []) ∷ (tag.ValueTypeset ∷ []) ∷ (tag.ValueBroken ∷ []) ∷ []

abbrev pub name_waits : List (List Tag)
name_waits = map (λ v. tag.WholeName ∷ v ∷ []) values

abbrev pub function_ends : List (List Tag)
function_ends = (tag.Compound ∷ tag.ValueNamed ∷ []) ∷ (tag.Compound ∷ tag.ValueTypeset ∷ []) ∷ (tag.Compound ∷ tag.ValueBroken ∷ []) ∷ map (λ v. tag.Compound ∷ tag.FunctionName ∷ v ∷ []) values

-- ---- newlines

abbrev pub newline_stays : List Effect
newline_stays = stays tag.FunctionName ∷ stays tag.ForName ∷ stays tag.ForReady ∷ stays tag.ForArithmeticThree ∷ stays tag.CaseWord ∷ stays tag.Stages ∷ stays tag.Linked ∷ []

abbrev pub line_effects : List Effect
line_effects =
    stays tag.Lines ∷ stays tag.Value ∷ turns_to (tag.ForWords ∷ []) (tag.ForReady ∷ [])
    ∷ turns_to (tag.Finished ∷ tag.Stages ∷ tag.Link ∷ tag.Lines ∷ []) (tag.Lines ∷ []) ∷ newline_stays

abbrev pub effects : declared.Part → List Effect
effects (part.Text m) = text_effects m
effects (part.Lines e) = in_list e [] ∷ []
effects (part.Body e) = body_effects e
effects (part.Commands e) = commands_effects e
effects (part.Piped e) = piped_effects e
effects (part.AfterName e) = behind_command e tag.SimpleName
effects (part.AfterSimple e) = behind_command e tag.Finished
effects (part.AfterCompound e) = behind_command e tag.Finished
effects part.Parameter = one (tag.BracesValue ∷ tag.Text ∷ []) (tag.Text ∷ [])
effects part.LengthOf = one (tag.BracesLength ∷ tag.Text ∷ []) (tag.Text ∷ [])
effects part.LengthPath = one (tag.AskedPath ∷ tag.Text ∷ []) (tag.Text ∷ [])
effects part.TargetPath = one (tag.TargetPath ∷ tag.Text ∷ []) (tag.Text ∷ [])
effects part.PathForm = one (tag.ParameterPath ∷ tag.Text ∷ []) (tag.Text ∷ [])
effects part.SpecialForm = turns_to (tag.ParameterOther ∷ tag.Text ∷ []) (tag.Text ∷ []) ∷ one (tag.ParameterPath ∷ tag.Text ∷ []) (tag.Text ∷ [])
effects part.SliceEnd = one (tag.Text ∷ tag.FormedTwice ∷ tag.Text ∷ []) (tag.Text ∷ [])
effects part.ReplaceEnd = one (tag.Text ∷ tag.FormedTwice ∷ tag.Text ∷ []) (tag.Text ∷ [])
effects part.Script = one (tag.Lines ∷ []) (tag.Listed ∷ [])
effects part.Line = line_effects
effects part.BodyTexts = []
effects part.BodyEnd = []
effects part.Newlines = newline_stays
effects part.Simple = one (tag.SimpleEmpty ∷ []) (tag.Finished ∷ [])
effects part.Compounded = turns_to (tag.StagesFirst ∷ []) (tag.Finished ∷ tag.Stages ∷ []) ∷ one (tag.Stages ∷ []) (tag.Finished ∷ tag.Stages ∷ [])
effects part.Arguments = turns_to (tag.SimpleName ∷ []) (tag.Finished ∷ []) ∷ one (tag.Simple ∷ []) (tag.Finished ∷ [])
effects part.FirstArguments = one (tag.Simple ∷ []) (tag.Finished ∷ [])
effects part.FirstElement = one (tag.Target ∷ tag.Simple ∷ []) (tag.Finished ∷ [])
effects part.Redirections =
    turns_to (tag.Compound ∷ tag.Stages ∷ []) (tag.Finished ∷ tag.Stages ∷ [])
    ∷ one (tag.Compound ∷ tag.FunctionName ∷ tag.Stages ∷ []) (tag.Finished ∷ tag.Stages ∷ [])
effects part.Redirection =
    turns_to (tag.SimpleEmpty ∷ []) (tag.Simple ∷ []) ∷ turns_to (tag.SimpleName ∷ []) (tag.Simple ∷ []) ∷ stays tag.Simple ∷ stays tag.Compound ∷ []
effects part.RedirectWord =
    turns_to (tag.Redirection ∷ tag.Simple ∷ []) (tag.Simple ∷ []) ∷ turns_to (tag.Redirection ∷ tag.Compound ∷ []) (tag.Compound ∷ [])
    ∷ turns_to (tag.HereOperator ∷ tag.Simple ∷ []) (tag.Simple ∷ []) ∷ one (tag.HereOperator ∷ tag.Compound ∷ []) (tag.Compound ∷ [])
effects part.ElementValue = one (tag.Target ∷ tag.Simple ∷ []) (tag.Simple ∷ [])
effects part.Compound =
    turns_to (tag.StagesFirst ∷ []) (tag.Compound ∷ tag.Stages ∷ []) ∷ turns_to (tag.Stages ∷ []) (tag.Compound ∷ tag.Stages ∷ [])
    ∷ one (tag.FunctionName ∷ []) (tag.Compound ∷ tag.FunctionName ∷ [])
effects part.IfBody = one (tag.Lines ∷ tag.If ∷ []) (tag.Compound ∷ [])
effects part.IfRest = one (tag.Listed ∷ tag.Then ∷ []) (tag.Compound ∷ [])
effects part.LoopBody = one (tag.Lines ∷ tag.Loop ∷ []) (tag.Compound ∷ [])
effects part.ForBody = one (tag.ForLoop ∷ []) (tag.Compound ∷ [])
effects part.ForSeparator = stays tag.ForArithmeticThree ∷ []
effects part.SelectBody = one (tag.ForSelect ∷ []) (tag.Compound ∷ [])
effects part.ForWords = one (tag.ForName ∷ []) (tag.Compound ∷ [])
effects part.ForLines = one (tag.ForName ∷ []) (tag.Compound ∷ [])
effects part.WordList = one (tag.ForWords ∷ []) (tag.Compound ∷ [])
effects part.CaseBody = one (tag.Case ∷ []) (tag.Compound ∷ [])
effects part.AnyWord = one (tag.Case ∷ []) (tag.CaseWord ∷ [])
effects part.CaseItems = one (tag.Cases ∷ []) (tag.Compound ∷ [])
effects part.PatternLine = stays tag.Cases ∷ []
effects part.PatternRest = one (tag.Patterns ∷ []) (tag.Lines ∷ tag.Patterns ∷ [])
effects part.PatternWord = stays tag.Patterns ∷ []
effects part.Condition = stays tag.Terms ∷ []
effects part.ConditionLines = stays tag.Terms ∷ []
effects part.ConditionLine = stays tag.Terms ∷ []
effects part.Alternatives = stays tag.Terms ∷ []
effects part.Conjunction = stays tag.Terms ∷ []
effects part.Conjuncts = stays tag.Terms ∷ []
effects part.Negation = stays tag.Terms ∷ []
effects part.Term = (tag.Terms ∷ [], map (λ t. t ∷ tag.Terms ∷ []) terms) ∷ []
effects part.AfterOperand = (tag.OperandsOne ∷ [], (tag.OperandsOne ∷ []) ∷ (tag.Operands ∷ []) ∷ []) ∷ []
effects part.Operand = one (tag.OperandsBinary ∷ []) (tag.Operands ∷ [])
effects part.AfterUnary = (tag.OperandsUnary ∷ [], (tag.OperandsUnary ∷ []) ∷ (tag.OperandsBoth ∷ []) ∷ (tag.Operands ∷ []) ∷ []) ∷ []
effects part.AfterBinary = (tag.OperandsBoth ∷ [], (tag.OperandsBoth ∷ []) ∷ (tag.Operands ∷ []) ∷ []) ∷ []
effects part.Value = turns_to (tag.Assigning ∷ tag.Simple ∷ []) (tag.Simple ∷ []) ∷ one (tag.Assigning ∷ tag.Value ∷ []) (tag.Value ∷ [])
effects part.ValueLine = entries_break
effects part.ItemElement = closing ((tag.Target ∷ tag.Value ∷ []) ∷ [])
effects part.MemberElement = one (tag.Target ∷ tag.Value ∷ []) (tag.Value ∷ [])
effects part.Items = closing ((tag.Value ∷ []) ∷ (tag.ValueBroken ∷ []) ∷ [])
effects part.KeyValue = one (tag.Keyed ∷ tag.Value ∷ []) (tag.Value ∷ [])
effects part.ItemsMixed = closing any_entries
effects part.ItemsMembers = closing any_entries
effects part.ValueLines = map (λ top. (top, top ∷ (tag.ValueBroken ∷ []) ∷ [])) function_named
effects part.MemberFunction = closing name_waits
effects part.TypesetMember = closing any_entries
effects part.ItemsTypeset = closing any_entries
effects part.ItemsFunction = closing name_waits
effects part.ItemsBrace = closing function_named
effects part.AfterItemName = closing name_waits
effects part.ItemsWords = closing any_entries
effects part.ItemsPairs = closing any_entries
effects part.MemberRedirections = closing function_ends
