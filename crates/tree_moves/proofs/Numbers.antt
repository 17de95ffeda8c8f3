-- A tag is known by its number.
use Rattle.std.specs.Prelude.{◌≡◌, true, List, [], ◌∷◌, slice_get, Some}
use Rattle.std.proofs.Common.{refl, sym, ◌∙◌, ap}
use Rattle.std.proofs.lemmas.Bool.{eqb-true}
use Rattle.tree_moves.specs.Tags.{Tag, tag_number, same_tag}
use Rattle.tree_moves.specs.Tags as tag

abbrev pub tags : List Tag
tags = tag.Text ∷ tag.Bracket ∷ tag.Subscript ∷ tag.BracesValue ∷ tag.BracesLength ∷ tag.BracesTarget ∷ tag.ParameterPath ∷ tag.ParameterOther ∷ tag.TargetPath ∷ tag.AskedPath ∷ tag.AskedOther ∷ tag.FormedOnce ∷ tag.FormedTwice ∷ tag.FormedLast ∷ tag.SubstitutionCurrent ∷ tag.SubstitutionFork ∷ tag.Arithmetic ∷ tag.WordStart ∷ tag.AssignmentStart ∷ tag.Whole ∷ tag.WholeName ∷ tag.WholeAssignment ∷ tag.AnyWhole ∷ tag.WholeUnary ∷ tag.WholeBinary ∷ tag.Target ∷ tag.Element ∷ tag.Assigning ∷ tag.Assigned ∷ tag.Given ∷ tag.Redirection ∷ tag.HereOperator ∷ tag.HereWord ∷ tag.HereBody ∷ tag.Redirected ∷ tag.SimpleEmpty ∷ tag.SimpleName ∷ tag.Simple ∷ tag.Compound ∷ tag.Finished ∷ tag.StagesFirst ∷ tag.Stages ∷ tag.Piped ∷ tag.NoLink ∷ tag.Linked ∷ tag.Link ∷ tag.Chain ∷ tag.Lines ∷ tag.Listed ∷ tag.Group ∷ tag.Subshell ∷ tag.ArithmeticCommand ∷ tag.If ∷ tag.Then ∷ tag.Else ∷ tag.Loop ∷ tag.LoopBody ∷ tag.ForLoop ∷ tag.ForSelect ∷ tag.ForName ∷ tag.ForWords ∷ tag.ForReady ∷ tag.ForBody ∷ tag.ForArithmeticNone ∷ tag.ForArithmeticOne ∷ tag.ForArithmeticTwo ∷ tag.ForArithmeticThree ∷ tag.ForArithmeticBody ∷ tag.Case ∷ tag.CaseWord ∷ tag.Cases ∷ tag.Patterns ∷ tag.Function ∷ tag.FunctionName ∷ tag.Defined ∷ tag.ConditionCommand ∷ tag.Nested ∷ tag.Terms ∷ tag.OperandsNone ∷ tag.OperandsOne ∷ tag.OperandsUnary ∷ tag.OperandsBinary ∷ tag.OperandsBoth ∷ tag.Operands ∷ tag.Tested ∷ tag.Value ∷ tag.ValueWord ∷ tag.ValueNamed ∷ tag.ValueTypeset ∷ tag.ValueBroken ∷ tag.MemberBody ∷ tag.Keyed ∷ []

pub tag_at : (t : Tag) → slice_get tags (tag_number t) ≡ Some t
tag_at tag.Text = refl
tag_at tag.Bracket = refl
tag_at tag.Subscript = refl
tag_at tag.BracesValue = refl
tag_at tag.BracesLength = refl
tag_at tag.BracesTarget = refl
tag_at tag.ParameterPath = refl
tag_at tag.ParameterOther = refl
tag_at tag.TargetPath = refl
tag_at tag.AskedPath = refl
tag_at tag.AskedOther = refl
tag_at tag.FormedOnce = refl
tag_at tag.FormedTwice = refl
tag_at tag.FormedLast = refl
tag_at tag.SubstitutionCurrent = refl
tag_at tag.SubstitutionFork = refl
tag_at tag.Arithmetic = refl
tag_at tag.WordStart = refl
tag_at tag.AssignmentStart = refl
tag_at tag.Whole = refl
tag_at tag.WholeName = refl
tag_at tag.WholeAssignment = refl
tag_at tag.AnyWhole = refl
tag_at tag.WholeUnary = refl
tag_at tag.WholeBinary = refl
tag_at tag.Target = refl
tag_at tag.Element = refl
tag_at tag.Assigning = refl
tag_at tag.Assigned = refl
tag_at tag.Given = refl
tag_at tag.Redirection = refl
tag_at tag.HereOperator = refl
tag_at tag.HereWord = refl
tag_at tag.HereBody = refl
tag_at tag.Redirected = refl
tag_at tag.SimpleEmpty = refl
tag_at tag.SimpleName = refl
tag_at tag.Simple = refl
tag_at tag.Compound = refl
tag_at tag.Finished = refl
tag_at tag.StagesFirst = refl
tag_at tag.Stages = refl
tag_at tag.Piped = refl
tag_at tag.NoLink = refl
tag_at tag.Linked = refl
tag_at tag.Link = refl
tag_at tag.Chain = refl
tag_at tag.Lines = refl
tag_at tag.Listed = refl
tag_at tag.Group = refl
tag_at tag.Subshell = refl
tag_at tag.ArithmeticCommand = refl
tag_at tag.If = refl
tag_at tag.Then = refl
tag_at tag.Else = refl
tag_at tag.Loop = refl
tag_at tag.LoopBody = refl
tag_at tag.ForLoop = refl
tag_at tag.ForSelect = refl
tag_at tag.ForName = refl
tag_at tag.ForWords = refl
tag_at tag.ForReady = refl
tag_at tag.ForBody = refl
tag_at tag.ForArithmeticNone = refl
tag_at tag.ForArithmeticOne = refl
tag_at tag.ForArithmeticTwo = refl
tag_at tag.ForArithmeticThree = refl
tag_at tag.ForArithmeticBody = refl
tag_at tag.Case = refl
tag_at tag.CaseWord = refl
tag_at tag.Cases = refl
tag_at tag.Patterns = refl
tag_at tag.Function = refl
tag_at tag.FunctionName = refl
tag_at tag.Defined = refl
tag_at tag.ConditionCommand = refl
tag_at tag.Nested = refl
tag_at tag.Terms = refl
tag_at tag.OperandsNone = refl
tag_at tag.OperandsOne = refl
tag_at tag.OperandsUnary = refl
tag_at tag.OperandsBinary = refl
tag_at tag.OperandsBoth = refl
tag_at tag.Operands = refl
tag_at tag.Tested = refl
tag_at tag.Value = refl
tag_at tag.ValueWord = refl
tag_at tag.ValueNamed = refl
tag_at tag.ValueTypeset = refl
tag_at tag.ValueBroken = refl
tag_at tag.MemberBody = refl
tag_at tag.Keyed = refl

pub tag_same : (t u : Tag) → same_tag t u ≡ true → t ≡ u
tag_same t u h =
    let e = sym (tag_at t) ∙ ap (slice_get tags) (eqb-true (tag_number t) (tag_number u) h) ∙ tag_at u in
    cc
