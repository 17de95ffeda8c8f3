-- What is left to read can always be completed.
use Rattle.std.specs.Prelude.{◌≡◌, ℕ, true, List, [], ◌∷◌, ◌++◌, map, Some, slice_get, unwrap_or}
use Rattle.std.proofs.Common.{refl, subst, append_assoc}
use Rattle.ksh_grammar.specs.declared.symbol.Symbol.TheVariants.{Token, Part, Make}
use Rattle.ksh_grammar.specs.Grammar.{nothing, token, part, action}
use Rattle.ksh_grammar.specs.Modes.{with_mode}
use Rattle.ksh_grammar.specs.Predict.{finishes}
use Rattle.ksh_grammar.specs.Rules.{at, IsRuleOf}
use Rattle.ksh_grammar.proofs.Moves.{finished}
use Rattle.ksh_syntax.specs.declared.kind.Mode.{Mode}
use Rattle.ksh_syntax.specs.declared.kind.Mode.TheVariants as mode
use Rattle.ksh_syntax.specs.declared.kind.Kind.{Kind}
use Rattle.ksh_syntax.specs.declared.kind.Kind.TheVariants as kind
use Rattle.ksh_syntax.specs.declared.part.Terminal.{Terminal}
use Rattle.ksh_syntax.specs.declared.part.Terminal.TheVariants.{One, Any}
use Rattle.ksh_syntax.specs.declared.part.Words.{Words}
use Rattle.ksh_syntax.specs.declared.part.Words.TheVariants as words
use Rattle.ksh_syntax.specs.declared.part.Part as declared
use Rattle.ksh_syntax.specs.declared.part.Part.TheVariants as part
use Rattle.ksh_syntax.specs.declared.part.Ending.TheVariants as ending
use Rattle.ksh_syntax.specs.Takes.{takes, takes_in, are_in, same_mode, same_kind, mode_number, kind_number}
use Rattle.std.proofs.lemmas.Bool.{eq-eqb}
use Rattle.ksh_grammar.proofs.Begins.{both}
use Rattle.ksh_syntax.specs.Rules.{rules}
use Rattle.ksh_syntax.specs.Steps.{Left}
use Rattle.ksh_syntax.specs.Sentences as sentences
use Rattle.ksh_syntax.specs.Sentences.{Event, Tells, anywhere, took, marked, script, HasRead}

-- the number of a rule with which the part comes to its end soon
abbrev pub short_number : declared.Part → ℕ
short_number (part.Lines ending.Operator) = 2
short_number (part.Body ending.Operator) = 1
short_number (part.Commands ending.Operator) = 1
short_number (part.AfterName ending.Operator) = 1
short_number (part.AfterSimple ending.Operator) = 7
short_number (part.AfterCompound ending.Operator) = 7
short_number (part.Lines ending.Word) = 2
short_number (part.Body ending.Word) = 1
short_number (part.Commands ending.Word) = 1
short_number (part.AfterName ending.Word) = 1
short_number (part.AfterSimple ending.Word) = 3
short_number (part.AfterCompound ending.Word) = 7
short_number (part.Lines ending.Case) = 4
short_number (part.Body ending.Case) = 1
short_number (part.Commands ending.Case) = 1
short_number (part.AfterName ending.Case) = 1
short_number (part.AfterSimple ending.Case) = 3
short_number (part.AfterCompound ending.Case) = 9
short_number part.Parameter = 2
short_number part.LengthOf = 1
short_number part.LengthPath = 3
short_number part.TargetPath = 4
short_number part.PathForm = 3
short_number part.BodyEnd = 1
short_number part.ElementValue = 2
short_number part.FirstElement = 2
short_number part.Compound = 2
short_number part.IfRest = 2
short_number part.ForBody = 1
short_number part.ForSeparator = 1
short_number part.ForWords = 1
short_number part.ForLines = 2
short_number part.WordList = 2
short_number part.PatternRest = 1
short_number part.Negation = 1
short_number part.Term = 1
short_number part.ItemElement = 2
short_number part.MemberElement = 2
short_number part.AfterItemName = 1
short_number _ = 0

abbrev pub short : declared.Part → ℕ → Left
short p d = map (at d) (unwrap_or (slice_get (rules p) (short_number p)) [])

is_there : (p : declared.Part) → slice_get (rules p) (short_number p) ≡ Some (unwrap_or (slice_get (rules p) (short_number p)) [])
is_there (part.Text mode.Command) = refl
is_there (part.Text mode.Pattern) = refl
is_there (part.Text mode.Condition) = refl
is_there (part.Text mode.Value) = refl
is_there (part.Text mode.Word) = refl
is_there (part.Text mode.Quoted) = refl
is_there (part.Text mode.Group) = refl
is_there (part.Text mode.Brace) = refl
is_there (part.Text mode.Colon) = refl
is_there (part.Text mode.Slash) = refl
is_there (part.Text mode.Subscript) = refl
is_there (part.Text mode.Arithmetic) = refl
is_there (part.Text mode.LoopArithmetic) = refl
is_there (part.Text mode.Parentheses) = refl
is_there (part.Text mode.Body) = refl
is_there (part.Text mode.Parameter) = refl
is_there (part.Text mode.Form) = refl
is_there (part.Text mode.Target) = refl
is_there (part.Lines ending.Operator) = refl
is_there (part.Body ending.Operator) = refl
is_there (part.Commands ending.Operator) = refl
is_there (part.Piped ending.Operator) = refl
is_there (part.AfterName ending.Operator) = refl
is_there (part.AfterSimple ending.Operator) = refl
is_there (part.AfterCompound ending.Operator) = refl
is_there (part.Lines ending.Word) = refl
is_there (part.Body ending.Word) = refl
is_there (part.Commands ending.Word) = refl
is_there (part.Piped ending.Word) = refl
is_there (part.AfterName ending.Word) = refl
is_there (part.AfterSimple ending.Word) = refl
is_there (part.AfterCompound ending.Word) = refl
is_there (part.Lines ending.Case) = refl
is_there (part.Body ending.Case) = refl
is_there (part.Commands ending.Case) = refl
is_there (part.Piped ending.Case) = refl
is_there (part.AfterName ending.Case) = refl
is_there (part.AfterSimple ending.Case) = refl
is_there (part.AfterCompound ending.Case) = refl
is_there part.Parameter = refl
is_there part.LengthOf = refl
is_there part.LengthPath = refl
is_there part.TargetPath = refl
is_there part.PathForm = refl
is_there part.SpecialForm = refl
is_there part.SliceEnd = refl
is_there part.ReplaceEnd = refl
is_there part.Script = refl
is_there part.Line = refl
is_there part.BodyTexts = refl
is_there part.BodyEnd = refl
is_there part.Newlines = refl
is_there part.Simple = refl
is_there part.Compounded = refl
is_there part.Arguments = refl
is_there part.FirstArguments = refl
is_there part.FirstElement = refl
is_there part.Redirections = refl
is_there part.Redirection = refl
is_there part.RedirectWord = refl
is_there part.ElementValue = refl
is_there part.Compound = refl
is_there part.IfBody = refl
is_there part.IfRest = refl
is_there part.LoopBody = refl
is_there part.ForBody = refl
is_there part.ForSeparator = refl
is_there part.SelectBody = refl
is_there part.ForWords = refl
is_there part.ForLines = refl
is_there part.WordList = refl
is_there part.CaseBody = refl
is_there part.AnyWord = refl
is_there part.CaseItems = refl
is_there part.PatternLine = refl
is_there part.PatternRest = refl
is_there part.PatternWord = refl
is_there part.Condition = refl
is_there part.ConditionLines = refl
is_there part.ConditionLine = refl
is_there part.Alternatives = refl
is_there part.Conjunction = refl
is_there part.Conjuncts = refl
is_there part.Negation = refl
is_there part.Term = refl
is_there part.AfterOperand = refl
is_there part.Operand = refl
is_there part.AfterUnary = refl
is_there part.AfterBinary = refl
is_there part.Value = refl
is_there part.ValueLine = refl
is_there part.ItemElement = refl
is_there part.MemberElement = refl
is_there part.Items = refl
is_there part.KeyValue = refl
is_there part.ItemsMixed = refl
is_there part.ItemsMembers = refl
is_there part.ValueLines = refl
is_there part.MemberFunction = refl
is_there part.TypesetMember = refl
is_there part.ItemsTypeset = refl
is_there part.ItemsFunction = refl
is_there part.ItemsBrace = refl
is_there part.AfterItemName = refl
is_there part.ItemsWords = refl
is_there part.ItemsPairs = refl
is_there part.MemberRedirections = refl

is_short_rule : (p : declared.Part) (d : ℕ) → IsRuleOf rules anywhere p d (short p d)
is_short_rule p d = (short_number p, unwrap_or (slice_get (rules p) (short_number p)) [], is_there p, (λ _. refl), refl)

-- each part comes to its end within so many steps
part_ends : (p : declared.Part) (d : ℕ) → finishes short 200 (Part p d ∷ []) ≡ true
part_ends (part.Text mode.Command) d = refl
part_ends (part.Text mode.Pattern) d = refl
part_ends (part.Text mode.Condition) d = refl
part_ends (part.Text mode.Value) d = refl
part_ends (part.Text mode.Word) d = refl
part_ends (part.Text mode.Quoted) d = refl
part_ends (part.Text mode.Group) d = refl
part_ends (part.Text mode.Brace) d = refl
part_ends (part.Text mode.Colon) d = refl
part_ends (part.Text mode.Slash) d = refl
part_ends (part.Text mode.Subscript) d = refl
part_ends (part.Text mode.Arithmetic) d = refl
part_ends (part.Text mode.LoopArithmetic) d = refl
part_ends (part.Text mode.Parentheses) d = refl
part_ends (part.Text mode.Body) d = refl
part_ends (part.Text mode.Parameter) d = refl
part_ends (part.Text mode.Form) d = refl
part_ends (part.Text mode.Target) d = refl
part_ends (part.Lines ending.Operator) d = refl
part_ends (part.Body ending.Operator) d = refl
part_ends (part.Commands ending.Operator) d = refl
part_ends (part.Piped ending.Operator) d = refl
part_ends (part.AfterName ending.Operator) d = refl
part_ends (part.AfterSimple ending.Operator) d = refl
part_ends (part.AfterCompound ending.Operator) d = refl
part_ends (part.Lines ending.Word) d = refl
part_ends (part.Body ending.Word) d = refl
part_ends (part.Commands ending.Word) d = refl
part_ends (part.Piped ending.Word) d = refl
part_ends (part.AfterName ending.Word) d = refl
part_ends (part.AfterSimple ending.Word) d = refl
part_ends (part.AfterCompound ending.Word) d = refl
part_ends (part.Lines ending.Case) d = refl
part_ends (part.Body ending.Case) d = refl
part_ends (part.Commands ending.Case) d = refl
part_ends (part.Piped ending.Case) d = refl
part_ends (part.AfterName ending.Case) d = refl
part_ends (part.AfterSimple ending.Case) d = refl
part_ends (part.AfterCompound ending.Case) d = refl
part_ends part.Parameter d = refl
part_ends part.LengthOf d = refl
part_ends part.LengthPath d = refl
part_ends part.TargetPath d = refl
part_ends part.PathForm d = refl
part_ends part.SpecialForm d = refl
part_ends part.SliceEnd d = refl
part_ends part.ReplaceEnd d = refl
part_ends part.Script d = refl
part_ends part.Line d = refl
part_ends part.BodyTexts d = refl
part_ends part.BodyEnd d = refl
part_ends part.Newlines d = refl
part_ends part.Simple d = refl
part_ends part.Compounded d = refl
part_ends part.Arguments d = refl
part_ends part.FirstArguments d = refl
part_ends part.FirstElement d = refl
part_ends part.Redirections d = refl
part_ends part.Redirection d = refl
part_ends part.RedirectWord d = refl
part_ends part.ElementValue d = refl
part_ends part.Compound d = refl
part_ends part.IfBody d = refl
part_ends part.IfRest d = refl
part_ends part.LoopBody d = refl
part_ends part.ForBody d = refl
part_ends part.ForSeparator d = refl
part_ends part.SelectBody d = refl
part_ends part.ForWords d = refl
part_ends part.ForLines d = refl
part_ends part.WordList d = refl
part_ends part.CaseBody d = refl
part_ends part.AnyWord d = refl
part_ends part.CaseItems d = refl
part_ends part.PatternLine d = refl
part_ends part.PatternRest d = refl
part_ends part.PatternWord d = refl
part_ends part.Condition d = refl
part_ends part.ConditionLines d = refl
part_ends part.ConditionLine d = refl
part_ends part.Alternatives d = refl
part_ends part.Conjunction d = refl
part_ends part.Conjuncts d = refl
part_ends part.Negation d = refl
part_ends part.Term d = refl
part_ends part.AfterOperand d = refl
part_ends part.Operand d = refl
part_ends part.AfterUnary d = refl
part_ends part.AfterBinary d = refl
part_ends part.Value d = refl
part_ends part.ValueLine d = refl
part_ends part.ItemElement d = refl
part_ends part.MemberElement d = refl
part_ends part.Items d = refl
part_ends part.KeyValue d = refl
part_ends part.ItemsMixed d = refl
part_ends part.ItemsMembers d = refl
part_ends part.ValueLines d = refl
part_ends part.MemberFunction d = refl
part_ends part.TypesetMember d = refl
part_ends part.ItemsTypeset d = refl
part_ends part.ItemsFunction d = refl
part_ends part.ItemsBrace d = refl
part_ends part.AfterItemName d = refl
part_ends part.ItemsWords d = refl
part_ends part.ItemsPairs d = refl
part_ends part.MemberRedirections d = refl

-- a token that a terminal takes
abbrev member : Words → Kind
member words.FunctionName = kind.Name
member words.CommandWord = kind.Other
member words.AnyStart = kind.Start
member words.DottedName = kind.Name
member words.AnyWord = kind.Other
member words.RedirectStart = kind.Start
member words.VariableName = kind.Name
member words.NotEsac = kind.Other
member words.EveryStart = kind.Start
member words.FirstOperand = kind.Other
member words.OperandWord = kind.Other
member words.NotBinary = kind.Other
member words.MemberName = kind.Name
member words.ItemWord = kind.Other
member words.NotAssignment = kind.Other
member words.NotName = kind.Other
member words.NotBrace = kind.Other

abbrev sample : Terminal → sentences.Token
sample (One m k) = (m, k)
sample (Any m ws) = (m, member ws)

same_mode_itself : (m : Mode) → same_mode m m ≡ true
same_mode_itself m = eq-eqb (mode_number m) (mode_number m) refl

same_kind_itself : (k : Kind) → same_kind k k ≡ true
same_kind_itself k = eq-eqb (kind_number k) (kind_number k) refl

is_member : (ws : Words) → are_in ws (member ws) ≡ true
is_member words.AnyWord = refl
is_member words.FunctionName = refl
is_member words.CommandWord = refl
is_member words.AnyStart = refl
is_member words.DottedName = refl
is_member words.RedirectStart = refl
is_member words.VariableName = refl
is_member words.NotEsac = refl
is_member words.EveryStart = refl
is_member words.FirstOperand = refl
is_member words.OperandWord = refl
is_member words.NotBinary = refl
is_member words.MemberName = refl
is_member words.ItemWord = refl
is_member words.NotAssignment = refl
is_member words.NotName = refl
is_member words.NotBrace = refl

is_sample : (c : Terminal) → with_mode takes_in takes c (sample c) ≡ true
is_sample (One m k) = both (same_mode m m) (same_kind k k) (same_mode_itself m) (same_kind_itself k)
is_sample (Any m ws) = both (same_mode m m) (are_in ws (member ws)) (same_mode_itself m) (is_member ws)

one_after_other : {A : Left} {ts : List sentences.Token} {v w : List Event} (B : Left) (us : List sentences.Token) (v' : List Event) → Tells anywhere A ts v w → Tells anywhere B us w v' → Tells anywhere (A ++ B) (ts ++ us) v v'
one_after_other B us v' nothing k = k
one_after_other B us v' (token e h) k = token e (one_after_other B us v' h k)
one_after_other B us v' (part {rule} {symbols} {ts} {v} m h) k = part m (subst (λ xs. Tells anywhere xs (ts ++ us) v v') (append_assoc rule symbols B) (one_after_other B us v' h k))
one_after_other B us v' (action h) k = action (one_after_other B us v' h k)

pub completed : (left : Left) (events : List Event) → (more : List sentences.Token) × (events' : List Event) × Tells anywhere left more events events'
completed [] events = ([], events, nothing)
completed (Token c ∷ left) events =
    let h = completed left (took (sample c) events) in
    (sample c ∷ h.0, h.1, token (is_sample c) h.2)
completed (Part p d ∷ left) events =
    let first = finished (λ (t : sentences.Token). t) (with_mode takes_in takes) (IsRuleOf rules anywhere) took marked sample is_sample short is_short_rule 200 (Part p d ∷ []) events (part_ends p d) in
    let h = completed left first.1 in
    (first.0 ++ h.0, h.1, one_after_other left h.0 h.1 first.2 h.2)
completed (Make m ∷ left) events =
    let h = completed left (marked m events) in
    (h.0, h.1, action h.2)
