-- Which place a tag has, and what frames with that tag have besides.
use Rattle.std.specs.Prelude.{◌≡◌, ℕ, Bool, true, false, ◌||◌, List, [], ◌∷◌, ◌++◌, Option, Some, None, codes}
use Rattle.std.proofs.Common.{refl, sym, ◌∙◌, ap, subst, append_assoc}
use Rattle.std.specs.List.{list_any}
use Rattle.ksh_ast.specs.declared.tree.Piece.{Piece}
use Rattle.ksh_ast.specs.declared.tree.Test.TheVariants as test
use Rattle.ksh_lexer.specs.declared.kind.Form.{Form}
use Rattle.ksh_lexer.specs.declared.kind.Form.TheVariants as form
use Rattle.tree_moves.specs.Tags.{Tag, same_tag}
use Rattle.tree_moves.specs.Tags as tag
use Rattle.tree_moves.proofs.Numbers.{tag_same}
use Rattle.tree_parts.specs.declared.entry.Entry.{Entry}
use Rattle.tree_parts.specs.declared.entry.Entry.TheVariants as entry
use Rattle.tree_parts.specs.Parts.{formed, test_of, unary_by}
use Rattle.tree_build.specs.declared.opening.Opening.TheVariants as opening
use Rattle.tree_build.specs.declared.place.Place.{Place}
use Rattle.tree_build.specs.declared.place.Place.TheVariants as place
use Rattle.tree_build.specs.Fits.{Fits, Is, IsUnary, IsNameEntry}
use Rattle.tree_build.specs.Frame.{Frame, Opened, Text, Subscript, Parameter, Formed, Whole, Target, Element, Assigning, Assigned, Keyed, Value, Redirection, HereOperator, HereWord, HereBody, Redirected, Simple, Compound, Finished, Stages, Piped, Linked, Chain, Lines, Listed, FunctionName, Defined, If, Then, Else, LoopBody, ForName, ForWords, ForReady, ForBody, ForArithmetic, ForArithmeticBody, CaseWord, Cases, Patterns, Terms, Operands, Tested}
use Rattle.tree_build.specs.Places.{place_of, place_at}
use Rattle.tree_build.specs.Reads.{IsWordOf}
use Rattle.script_tree.specs.Steps.{also, is_also}

-- nothing where frames of that tag have several
abbrev pub tag_place : Tag → Option Place
tag_place tag.Text = Some place.Text
tag_place tag.Bracket = Some place.Bracket
tag_place tag.Subscript = Some place.Subscript
tag_place tag.BracesValue = Some place.Other
tag_place tag.BracesLength = Some place.Other
tag_place tag.BracesTarget = Some place.Other
tag_place tag.ParameterPath = Some place.Parameter
tag_place tag.ParameterOther = Some place.Parameter
tag_place tag.TargetPath = Some place.Parameter
tag_place tag.AskedPath = Some place.Parameter
tag_place tag.AskedOther = Some place.Parameter
tag_place tag.FormedOnce = Some place.Formed
tag_place tag.FormedTwice = Some place.Formed
tag_place tag.FormedLast = Some place.Formed
tag_place tag.SubstitutionCurrent = Some place.Substitution
tag_place tag.SubstitutionFork = Some place.Substitution
tag_place tag.Arithmetic = Some place.Arithmetic
tag_place tag.WordStart = Some place.WordStart
tag_place tag.AssignmentStart = Some place.WordStart
tag_place tag.Whole = Some place.Whole
tag_place tag.WholeName = Some place.Whole
tag_place tag.WholeAssignment = Some place.Whole
tag_place tag.AnyWhole = Some place.Whole
tag_place tag.WholeUnary = Some place.Whole
tag_place tag.WholeBinary = Some place.Whole
tag_place tag.Target = Some place.Target
tag_place tag.Element = Some place.Element
tag_place tag.Assigning = Some place.Assigning
tag_place tag.Assigned = Some place.Other
tag_place tag.Redirection = Some place.Redirection
tag_place tag.HereOperator = Some place.HereOperator
tag_place tag.HereWord = Some place.Other
tag_place tag.HereBody = Some place.Other
tag_place tag.Redirected = Some place.Other
tag_place tag.SimpleEmpty = Some place.Simple
tag_place tag.SimpleName = Some place.Simple
tag_place tag.Simple = Some place.Simple
tag_place tag.Compound = Some place.Other
tag_place tag.Finished = Some place.Finished
tag_place tag.StagesFirst = Some place.Stages
tag_place tag.Stages = Some place.Stages
tag_place tag.Piped = Some place.Other
tag_place tag.NoLink = Some place.Other
tag_place tag.Linked = Some place.Linked
tag_place tag.Chain = Some place.Other
tag_place tag.Lines = Some place.Lines
tag_place tag.Listed = Some place.Listed
tag_place tag.Group = Some place.Group
tag_place tag.Subshell = Some place.Subshell
tag_place tag.ArithmeticCommand = Some place.ArithmeticCommand
tag_place tag.If = Some place.If
tag_place tag.Then = Some place.Then
tag_place tag.Else = Some place.Else
tag_place tag.Loop = Some place.Loop
tag_place tag.LoopBody = Some place.LoopBody
tag_place tag.ForLoop = Some place.For
tag_place tag.ForSelect = Some place.For
tag_place tag.ForName = Some place.ForName
tag_place tag.ForWords = Some place.ForWords
tag_place tag.ForReady = Some place.ForReady
tag_place tag.ForBody = Some place.ForBody
tag_place tag.ForArithmeticNone = Some place.ForArithmetic
tag_place tag.ForArithmeticOne = Some place.ForArithmetic
tag_place tag.ForArithmeticTwo = Some place.ForArithmetic
tag_place tag.ForArithmeticThree = Some place.ForArithmetic
tag_place tag.ForArithmeticBody = Some place.ForArithmeticBody
tag_place tag.Case = Some place.Case
tag_place tag.CaseWord = Some place.CaseWord
tag_place tag.Cases = Some place.Cases
tag_place tag.Patterns = Some place.Patterns
tag_place tag.Function = Some place.Function
tag_place tag.FunctionName = Some place.FunctionName
tag_place tag.Defined = Some place.Other
tag_place tag.ConditionCommand = Some place.ConditionCommand
tag_place tag.Nested = Some place.Nested
tag_place tag.Terms = Some place.Terms
tag_place tag.OperandsNone = Some place.Operands
tag_place tag.OperandsOne = Some place.Operands
tag_place tag.OperandsUnary = Some place.Operands
tag_place tag.OperandsBinary = Some place.Operands
tag_place tag.OperandsBoth = Some place.Operands
tag_place tag.Operands = Some place.Operands
tag_place tag.Tested = Some place.Other
tag_place tag.Value = Some place.Value
tag_place tag.ValueWord = Some place.Value
tag_place tag.ValueNamed = Some place.Value
tag_place tag.ValueTypeset = Some place.Value
tag_place tag.ValueBroken = Some place.Value
tag_place tag.MemberBody = Some place.MemberBody
tag_place tag.Keyed = Some place.Keyed
tag_place _ = None

placed : (t : Tag) (f : Frame) (q : Place) → tag_place t ≡ Some q → Is t f → place_of f ≡ q
placed tag.Text (Text ps) q e h = cc
placed tag.Bracket (Opened opening.Bracket) q e h = cc
placed tag.Subscript (Subscript ps) q e h = cc
placed tag.BracesValue (Opened (opening.Braces quoted a)) q e h = cc
placed tag.BracesLength (Opened (opening.Braces quoted a)) q e h = cc
placed tag.BracesTarget (Opened (opening.Braces quoted a)) q e h = cc
placed tag.ParameterPath (Parameter quoted a p) q e h = cc
placed tag.ParameterOther (Parameter quoted a p) q e h = cc
placed tag.TargetPath (Parameter quoted a p) q e h = cc
placed tag.AskedPath (Parameter quoted a p) q e h = cc
placed tag.AskedOther (Parameter quoted a p) q e h = cc
placed tag.FormedOnce (Formed quoted p f first) q e h = cc
placed tag.FormedTwice (Formed quoted p f first) q e h = cc
placed tag.FormedLast (Formed quoted p f first) q e h = cc
placed tag.SubstitutionCurrent (Opened (opening.Substitution quoted k)) q e h = cc
placed tag.SubstitutionFork (Opened (opening.Substitution quoted k)) q e h = cc
placed tag.Arithmetic (Opened (opening.Arithmetic quoted)) q e h = cc
placed tag.WordStart (Opened (opening.WordStart from assigns)) q e h = cc
placed tag.AssignmentStart (Opened (opening.WordStart from assigns)) q e h = cc
placed tag.Whole (Whole ps from to assigns) q e h = cc
placed tag.WholeName (Whole ps from to assigns) q e h = cc
placed tag.WholeAssignment (Whole ps from to assigns) q e h = cc
placed tag.AnyWhole (Whole ps from to assigns) q e h = cc
placed tag.WholeUnary (Whole ps from to assigns) q e h = cc
placed tag.WholeBinary (Whole ps from to assigns) q e h = cc
placed tag.Target (Target from path) q e h = cc
placed tag.Element (Element from path) q e h = cc
placed tag.Assigning (Assigning path append) q e h = cc
placed tag.Assigned (Assigned a) q e h = cc
placed tag.Given (Assigned a) q e h = cc
placed tag.Given (Whole ps from to assigns) q e h = cc
placed tag.Redirection (Redirection to f) q e h = cc
placed tag.HereOperator (HereOperator to) q e h = cc
placed tag.HereWord (HereWord to end) q e h = cc
placed tag.HereBody (HereBody to end) q e h = cc
placed tag.Redirected (Redirected r) q e h = cc
placed tag.SimpleEmpty (Simple at line assigns words rs) q e h = cc
placed tag.SimpleName (Simple at line assigns words rs) q e h = cc
placed tag.Simple (Simple at line assigns words rs) q e h = cc
placed tag.Compound (Compound line c rs) q e h = cc
placed tag.Finished (Finished line c) q e h = cc
placed tag.StagesFirst (Stages line negated members) q e h = cc
placed tag.Stages (Stages line negated members) q e h = cc
placed tag.Piped (Piped line c) q e h = cc
placed tag.NoLink (Opened opening.NoLink) q e h = cc
placed tag.Linked (Linked line c links or) q e h = cc
placed tag.Link (Opened opening.NoLink) q e h = cc
placed tag.Link (Linked line c links or) q e h = cc
placed tag.Chain (Chain line c) q e h = cc
placed tag.Lines (Lines is) q e h = cc
placed tag.Listed (Listed is) q e h = cc
placed tag.Group (Opened (opening.Group line)) q e h = cc
placed tag.Subshell (Opened (opening.Subshell line)) q e h = cc
placed tag.ArithmeticCommand (Opened (opening.ArithmeticCommand line)) q e h = cc
placed tag.If (If line arms) q e h = cc
placed tag.Then (Then line arms test) q e h = cc
placed tag.Else (Else line arms) q e h = cc
placed tag.Loop (Opened (opening.Loop line until)) q e h = cc
placed tag.LoopBody (LoopBody line until test) q e h = cc
placed tag.ForLoop (Opened (opening.For line select)) q e h = cc
placed tag.ForSelect (Opened (opening.For line select)) q e h = cc
placed tag.ForName (ForName line select name) q e h = cc
placed tag.ForWords (ForWords line select name words) q e h = cc
placed tag.ForReady (ForReady line select name words) q e h = cc
placed tag.ForBody (ForBody line select name words) q e h = cc
placed tag.ForArithmeticNone (ForArithmetic line parts) q e h = cc
placed tag.ForArithmeticOne (ForArithmetic line parts) q e h = cc
placed tag.ForArithmeticTwo (ForArithmetic line parts) q e h = cc
placed tag.ForArithmeticThree (ForArithmetic line parts) q e h = cc
placed tag.ForArithmeticBody (ForArithmeticBody line parts) q e h = cc
placed tag.Case (Opened (opening.Case line)) q e h = cc
placed tag.CaseWord (CaseWord line word) q e h = cc
placed tag.Cases (Cases line word items) q e h = cc
placed tag.Patterns (Patterns words) q e h = cc
placed tag.Function (Opened (opening.Function at line)) q e h = cc
placed tag.FunctionName (FunctionName at line own_scope name) q e h = cc
placed tag.Defined (Defined line f) q e h = cc
placed tag.ConditionCommand (Opened (opening.ConditionCommand line)) q e h = cc
placed tag.Nested (Opened opening.Nested) q e h = cc
placed tag.Terms (Terms alternatives terms negated) q e h = cc
placed tag.OperandsNone (Operands words) q e h = cc
placed tag.OperandsOne (Operands words) q e h = cc
placed tag.OperandsUnary (Operands words) q e h = cc
placed tag.OperandsBinary (Operands words) q e h = cc
placed tag.OperandsBoth (Operands words) q e h = cc
placed tag.Operands (Operands words) q e h = cc
placed tag.Tested (Tested test) q e h = cc
placed tag.Value (Value es) q e h = cc
placed tag.ValueWord (Value es) q e h = cc
placed tag.ValueNamed (Value es) q e h = cc
placed tag.ValueTypeset (Value es) q e h = cc
placed tag.ValueBroken (Value es) q e h = cc
placed tag.MemberBody (Opened opening.MemberBody) q e h = cc
placed tag.Keyed (Keyed ps) q e h = cc
placed _ _ q e h = absurd h

-- what stands on top of frames with these tags, and below that
pub top_place : (t : Tag) (ts : List Tag) (fs : List Frame) (q : Place) → tag_place t ≡ Some q → Fits (t ∷ ts) fs → place_at fs 0 ≡ q
top_place t ts [] q e h = absurd h
top_place t ts (f ∷ fs) q e h = placed t f q e h.0

pub below_place : (t u : Tag) (ts : List Tag) (fs : List Frame) (q : Place) → tag_place u ≡ Some q → Fits (t ∷ u ∷ ts) fs → place_at fs 1 ≡ q
below_place t u ts [] q e h = absurd h
below_place t u ts (f ∷ []) q e h = absurd h.1
below_place t u ts (f ∷ g ∷ fs) q e h = placed u g q e h.1.0

-- ---- other tags of a frame

abbrev IsAll : List Tag → Frame → Type 0
IsAll [] f = Unit {0}
IsAll (u ∷ us) f = Is u f × IsAll us f

formed_once : (f : Form) (last : List Piece) → formed f None last ≡ None → ⊥
formed_once (form.Instead colon) last e = cc
formed_once (form.Assign colon) last e = cc
formed_once (form.Fault colon) last e = cc
formed_once (form.Other colon) last e = cc
formed_once (form.Cut tail longest) last e = cc
formed_once form.Slice last e = cc
formed_once form.ReplaceFirst last e = cc
formed_once form.ReplaceAll last e = cc
formed_once form.ReplaceFront last e = cc
formed_once form.ReplaceTail last e = cc

formed_none : (f : Form) (first : Option (List Piece)) → first ≡ None → (last : List Piece) → formed f first last ≡ None → ⊥
formed_none f first n last e = formed_once f last (sym (ap (λ x. formed f x last) n) ∙ e)

one_word : (words : List (List Piece)) (word : List Piece) → words ≡ word ∷ [] → Is tag.Operands (Operands words)
one_word words word e = (test.Word word, ap test_of e)

two_words : (words : List (List Piece)) (left word : List Piece) → words ≡ left ∷ word ∷ [] → IsUnary left → Is tag.Operands (Operands words)
two_words words left word e u = (test.Unary u.0 word, ap test_of e ∙ ap (λ o. unary_by o word) u.1)

named_word : (es : List Entry) → Is tag.ValueNamed (Value es) → Is tag.ValueWord (Value es)
named_word es h = (h.0 ++ h.1 ∷ [], h.2, h.3 ∙ sym (append_assoc h.0 (h.1 ∷ []) (h.2 ∷ [])), h.5)

named_broken : (es : List Entry) → Is tag.ValueNamed (Value es) → Is tag.ValueBroken (Value es)
named_broken es h =
    let last : IsNameEntry h.2 = h.5 in
    (h.0, [], h.1, h.2, last.3.0, h.3, h.4, subst (λ e. IsWordOf e last.3.0) (sym last.2) last.3.1, last.3.2, refl)

typeset_broken : (es : List Entry) → Is tag.ValueTypeset (Value es) → Is tag.ValueBroken (Value es)
typeset_broken es h = (h.0, [], h.1, entry.Typeset, codes "typeset", h.2, h.3, refl, refl, refl)

also_is : (t : Tag) (f : Frame) → Is t f → IsAll (also t) f
also_is tag.ParameterPath (Parameter quoted a p) h = (h.0, (h.1, (tt, tt)))
also_is tag.ParameterOther (Parameter quoted a p) h = (tt, tt)
also_is tag.TargetPath (Parameter quoted a p) h = (h.1, (tt, tt))
also_is tag.AskedPath (Parameter quoted a p) h = (tt, tt)
also_is tag.FormedOnce (Formed quoted p f first) h = (formed_none f first h, tt)
also_is tag.FormedTwice (Formed quoted p f first) h = (formed_none f first h.0, tt)
also_is tag.Whole (Whole ps from to assigns) h = (tt, tt)
also_is tag.WholeName (Whole ps from to assigns) h = (h.0, (tt, tt))
also_is tag.WholeAssignment (Whole ps from to assigns) h = (tt, tt)
also_is tag.WholeUnary (Whole ps from to assigns) h = (tt, tt)
also_is tag.WholeBinary (Whole ps from to assigns) h = (tt, tt)
also_is tag.SimpleEmpty (Simple at line assigns words rs) h = (tt, tt)
also_is tag.SimpleName (Simple at line assigns words rs) h = (tt, tt)
also_is tag.StagesFirst (Stages line negated members) h = (tt, tt)
also_is tag.NoLink (Opened opening.NoLink) h = (tt, tt)
also_is tag.Linked (Linked line c links or) h = (tt, tt)
also_is tag.OperandsOne (Operands words) h = (one_word words h.0 h.1, tt)
also_is tag.OperandsUnary (Operands words) h = ((h.0, h.1), (one_word words h.0 h.1, tt))
also_is tag.OperandsBoth (Operands words) h = ((h.0, h.1, h.2, h.4), (two_words words h.0 h.1 h.2 h.3, tt))
also_is tag.ValueWord (Value es) h = (tt, tt)
also_is tag.ValueNamed (Value es) h = (named_word es h, (named_broken es h, (tt, tt)))
also_is tag.ValueTypeset (Value es) h = (typeset_broken es h, (tt, tt))
also_is tag.ValueBroken (Value es) h = (tt, tt)
also_is tag.Text f h = tt
also_is tag.Bracket f h = tt
also_is tag.Subscript f h = tt
also_is tag.BracesValue f h = tt
also_is tag.BracesLength f h = tt
also_is tag.BracesTarget f h = tt
also_is tag.AskedOther f h = tt
also_is tag.FormedLast f h = tt
also_is tag.SubstitutionCurrent f h = tt
also_is tag.SubstitutionFork f h = tt
also_is tag.Arithmetic f h = tt
also_is tag.WordStart f h = tt
also_is tag.AssignmentStart f h = tt
also_is tag.AnyWhole f h = tt
also_is tag.Target f h = tt
also_is tag.Element f h = tt
also_is tag.Assigning f h = tt
also_is tag.Assigned f h = tt
also_is tag.Given f h = tt
also_is tag.Redirection f h = tt
also_is tag.HereOperator f h = tt
also_is tag.HereWord f h = tt
also_is tag.HereBody f h = tt
also_is tag.Redirected f h = tt
also_is tag.Simple f h = tt
also_is tag.Compound f h = tt
also_is tag.Finished f h = tt
also_is tag.Stages f h = tt
also_is tag.Piped f h = tt
also_is tag.Link f h = tt
also_is tag.Chain f h = tt
also_is tag.Lines f h = tt
also_is tag.Listed f h = tt
also_is tag.Group f h = tt
also_is tag.Subshell f h = tt
also_is tag.ArithmeticCommand f h = tt
also_is tag.If f h = tt
also_is tag.Then f h = tt
also_is tag.Else f h = tt
also_is tag.Loop f h = tt
also_is tag.LoopBody f h = tt
also_is tag.ForLoop f h = tt
also_is tag.ForSelect f h = tt
also_is tag.ForName f h = tt
also_is tag.ForWords f h = tt
also_is tag.ForReady f h = tt
also_is tag.ForBody f h = tt
also_is tag.ForArithmeticNone f h = tt
also_is tag.ForArithmeticOne f h = tt
also_is tag.ForArithmeticTwo f h = tt
also_is tag.ForArithmeticThree f h = tt
also_is tag.ForArithmeticBody f h = tt
also_is tag.Case f h = tt
also_is tag.CaseWord f h = tt
also_is tag.Cases f h = tt
also_is tag.Patterns f h = tt
also_is tag.Function f h = tt
also_is tag.FunctionName f h = tt
also_is tag.Defined f h = tt
also_is tag.ConditionCommand f h = tt
also_is tag.Nested f h = tt
also_is tag.Terms f h = tt
also_is tag.OperandsNone f h = tt
also_is tag.OperandsBinary f h = tt
also_is tag.Operands f h = tt
also_is tag.Tested f h = tt
also_is tag.Value f h = tt
also_is tag.MemberBody f h = tt
also_is tag.Keyed f h = tt
also_is _ _ h = absurd h

among : (u : Tag) (us : List Tag) (f : Frame) → list_any (same_tag u) us ≡ true → IsAll us f → Is u f
among u [] f e h = absurd cc
among u (v ∷ us) f e h = by_first (same_tag u v) refl e (λ more. among u us f more h.1)
  where
    by_first : (b : Bool) → same_tag u v ≡ b → (b || list_any (same_tag u) us) ≡ true → (list_any (same_tag u) us ≡ true → Is u f) → Is u f
    by_first true s e later = subst (λ w. Is w f) (sym (tag_same u v s)) h.0
    by_first false s e later = later e

pub is_also_is : (t u : Tag) (f : Frame) → is_also t u ≡ true → Is t f → Is u f
is_also_is t u f e h = by_first (same_tag t u) refl e
  where
    by_first : (b : Bool) → same_tag t u ≡ b → (b || list_any (same_tag u) (also t)) ≡ true → Is u f
    by_first true s e = subst (λ w. Is w f) (tag_same t u s) h
    by_first false s e = among u (also t) f e (also_is t f h)
