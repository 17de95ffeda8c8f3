-- Which tags frames have.
use Rattle.std.specs.Prelude.{◌≡◌, ℕ, Bool, true, false, List, [], ◌∷◌, ◌++◌, Option, Some, None, Result, Ok, Err}
use Rattle.ksh_ast.specs.declared.kinds.BinaryTest.{BinaryTest}
use Rattle.ksh_ast.specs.declared.kinds.SubstKind.TheVariants as subst
use Rattle.ksh_ast.specs.declared.kinds.UnaryTest.{UnaryTest}
use Rattle.ksh_ast.specs.declared.redirect.Redirect.{Redirect}
use Rattle.ksh_ast.specs.declared.tree.Argument.TheVariants as argument
use Rattle.ksh_ast.specs.declared.tree.Arith.{Arith}
use Rattle.ksh_ast.specs.declared.tree.ParamOf.{ParamOf}
use Rattle.ksh_ast.specs.declared.tree.ParamOf.TheVariants as of
use Rattle.ksh_ast.specs.declared.tree.Piece.{Piece}
use Rattle.ksh_ast.specs.declared.tree.Test.{Test}
use Rattle.ksh_ast.specs.declared.tree.TreePath.{TreePath}
use Rattle.ksh_lexer.specs.declared.kind.Form.{Form}
use Rattle.ksh_lexer.specs.declared.kind.Form.TheVariants as form
use Rattle.ksh_syntax.specs.declared.kind.Kind.{Kind}
use Rattle.ksh_syntax.specs.declared.kind.Kind.TheVariants as kind
use Rattle.tree_moves.specs.Moves.{Row}
use Rattle.tree_moves.specs.Tags.{Tag}
use Rattle.tree_moves.specs.Tags as tag
use Rattle.tree_parts.specs.declared.asked.Asked.TheVariants as asked
use Rattle.tree_parts.specs.declared.entry.Entry.{Entry}
use Rattle.tree_parts.specs.declared.entry.Entry.TheVariants as entry
use Rattle.tree_parts.specs.Literals.{literal}
use Rattle.tree_parts.specs.Parts.{all_names, binary_test, formed, names_of, plain_bytes, test_of, unary_test, with_redirects}
use Rattle.tree_build.specs.declared.opening.Opening.TheVariants as opening
use Rattle.tree_build.specs.declared.unbuilt.Unbuilt.{Unbuilt}
use Rattle.tree_build.specs.declared.unbuilt.Unbuilt.TheVariants as unbuilt
use Rattle.tree_build.specs.Frame.{Frame, Opened, Text, Subscript, Parameter, Formed, Whole, Target, Element, Assigning, Assigned, Keyed, Value, Redirection, HereOperator, HereWord, HereBody, Redirected, Simple, Compound, Finished, Stages, Piped, Linked, Chain, Lines, Listed, FunctionName, Defined, If, Then, Else, LoopBody, ForName, ForWords, ForReady, ForBody, ForArithmetic, ForArithmeticBody, CaseWord, Cases, Patterns, Terms, Operands, Tested}
use Rattle.tree_build.specs.Reads.{IsWordOf, are_breaks}

-- a word of plain bytes that are names
abbrev pub IsNames : List Piece → Type 0
IsNames ps = (bytes : List ℕ) × (ps ≡ literal bytes false) × (all_names (names_of bytes) ≡ true)

abbrev pub IsNameEntry : Entry → Type 0
IsNameEntry e = (ps : List Piece) × (at : ℕ) × (e ≡ entry.Word ps at) × IsNames ps

abbrev pub IsPath : ParamOf → Type 0
IsPath p = (path : TreePath) × (p ≡ of.Var path)

-- a form that may have two texts
abbrev pub TakesTwo : Form → Type 0
TakesTwo form.Slice = Unit {0}
TakesTwo form.ReplaceFirst = Unit {0}
TakesTwo form.ReplaceAll = Unit {0}
TakesTwo form.ReplaceFront = Unit {0}
TakesTwo form.ReplaceTail = Unit {0}
TakesTwo _ = ⊥

-- the name of a test of one word, and that of a test of two
abbrev pub IsUnary : List Piece → Type 0
IsUnary ps = (name : UnaryTest) × (unary_test (plain_bytes ps) ≡ Some name)

abbrev pub IsBinary : List Piece → Type 0
IsBinary ps = (name : BinaryTest) × (binary_test (plain_bytes ps) ≡ Some name)

-- a frame has a tag
abbrev pub Is : Tag → Frame → Type 0
Is tag.Text (Text ps) = Unit {0}
Is tag.Bracket (Opened opening.Bracket) = Unit {0}
Is tag.Subscript (Subscript ps) = Unit {0}
Is tag.BracesValue (Opened (opening.Braces quoted a)) = a ≡ asked.Value
Is tag.BracesLength (Opened (opening.Braces quoted a)) = a ≡ asked.Length
Is tag.BracesTarget (Opened (opening.Braces quoted a)) = a ≡ asked.Target
Is tag.ParameterPath (Parameter quoted a p) = (a ≡ asked.Value) × IsPath p
Is tag.ParameterOther (Parameter quoted a p) = a ≡ asked.Value
Is tag.TargetPath (Parameter quoted a p) = (a ≡ asked.Target) × IsPath p
Is tag.AskedPath (Parameter quoted a p) = IsPath p
Is tag.AskedOther (Parameter quoted a p) = Unit {0}
Is tag.FormedOnce (Formed quoted p f first) = first ≡ None
Is tag.FormedTwice (Formed quoted p f first) = (first ≡ None) × TakesTwo f
Is tag.FormedLast (Formed quoted p f first) = (last : List Piece) → formed f first last ≡ None → ⊥
Is tag.SubstitutionCurrent (Opened (opening.Substitution quoted k)) = k ≡ subst.Current
Is tag.SubstitutionFork (Opened (opening.Substitution quoted k)) = k ≡ subst.Fork
Is tag.Arithmetic (Opened (opening.Arithmetic quoted)) = Unit {0}
Is tag.WordStart (Opened (opening.WordStart from assigns)) = assigns ≡ false
Is tag.AssignmentStart (Opened (opening.WordStart from assigns)) = assigns ≡ true
Is tag.Whole (Whole ps from to assigns) = assigns ≡ false
Is tag.WholeName (Whole ps from to assigns) = (assigns ≡ false) × IsNames ps
Is tag.WholeAssignment (Whole ps from to assigns) = assigns ≡ true
Is tag.AnyWhole (Whole ps from to assigns) = Unit {0}
Is tag.WholeUnary (Whole ps from to assigns) = IsUnary ps
Is tag.WholeBinary (Whole ps from to assigns) = IsBinary ps
Is tag.Target (Target from path) = Unit {0}
Is tag.Element (Element from path) = Unit {0}
Is tag.Assigning (Assigning path append) = Unit {0}
Is tag.Assigned (Assigned a) = Unit {0}
Is tag.Given (Assigned a) = Unit {0}
Is tag.Given (Whole ps from to assigns) = assigns ≡ false
Is tag.Redirection (Redirection to f) = Unit {0}
Is tag.HereOperator (HereOperator to) = Unit {0}
Is tag.HereWord (HereWord to end) = Unit {0}
Is tag.HereBody (HereBody to end) = Unit {0}
Is tag.Redirected (Redirected r) = Unit {0}
Is tag.SimpleEmpty (Simple at line assigns words rs) = (assigns ≡ []) × (words ≡ []) × (rs ≡ [])
Is tag.SimpleName (Simple at line assigns words rs) = (word : List Piece) × (assigns ≡ []) × (words ≡ argument.Word word ∷ []) × (rs ≡ []) × IsNames word
Is tag.Simple (Simple at line assigns words rs) = Unit {0}
Is tag.Compound (Compound line c rs) = (more : List (Redirect (List Piece))) → with_redirects c more ≡ None → ⊥
Is tag.Finished (Finished line c) = Unit {0}
Is tag.StagesFirst (Stages line negated members) = (negated ≡ false) × (members ≡ [])
Is tag.Stages (Stages line negated members) = Unit {0}
Is tag.Piped (Piped line c) = Unit {0}
Is tag.NoLink (Opened opening.NoLink) = Unit {0}
Is tag.Linked (Linked line c links or) = Unit {0}
Is tag.Link (Opened opening.NoLink) = Unit {0}
Is tag.Link (Linked line c links or) = Unit {0}
Is tag.Chain (Chain line c) = Unit {0}
Is tag.Lines (Lines is) = Unit {0}
Is tag.Listed (Listed is) = Unit {0}
Is tag.Group (Opened (opening.Group line)) = Unit {0}
Is tag.Subshell (Opened (opening.Subshell line)) = Unit {0}
Is tag.ArithmeticCommand (Opened (opening.ArithmeticCommand line)) = Unit {0}
Is tag.If (If line arms) = Unit {0}
Is tag.Then (Then line arms test) = Unit {0}
Is tag.Else (Else line arms) = Unit {0}
Is tag.Loop (Opened (opening.Loop line until)) = Unit {0}
Is tag.LoopBody (LoopBody line until test) = Unit {0}
Is tag.ForLoop (Opened (opening.For line select)) = select ≡ false
Is tag.ForSelect (Opened (opening.For line select)) = select ≡ true
Is tag.ForName (ForName line select name) = Unit {0}
Is tag.ForWords (ForWords line select name words) = Unit {0}
Is tag.ForReady (ForReady line select name words) = Unit {0}
Is tag.ForBody (ForBody line select name words) = Unit {0}
Is tag.ForArithmeticNone (ForArithmetic line parts) = parts ≡ []
Is tag.ForArithmeticOne (ForArithmetic line parts) = (a : Option Arith) × (parts ≡ a ∷ [])
Is tag.ForArithmeticTwo (ForArithmetic line parts) = (a b : Option Arith) × (parts ≡ a ∷ b ∷ [])
Is tag.ForArithmeticThree (ForArithmetic line parts) = (a b c : Option Arith) × (parts ≡ a ∷ b ∷ c ∷ [])
Is tag.ForArithmeticBody (ForArithmeticBody line parts) = (a b c : Option Arith) × (parts ≡ a ∷ b ∷ c ∷ [])
Is tag.Case (Opened (opening.Case line)) = Unit {0}
Is tag.CaseWord (CaseWord line word) = Unit {0}
Is tag.Cases (Cases line word items) = Unit {0}
Is tag.Patterns (Patterns words) = Unit {0}
Is tag.Function (Opened (opening.Function at line)) = Unit {0}
Is tag.FunctionName (FunctionName at line own_scope name) = Unit {0}
Is tag.Defined (Defined line f) = Unit {0}
Is tag.ConditionCommand (Opened (opening.ConditionCommand line)) = Unit {0}
Is tag.Nested (Opened opening.Nested) = Unit {0}
Is tag.Terms (Terms alternatives terms negated) = Unit {0}
Is tag.OperandsNone (Operands words) = words ≡ []
Is tag.OperandsOne (Operands words) = (word : List Piece) × (words ≡ word ∷ [])
Is tag.OperandsUnary (Operands words) = (word : List Piece) × (words ≡ word ∷ []) × IsUnary word
Is tag.OperandsBinary (Operands words) = (left word : List Piece) × (words ≡ left ∷ word ∷ []) × IsBinary word
Is tag.OperandsBoth (Operands words) = (left word : List Piece) × (words ≡ left ∷ word ∷ []) × IsUnary left × IsBinary word
Is tag.Operands (Operands words) = (test : Test) × (test_of words ≡ Some test)
Is tag.Tested (Tested test) = Unit {0}
Is tag.Value (Value es) = Unit {0}
Is tag.ValueWord (Value es) = (front : List Entry) × (e : Entry) × (es ≡ front ++ e ∷ []) × IsNameEntry e
Is tag.ValueNamed (Value es) = (front : List Entry) × (e last : Entry) × (es ≡ front ++ e ∷ last ∷ []) × IsNameEntry e × IsNameEntry last
Is tag.ValueTypeset (Value es) = (front : List Entry) × (e : Entry) × (es ≡ front ++ e ∷ entry.Typeset ∷ []) × IsNameEntry e
Is tag.ValueBroken (Value es) = (front gap : List Entry) × (e named : Entry) × (name : List ℕ) × (es ≡ front ++ e ∷ named ∷ gap) × IsNameEntry e
    × IsWordOf named name × (all_names (names_of name) ≡ true) × (are_breaks gap ≡ true)
Is tag.MemberBody (Opened opening.MemberBody) = Unit {0}
Is tag.Keyed (Keyed ps) = Unit {0}
Is _ f = ⊥

-- frames have these tags, the innermost first
abbrev pub Fits : List Tag → List Frame → Type 0
Fits [] [] = Unit {0}
Fits (t ∷ ts) (f ∷ fs) = Is t f × Fits ts fs
Fits ts fs = ⊥

-- the step does to the tags what the row says, and always where it fits, unless memory runs out
abbrev pub Moves : {A : Type 0} → Row → List Frame → List Frame → Result A Unbuilt → Type 0
Moves r old new (Ok a) = (rest : List Tag) → Fits (r.0 ++ rest) old → Fits (r.1 ++ rest) new
Moves r old new (Err unbuilt.Stray) = (rest : List Tag) → Fits (r.0 ++ rest) old → ⊥
Moves r old new (Err unbuilt.Memory) = Unit {0}

-- what a token opens: a compound command, or a function
abbrev pub opens : Kind → Option Tag
opens kind.LeftBrace = Some tag.Group
opens kind.Open = Some tag.Subshell
opens kind.DoubleParenthesis = Some tag.ArithmeticCommand
opens kind.LeftBrackets = Some tag.ConditionCommand
opens kind.If = Some tag.If
opens kind.While = Some tag.Loop
opens kind.Until = Some tag.Loop
opens kind.For = Some tag.ForLoop
opens kind.Select = Some tag.ForSelect
opens kind.Case = Some tag.Case
opens kind.Function = Some tag.Function
opens _ = None
