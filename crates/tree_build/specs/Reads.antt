-- The tree of a script: which tokens each part of it is read from.
--
-- `Reads from to part`: where these tokens are left to be heard at the part's start, and those behind it, what stands between is read
-- as that part, whole or as far as it goes. So the rules below are those of the grammar, each with what it makes.
use Rattle.std.specs.Prelude.{◌≡◌, ℕ, ◌+◌, ◌-◌, Bool, true, false, not, List, [], ◌∷◌, ◌++◌, length, Option, Some, None, take, drop, if◌then◌else◌, codes}
use Rattle.ksh_ast.specs.declared.kinds.SubstKind.{SubstKind}
use Rattle.ksh_ast.specs.declared.redirect.Redirect.{Redirect}
use Rattle.ksh_ast.specs.declared.redirect.RedirectForm.{RedirectForm}
use Rattle.ksh_ast.specs.declared.redirect.RedirectForm.TheVariants.{HereDoc}
use Rattle.ksh_ast.specs.declared.redirect.RedirectTo.{RedirectTo}
use Rattle.ksh_ast.specs.declared.tree.Argument.{Argument}
use Rattle.ksh_ast.specs.declared.tree.Argument.TheVariants as argument
use Rattle.ksh_ast.specs.declared.tree.Arith.{Arith}
use Rattle.ksh_ast.specs.declared.tree.Arm.{Arm}
use Rattle.ksh_ast.specs.declared.tree.Assign.{Assign}
use Rattle.ksh_ast.specs.declared.tree.CaseItem.{CaseItem, roll-CaseItem}
use Rattle.ksh_ast.specs.declared.tree.Command.{Command}
use Rattle.ksh_ast.specs.declared.tree.Command.TheVariants as command
use Rattle.ksh_ast.specs.declared.tree.FunctionDef.{FunctionDef}
use Rattle.ksh_ast.specs.declared.tree.Item.{Item}
use Rattle.ksh_ast.specs.declared.tree.Link.{Link}
use Rattle.ksh_ast.specs.declared.tree.Pair.{Pair}
use Rattle.ksh_ast.specs.declared.tree.Param.{Param}
use Rattle.ksh_ast.specs.declared.tree.ParamForm.{ParamForm}
use Rattle.ksh_ast.specs.declared.tree.ParamForm.TheVariants as made
use Rattle.ksh_ast.specs.declared.tree.ParamOf.{ParamOf}
use Rattle.ksh_ast.specs.declared.tree.ParamOf.TheVariants as of
use Rattle.ksh_ast.specs.declared.tree.Piece.{Piece}
use Rattle.ksh_ast.specs.declared.tree.Piece.TheVariants as piece
use Rattle.ksh_ast.specs.declared.tree.Term.{Term}
use Rattle.ksh_ast.specs.declared.tree.Test.{Test}
use Rattle.ksh_ast.specs.declared.tree.Test.TheVariants as test
use Rattle.ksh_ast.specs.declared.tree.TreePart.{TreePart}
use Rattle.ksh_ast.specs.declared.tree.TreePart.TheVariants as part
use Rattle.ksh_ast.specs.declared.tree.TreePath.{TreePath}
use Rattle.ksh_kinds.specs.Words.{path_front}
use Rattle.ksh_lexer.specs.declared.kind.Descriptor.{Descriptor}
use Rattle.ksh_lexer.specs.declared.kind.Form.{Form}
use Rattle.ksh_lexer.specs.declared.kind.Redirection.{Redirection as Operator}
use Rattle.ksh_lexer.specs.declared.kind.TokenKind.TheVariants as token
use Rattle.ksh_lexer.specs.EndWord.{end_word}
use Rattle.ksh_syntax.specs.declared.kind.Kind.{Kind}
use Rattle.ksh_syntax.specs.declared.kind.Kind.TheVariants as kind
use Rattle.ksh_syntax.specs.declared.part.Mark.{Mark}
use Rattle.ksh_syntax.specs.declared.part.Mark.TheVariants as mark
use Rattle.tree_parts.specs.declared.asked.Asked.{Asked}
use Rattle.tree_parts.specs.declared.asked.Asked.TheVariants as asked
use Rattle.tree_parts.specs.declared.entry.Entry.{Entry}
use Rattle.tree_parts.specs.declared.entry.Entry.TheVariants as entry
use Rattle.tree_build.specs.Frame.{Frame, Text, Bracket, Subscript, Braces, Parameter, Formed, Substitution, Arithmetic, WordStart, Whole, Target, Element, Assigning, Assigned, Redirection, HereOperator, HereWord, HereBody, Redirected, Simple, Compound, Finished, Stages, Piped, NoLink, Linked, Chain, Lines, Listed, Group, Subshell, ArithmeticCommand, If, Then, Else, Loop, LoopBody, For, ForName, ForWords, ForReady, ForBody, ForArithmetic, ForArithmeticBody, Case, CaseWord, Cases, Patterns, Function, FunctionName, Defined, ConditionCommand, Nested, Terms, Operands, Tested, Value, MemberBody, Keyed}
use Rattle.tree_parts.specs.declared.sign.Sign.{Sign}
use Rattle.tree_parts.specs.declared.sign.Moment.{Moment}
use Rattle.tree_build.specs.Heard.{Heard, Lexed, Marked, BodyBegins, BodyEnds}
use Rattle.tree_parts.specs.Literals.{from_place, joined, literal, literal_of, quotes, with_literal}
use Rattle.tree_parts.specs.Parts.{adds, arith_of, assign, assignment_of, ended_by, formed, is_newline, item, joins, names_of, negated, opens_list, part_of_for, path_of, path_word, piped, plain_form, prefix_of, redirect_form, redirect_to, redirection, simple_param, subst_kind, test_of, with_part, with_redirects}
use Rattle.tree_build.specs.Tables.{assigns, closes, ends_item, ends_part, is_assignment, is_silent_mark, is_special, is_word, opens_bracket, starts_word}
use Rattle.tree_build.specs.Places.{place_of}
use Rattle.tree_build.specs.Silent.{is_silent, opened}
use Rattle.tree_parts.specs.Values.{value_of}

-- the bytes of the script from one place to another
abbrev pub slice : List ℕ → ℕ → ℕ → List ℕ
slice script from to = take (to - from) (drop from script)

abbrev pub definition : List (List ℕ) → Bool → List Item → List ℕ → FunctionDef (List Item)
definition name own_scope body text = record { name = name; own_scope = own_scope; body = body; text = text }

-- `for`, or `select`
abbrev pub repeated : Bool → List ℕ → Option (List (List Piece)) → List Item → Command
repeated false name words body = command.For name words body []
repeated true name words body = command.Select name words body []

abbrev pub arm : List Item → List Item → Arm (List Item)
arm test body = record { test = test; body = body }

abbrev pub case_item : List (List Piece) → List Item → Bool → CaseItem
case_item patterns body falls = roll-CaseItem (record { patterns = patterns; body = body; falls = falls })

abbrev pub link : Bool → Command → Link Command
link or c = record { or = or; command = c }

abbrev pub expansion : ParamOf → ParamForm → Bool → Piece
expansion p f quoted = piece.Expand (record { of = p; form = f }) quoted

abbrev pub joined_or_each : Bool → TreePart
joined_or_each true = part.Joined
joined_or_each false = part.Each

-- newlines and `;` between the entries of a value
abbrev pub breaks : Kind → Bool
breaks kind.Semicolon = true
breaks k = is_newline k

-- an entry that is such a word
abbrev pub word_entry : List ℕ → ℕ → Entry
word_entry bytes from = entry.Word (literal bytes false) from

-- nothing but newlines and `;`
abbrev pub are_breaks : List Entry → Bool
are_breaks [] = true
are_breaks (entry.Break ∷ es) = are_breaks es
are_breaks _ = false

-- an entry is such a word, or the word `typeset`
abbrev pub IsWordOf : Entry → List ℕ → Type 0
IsWordOf (entry.Word ps at) bytes = ps ≡ literal bytes false
IsWordOf entry.Typeset bytes = bytes ≡ codes "typeset"
IsWordOf _ bytes = ⊥

-- behind the entries stand a word, which begins at a place, the name of a function, and newlines
abbrev pub EndsWithFunction : List Entry → List Entry → ℕ → List (List ℕ) → Type 0
EndsWithFunction all front from names = (word : List ℕ) × (named : Entry) × (name : List ℕ) × (gap : List Entry)
    × (all ≡ front ++ word_entry word from ∷ named ∷ gap) × IsWordOf named name × (are_breaks gap ≡ true) × (names ≡ names_of name)

module _ (script : List ℕ) where
  pub data Reads : List Heard → List Heard → Frame → Type 0 where
    -- what says nothing of the tree
    silent : {p q : List Heard} (s : Sign) (b : List ℕ) (f : Frame) → Reads p (Lexed s b ∷ q) f → is_silent s.kind (place_of f) ≡ true → Reads p q f
    silent_mark : {p q : List Heard} (k : Mark) (m : Moment) (f : Frame) → Reads p (Marked k m ∷ q) f → is_silent_mark k ≡ true → Reads p q f
    -- pieces of a text
    no_piece : {q : List Heard} → Reads q q (Text [])
    literal_piece : {p q : List Heard} (s : Sign) (b : List ℕ) (text : List ℕ) (quoted : Bool) (ps : List Piece) → Reads p (Lexed s b ∷ q) (Text ps) → literal_of s b ≡ Some (text, quoted) → Reads p q (Text (with_literal ps text quoted))
    simple_expansion : {p q : List Heard} (s : Sign) (b : List ℕ) (at : ℕ) (ps : List Piece) → Reads p (Lexed s b ∷ q) (Text ps) → s.token ≡ token.Expand at → Reads p q (Text (ps ++ expansion (simple_param (from_place s at b)) made.Plain (quotes s.mode) ∷ []))
    plain_expansion : {p q r : List Heard} (s : Sign) (b : List ℕ) (ps : List Piece) (quoted : Bool) (a : Asked) (of : ParamOf) → Reads p r (Text ps) → Reads r (Lexed s b ∷ q) (Parameter quoted a of) → s.kind ≡ kind.Close → Reads p q (Text (ps ++ expansion of (plain_form a) quoted ∷ []))
    formed_expansion : {p q r t : List Heard} (s : Sign) (b : List ℕ) (ps qs : List Piece) (quoted : Bool) (of : ParamOf) (form : Form) (first : Option (List Piece)) (made : ParamForm) → Reads p r (Text ps) → Reads r t (Formed quoted of form first) → Reads t (Lexed s b ∷ q) (Text qs) → s.kind ≡ kind.Close → formed form first qs ≡ Some made → Reads p q (Text (ps ++ expansion of made quoted ∷ []))
    substitution : {p q r t : List Heard} (s : Sign) (b : List ℕ) (ps : List Piece) (quoted : Bool) (sk : SubstKind) (is : List Item) → Reads p r (Text ps) → Reads r t (Substitution quoted sk) → Reads t (Lexed s b ∷ q) (Listed is) → closes sk s.kind ≡ true → Reads p q (Text (ps ++ piece.Subst is (subst_kind sk is) quoted ∷ []))
    number : {p q r t : List Heard} (s : Sign) (b : List ℕ) (ps qs : List Piece) (quoted : Bool) (e : Arith) → Reads p r (Text ps) → Reads r t (Arithmetic quoted) → Reads t (Lexed s b ∷ q) (Text qs) → s.kind ≡ kind.Close → arith_of qs ≡ e → Reads p q (Text (ps ++ piece.Number e quoted ∷ []))
    -- what opens within a text
    opens_substitution : {q : List Heard} (s : Sign) (b : List ℕ) (sk : SubstKind) → opens_list s.kind ≡ Some sk → Reads (Lexed s b ∷ q) q (Substitution (quotes s.mode) sk)
    opens_arithmetic : {q : List Heard} (s : Sign) (b : List ℕ) → s.kind ≡ kind.OpenArithmetic → Reads (Lexed s b ∷ q) q (Arithmetic (quotes s.mode))
    opens_braces : {q : List Heard} (s : Sign) (b : List ℕ) → s.kind ≡ kind.OpenParameter → Reads (Lexed s b ∷ q) q (Braces (quotes s.mode) asked.Value)
    -- parameters in braces
    length_of : {p q : List Heard} (s : Sign) (b : List ℕ) (quoted : Bool) → Reads p (Lexed s b ∷ q) (Braces quoted asked.Value) → s.kind ≡ kind.Length → Reads p q (Braces quoted asked.Length)
    target_of : {p q : List Heard} (s : Sign) (b : List ℕ) (quoted : Bool) → Reads p (Lexed s b ∷ q) (Braces quoted asked.Value) → s.kind ≡ kind.Target → Reads p q (Braces quoted asked.Target)
    named : {p q : List Heard} (s : Sign) (b : List ℕ) (quoted : Bool) (a : Asked) → Reads p (Lexed s b ∷ q) (Braces quoted a) → s.kind ≡ kind.Name → Reads p q (Parameter quoted a (of.Var (record { name = b; parts = [] })))
    special : {p q : List Heard} (s : Sign) (b : List ℕ) (quoted : Bool) (a : Asked) → Reads p (Lexed s b ∷ q) (Braces quoted a) → is_special s.kind ≡ true → Reads p q (Parameter quoted a (of.Special b))
    member : {p q : List Heard} (s : Sign) (b : List ℕ) (at : ℕ) (quoted : Bool) (a : Asked) (path : TreePath) → Reads p (Lexed s b ∷ q) (Parameter quoted a (of.Var path)) → s.token ≡ token.Member at → Reads p q (Parameter quoted a (of.Var (with_part path (part.Member (from_place s at b)))))
    all_items : {p q : List Heard} (s : Sign) (b : List ℕ) (joined : Bool) (quoted : Bool) (a : Asked) (path : TreePath) → Reads p (Lexed s b ∷ q) (Parameter quoted a (of.Var path)) → s.token ≡ token.Items joined → Reads p q (Parameter quoted a (of.Var (with_part path (joined_or_each joined))))
    subscript : {p q r : List Heard} (s : Sign) (b : List ℕ) (ps : List Piece) (quoted : Bool) (a : Asked) (path : TreePath) → Reads p r (Parameter quoted a (of.Var path)) → Reads r (Lexed s b ∷ q) (Subscript ps) → s.kind ≡ kind.Close → Reads p q (Parameter quoted a (of.Var (with_part path (part.Sub ps))))
    names_with_prefix : {p q : List Heard} (s : Sign) (b : List ℕ) (quoted : Bool) (path : TreePath) → Reads p (Lexed s b ∷ q) (Parameter quoted asked.Target (of.Var path)) → s.kind ≡ kind.Prefix → Reads p q (Parameter quoted asked.Value (of.Prefix (prefix_of path)))
    with_form : {p q : List Heard} (s : Sign) (b : List ℕ) (quoted : Bool) (of : ParamOf) (form : Form) → Reads p (Lexed s b ∷ q) (Parameter quoted asked.Value of) → s.token ≡ token.Form form → Reads p q (Formed quoted of form None)
    with_first_text : {p q r : List Heard} (s : Sign) (b : List ℕ) (ps : List Piece) (quoted : Bool) (of : ParamOf) (form : Form) → Reads p r (Formed quoted of form None) → Reads r (Lexed s b ∷ q) (Text ps) → s.kind ≡ kind.Separator → Reads p q (Formed quoted of form (Some ps))
    -- subscripts
    opens_subscript : {q : List Heard} (s : Sign) (b : List ℕ) → opens_bracket s.kind ≡ true → Reads (Lexed s b ∷ q) q Bracket
    subscript_text : {p q r : List Heard} (m : Moment) (ps : List Piece) → Reads p r Bracket → Reads r (Marked mark.SubscriptEnds m ∷ q) (Text ps) → Reads p q (Subscript ps)
    -- words
    word_starts : {q : List Heard} (s : Sign) (b : List ℕ) (n : Bool) → starts_word s.kind ≡ Some n → Reads (Lexed s b ∷ q) q (WordStart s.from n)
    word : {p q r : List Heard} (s : Sign) (b : List ℕ) (from : ℕ) (n : Bool) (ps : List Piece) → Reads p r (WordStart from n) → Reads r (Lexed s b ∷ q) (Text ps) → s.kind ≡ kind.WordEnd → Reads p q (Whole ps from s.from n)
    plain_word : {q : List Heard} (s : Sign) (b : List ℕ) → is_word s.kind ≡ true → Reads (Lexed s b ∷ q) q (Whole (literal b false) s.from s.to (is_assignment s.kind))
    order_word : {q : List Heard} (s : Sign) (b : List ℕ) → s.kind ≡ kind.Order → Reads (Lexed s b ∷ q) q (Whole (literal b false) s.from s.to false)
    element_word : {p q r : List Heard} (s : Sign) (b : List ℕ) (from : ℕ) (path : TreePath) (ps : List Piece) → Reads p r (Element from path) → Reads r (Lexed s b ∷ q) (Text ps) → s.kind ≡ kind.WordEnd → Reads p q (Whole (joined (path_word path) ps) from s.from false)
    -- assignments
    assignment_word : {p q : List Heard} (from to : ℕ) (ps : List Piece) (a : Assign) → Reads p q (Whole ps from to true) → assignment_of ps ≡ Some a → Reads p q (Assigned a)
    -- a quote or an expansion stands before its `=`
    assigns_nothing : {p q : List Heard} (from to : ℕ) (ps : List Piece) → Reads p q (Whole ps from to true) → assignment_of ps ≡ None → Reads p q (Whole ps from to false)
    element : {q : List Heard} (s : Sign) (b : List ℕ) → s.kind ≡ kind.Element → Reads (Lexed s b ∷ q) q (Target s.from (path_of b))
    element_member : {p q : List Heard} (s : Sign) (b : List ℕ) (at from : ℕ) (path : TreePath) → Reads p (Lexed s b ∷ q) (Target from path) → s.token ≡ token.Member at → Reads p q (Target from (with_part path (part.Member (from_place s at b))))
    element_subscript : {p q r : List Heard} (s : Sign) (b : List ℕ) (from : ℕ) (ps : List Piece) (path : TreePath) → Reads p r (Target from path) → Reads r (Lexed s b ∷ q) (Subscript ps) → s.kind ≡ kind.Close → Reads p q (Target from (with_part path (part.Sub ps)))
    no_assignment : {p q : List Heard} (s : Sign) (b : List ℕ) (from : ℕ) (path : TreePath) → Reads p (Lexed s b ∷ q) (Target from path) → s.kind ≡ kind.Otherwise → Reads p q (Element from path)
    assigns_element : {p q : List Heard} (s : Sign) (b : List ℕ) (from : ℕ) (n : Bool) (path : TreePath) → Reads p (Lexed s b ∷ q) (Target from path) → assigns s.token ≡ Some n → Reads p q (Assigning path n)
    assigns_value : {q : List Heard} (s : Sign) (b : List ℕ) → s.kind ≡ kind.ValueOpen → Reads (Lexed s b ∷ q) q (Assigning (path_of (path_front b)) (adds b))
    assigned_word : {p q r : List Heard} (s : Sign) (b : List ℕ) (n : Bool) (ps : List Piece) (path : TreePath) → Reads p r (Assigning path n) → Reads r (Lexed s b ∷ q) (Text ps) → s.kind ≡ kind.WordEnd → Reads p q (Assigned (assign path n ps))
    assigned_value : {p q r : List Heard} (s : Sign) (b : List ℕ) (n : Bool) (path : TreePath) (es : List Entry) → Reads p r (Assigning path n) → Reads r (Lexed s b ∷ q) (Value es) → s.kind ≡ kind.Close → Reads p q (Assigned (record { path = path; append = n; value = value_of es }))
    -- redirections
    redirects : {q : List Heard} (s : Sign) (b : List ℕ) (o : Operator) (d : Descriptor) (rf : RedirectForm) → s.token ≡ token.Redirect o d → redirect_form o ≡ Some rf → Reads (Lexed s b ∷ q) q (Redirection (redirect_to d s.from b) rf)
    redirects_here : {q : List Heard} (s : Sign) (b : List ℕ) (o : Operator) (d : Descriptor) → s.token ≡ token.Redirect o d → s.kind ≡ kind.HereRedirect → Reads (Lexed s b ∷ q) q (HereOperator (redirect_to d s.from b))
    redirected : {p q r : List Heard} (from to : ℕ) (n : Bool) (ps : List Piece) (rt : RedirectTo) (rf : RedirectForm) → Reads p r (Redirection rt rf) → Reads r q (Whole ps from to n) → Reads p q (Redirected (redirection rt rf ps))
    here_word : {p q r : List Heard} (from to : ℕ) (n : Bool) (ps : List Piece) (rt : RedirectTo) → Reads p r (HereOperator rt) → Reads r q (Whole ps from to n) → Reads p q (HereWord rt (end_word (slice script from to)))
    here_body : {p q : List Heard} (rt : RedirectTo) (end : List ℕ) → Reads p (BodyBegins ∷ q) (HereWord rt end) → Reads p q (HereBody rt end)
    here_document : {p q r : List Heard} (rt : RedirectTo) (end : List ℕ) (ps : List Piece) → Reads p r (HereBody rt end) → Reads r (BodyEnds ∷ q) (Text ps) → Reads p q (Redirected (redirection rt (HereDoc end) ps))
    -- simple commands
    simple_begins : {q : List Heard} (m : Moment) → Reads (Marked mark.SimpleBegins m ∷ q) q (Simple m.from m.line [] [] [])
    simple_word : {p q r : List Heard} (at line : ℕ) (given : List Assign) (ws : List Argument) (rs : List (Redirect (List Piece))) (from to : ℕ) (ps : List Piece) → Reads p r (Simple at line given ws rs) → Reads r q (Whole ps from to false) → Reads p q (Simple at line given (ws ++ argument.Word ps ∷ []) rs)
    first_assignment : {p q r : List Heard} (at line : ℕ) (given : List Assign) (rs : List (Redirect (List Piece))) (a : Assign) → Reads p r (Simple at line given [] rs) → Reads r q (Assigned a) → Reads p q (Simple at line (given ++ a ∷ []) [] rs)
    later_assignment : {p q r : List Heard} (at line : ℕ) (given : List Assign) (ws : List Argument) (rs : List (Redirect (List Piece))) (w : Argument) (a : Assign) → Reads p r (Simple at line given (w ∷ ws) rs) → Reads r q (Assigned a) → Reads p q (Simple at line given ((w ∷ ws) ++ argument.Assign a ∷ []) rs)
    simple_redirection : {p q r : List Heard} (at line : ℕ) (given : List Assign) (ws : List Argument) (rs : List (Redirect (List Piece))) (rd : Redirect (List Piece)) → Reads p r (Simple at line given ws rs) → Reads r q (Redirected rd) → Reads p q (Simple at line given ws (rs ++ rd ∷ []))
    simple : {p q : List Heard} (at line : ℕ) (given : List Assign) (ws : List Argument) (rs : List (Redirect (List Piece))) (m : Moment) → Reads p (Marked mark.SimpleEnds m ∷ q) (Simple at line given ws rs) → Reads p q (Finished line (command.Simple given ws rs))
    -- pipelines and lists
    pipeline_begins : {q : List Heard} (m : Moment) → Reads (Marked mark.PipelineBegins m ∷ q) q (Stages m.line false [])
    bang : {p q : List Heard} (s : Sign) (b : List ℕ) (line : ℕ) → Reads p (Lexed s b ∷ q) (Stages line false []) → s.kind ≡ kind.Bang → Reads p q (Stages line true [])
    stage : {p q r : List Heard} (s : Sign) (b : List ℕ) (line own : ℕ) (n : Bool) (ms : List (List Item)) (c : Command) → Reads p r (Stages line n ms) → Reads r (Lexed s b ∷ q) (Finished own c) → s.kind ≡ kind.Bar → Reads p q (Stages line n (ms ++ (item own c ∷ []) ∷ []))
    pipeline : {p q r : List Heard} (line own : ℕ) (n : Bool) (ms : List (List Item)) (c : Command) → Reads p r (Stages line n ms) → Reads r q (Finished own c) → Reads p q (Piped line (negated n (piped ms own c)))
    chain_begins : {q : List Heard} (m : Moment) → Reads (Marked mark.AndOrBegins m ∷ q) q NoLink
    first_link : {p q r : List Heard} (s : Sign) (b : List ℕ) (line : ℕ) (c : Command) (or : Bool) → Reads p r NoLink → Reads r (Lexed s b ∷ q) (Piped line c) → joins s.kind ≡ Some or → Reads p q (Linked line c [] or)
    next_link : {p q r : List Heard} (s : Sign) (b : List ℕ) (line own : ℕ) (c d : Command) (links : List (Link Command)) (or then_or : Bool) → Reads p r (Linked line c links or) → Reads r (Lexed s b ∷ q) (Piped own d) → joins s.kind ≡ Some then_or → Reads p q (Linked line c (links ++ link or d ∷ []) then_or)
    one_pipeline : {p q r : List Heard} (line : ℕ) (c : Command) → Reads p r NoLink → Reads r q (Piped line c) → Reads p q (Chain line c)
    pipelines : {p q r : List Heard} (line own : ℕ) (c d : Command) (links : List (Link Command)) (or : Bool) → Reads p r (Linked line c links or) → Reads r q (Piped own d) → Reads p q (Chain line (command.AndOr c (links ++ link or d ∷ [])))
    no_line : {q : List Heard} → Reads q q (Lines [])
    ended_line : {p q r : List Heard} (s : Sign) (b : List ℕ) (line : ℕ) (c d : Command) (is : List Item) → Reads p r (Lines is) → Reads r (Lexed s b ∷ q) (Chain line c) → ended_by s.kind line c ≡ Some d → Reads p q (Lines (is ++ item line d ∷ []))
    list : {p q : List Heard} (m : Moment) (is : List Item) → Reads p (Marked mark.ListEnds m ∷ q) (Lines is) → Reads p q (Listed is)
    list_and_one : {p q r : List Heard} (m : Moment) (line : ℕ) (c : Command) (is : List Item) → Reads p r (Lines is) → Reads r (Marked mark.ListEnds m ∷ q) (Chain line c) → Reads p q (Listed (is ++ item line c ∷ []))
    -- compound commands
    opens : {q : List Heard} (s : Sign) (b : List ℕ) (f : Frame) → opened s.kind s.from s.line ≡ Some f → Reads (Lexed s b ∷ q) q f
    compound_redirection : {p q r : List Heard} (line : ℕ) (c : Command) (rs : List (Redirect (List Piece))) (rd : Redirect (List Piece)) → Reads p r (Compound line c rs) → Reads r q (Redirected rd) → Reads p q (Compound line c (rs ++ rd ∷ []))
    compound : {p q : List Heard} (m : Moment) (line : ℕ) (c d : Command) (rs : List (Redirect (List Piece))) → Reads p (Marked mark.CompoundEnds m ∷ q) (Compound line c rs) → with_redirects c rs ≡ Some d → Reads p q (Finished line d)
    group : {p q r : List Heard} (s : Sign) (b : List ℕ) (line : ℕ) (is : List Item) → Reads p r (Group line) → Reads r (Lexed s b ∷ q) (Listed is) → s.kind ≡ kind.RightBrace → Reads p q (Compound line (command.Group is []) [])
    subshell : {p q r : List Heard} (s : Sign) (b : List ℕ) (line : ℕ) (is : List Item) → Reads p r (Subshell line) → Reads r (Lexed s b ∷ q) (Listed is) → s.kind ≡ kind.Close → Reads p q (Compound line (command.Subshell is []) [])
    arithmetic_command : {p q r : List Heard} (s : Sign) (b : List ℕ) (line : ℕ) (ps : List Piece) (e : Arith) → Reads p r (ArithmeticCommand line) → Reads r (Lexed s b ∷ q) (Text ps) → s.kind ≡ kind.Close → arith_of ps ≡ e → Reads p q (Compound line (command.Arith e []) [])
    condition_command : {p q r : List Heard} (s : Sign) (b : List ℕ) (line : ℕ) (alternatives : List (List Term)) (terms : List Term) (n : Bool) → Reads p r (ConditionCommand line) → Reads r (Lexed s b ∷ q) (Terms alternatives terms n) → s.kind ≡ kind.RightBrackets → Reads p q (Compound line (command.Cond (alternatives ++ terms ∷ []) []) [])
    arm_test : {p q r : List Heard} (s : Sign) (b : List ℕ) (line : ℕ) (arms : List (Arm (List Item))) (is : List Item) → Reads p r (If line arms) → Reads r (Lexed s b ∷ q) (Listed is) → s.kind ≡ kind.Then → Reads p q (Then line arms is)
    next_arm : {p q r : List Heard} (s : Sign) (b : List ℕ) (line : ℕ) (arms : List (Arm (List Item))) (condition is : List Item) → Reads p r (Then line arms condition) → Reads r (Lexed s b ∷ q) (Listed is) → s.kind ≡ kind.Elif → Reads p q (If line (arms ++ arm condition is ∷ []))
    last_arm : {p q r : List Heard} (s : Sign) (b : List ℕ) (line : ℕ) (arms : List (Arm (List Item))) (condition is : List Item) → Reads p r (Then line arms condition) → Reads r (Lexed s b ∷ q) (Listed is) → s.kind ≡ kind.Else → Reads p q (Else line (arms ++ arm condition is ∷ []))
    if_ends : {p q r : List Heard} (s : Sign) (b : List ℕ) (line : ℕ) (arms : List (Arm (List Item))) (condition is : List Item) → Reads p r (Then line arms condition) → Reads r (Lexed s b ∷ q) (Listed is) → s.kind ≡ kind.Fi → Reads p q (Compound line (command.If (arms ++ arm condition is ∷ []) None []) [])
    else_ends : {p q r : List Heard} (s : Sign) (b : List ℕ) (line : ℕ) (arms : List (Arm (List Item))) (is : List Item) → Reads p r (Else line arms) → Reads r (Lexed s b ∷ q) (Listed is) → s.kind ≡ kind.Fi → Reads p q (Compound line (command.If arms (Some is) []) [])
    loop_test : {p q r : List Heard} (s : Sign) (b : List ℕ) (line : ℕ) (n : Bool) (is : List Item) → Reads p r (Loop line n) → Reads r (Lexed s b ∷ q) (Listed is) → s.kind ≡ kind.Do → Reads p q (LoopBody line n is)
    loop_ends : {p q r : List Heard} (s : Sign) (b : List ℕ) (line : ℕ) (n : Bool) (condition is : List Item) → Reads p r (LoopBody line n condition) → Reads r (Lexed s b ∷ q) (Listed is) → s.kind ≡ kind.Done → Reads p q (Compound line (command.Loop n condition is []) [])
    for_name : {p q : List Heard} (s : Sign) (b : List ℕ) (line : ℕ) (n : Bool) → Reads p (Lexed s b ∷ q) (For line n) → is_word s.kind ≡ true → Reads p q (ForName line n b)
    for_in : {p q : List Heard} (s : Sign) (b : List ℕ) (line : ℕ) (n : Bool) (name : List ℕ) → Reads p (Lexed s b ∷ q) (ForName line n name) → s.kind ≡ kind.In → Reads p q (ForWords line n name [])
    for_word : {p q r : List Heard} (line : ℕ) (n : Bool) (name : List ℕ) (ws : List (List Piece)) (ps : List Piece) (from to : ℕ) (assigns : Bool) → Reads p r (ForWords line n name ws) → Reads r q (Whole ps from to assigns) → Reads p q (ForWords line n name (ws ++ ps ∷ []))
    for_do : {p q : List Heard} (s : Sign) (b : List ℕ) (line : ℕ) (n : Bool) (name : List ℕ) → Reads p (Lexed s b ∷ q) (ForName line n name) → s.kind ≡ kind.Do → Reads p q (ForBody line n name None)
    for_words_end : {p q : List Heard} (s : Sign) (b : List ℕ) (line : ℕ) (n : Bool) (name : List ℕ) (ws : List (List Piece)) → Reads p (Lexed s b ∷ q) (ForWords line n name ws) → breaks s.kind ≡ true → Reads p q (ForReady line n name ws)
    for_words_do : {p q : List Heard} (s : Sign) (b : List ℕ) (line : ℕ) (n : Bool) (name : List ℕ) (ws : List (List Piece)) → Reads p (Lexed s b ∷ q) (ForReady line n name ws) → s.kind ≡ kind.Do → Reads p q (ForBody line n name (Some ws))
    for_ends : {p q r : List Heard} (s : Sign) (b : List ℕ) (line : ℕ) (n : Bool) (name : List ℕ) (ws : Option (List (List Piece))) (is : List Item) → Reads p r (ForBody line n name ws) → Reads r (Lexed s b ∷ q) (Listed is) → s.kind ≡ kind.Done → Reads p q (Compound line (repeated n name ws is) [])
    for_arithmetic : {p q : List Heard} (s : Sign) (b : List ℕ) (line : ℕ) → Reads p (Lexed s b ∷ q) (For line false) → s.kind ≡ kind.DoubleParenthesis → Reads p q (ForArithmetic line [])
    for_part : {p q r : List Heard} (s : Sign) (b : List ℕ) (line : ℕ) (parts : List (Option Arith)) (part : Option Arith) (ps : List Piece) → Reads p r (ForArithmetic line parts) → Reads r (Lexed s b ∷ q) (Text ps) → ends_part s.kind ≡ true → part_of_for ps ≡ part → Reads p q (ForArithmetic line (parts ++ part ∷ []))
    for_arithmetic_do : {p q : List Heard} (s : Sign) (b : List ℕ) (line : ℕ) (parts : List (Option Arith)) → Reads p (Lexed s b ∷ q) (ForArithmetic line parts) → s.kind ≡ kind.Do → Reads p q (ForArithmeticBody line parts)
    for_arithmetic_ends : {p q r : List Heard} (s : Sign) (b : List ℕ) (line : ℕ) (first condition step : Option Arith) (is : List Item) → Reads p r (ForArithmeticBody line (first ∷ condition ∷ step ∷ [])) → Reads r (Lexed s b ∷ q) (Listed is) → s.kind ≡ kind.Done → Reads p q (Compound line (command.ForArith first condition step is []) [])
    case_word : {p q r : List Heard} (line from to : ℕ) (n : Bool) (ps : List Piece) → Reads p r (Case line) → Reads r q (Whole ps from to n) → Reads p q (CaseWord line ps)
    case_in : {p q : List Heard} (s : Sign) (b : List ℕ) (line : ℕ) (ps : List Piece) → Reads p (Lexed s b ∷ q) (CaseWord line ps) → s.kind ≡ kind.In → Reads p q (Cases line ps [])
    no_pattern : {q : List Heard} → Reads q q (Patterns [])
    one_pattern : {p q r : List Heard} (from to : ℕ) (n : Bool) (ps : List Piece) (ws : List (List Piece)) → Reads p r (Patterns ws) → Reads r q (Whole ps from to n) → Reads p q (Patterns (ws ++ ps ∷ []))
    case_item_ends : {p q r t : List Heard} (s : Sign) (b : List ℕ) (line : ℕ) (ps : List Piece) (items : List CaseItem) (ws : List (List Piece)) (is : List Item) (falls : Bool) → Reads p r (Cases line ps items) → Reads r t (Patterns ws) → Reads t (Lexed s b ∷ q) (Listed is) → ends_item s.kind ≡ Some falls → Reads p q (Cases line ps (items ++ case_item ws is falls ∷ []))
    last_item_ends : {p q r t : List Heard} (s : Sign) (b : List ℕ) (line : ℕ) (ps : List Piece) (items : List CaseItem) (ws : List (List Piece)) (is : List Item) → Reads p r (Cases line ps items) → Reads r t (Patterns ws) → Reads t (Lexed s b ∷ q) (Listed is) → s.kind ≡ kind.Esac → Reads p q (Compound line (command.Case ps (items ++ case_item ws is false ∷ []) []) [])
    case_ends : {p q : List Heard} (s : Sign) (b : List ℕ) (line : ℕ) (ps : List Piece) (items : List CaseItem) → Reads p (Lexed s b ∷ q) (Cases line ps items) → s.kind ≡ kind.Esac → Reads p q (Compound line (command.Case ps items []) [])
    -- functions
    function_name : {p q : List Heard} (s : Sign) (b : List ℕ) (from line : ℕ) → Reads p (Lexed s b ∷ q) (Function from line) → is_word s.kind ≡ true → Reads p q (FunctionName from line true (names_of b))
    name_and_parentheses : {p q : List Heard} (s : Sign) (b : List ℕ) (from line : ℕ) (name : List ℕ) → Reads p (Lexed s b ∷ q) (Simple from line [] (argument.Word (literal name false) ∷ []) []) → s.kind ≡ kind.Open → Reads p q (FunctionName from line false (names_of name))
    function : {p q r : List Heard} (m : Moment) (from line own : ℕ) (n : Bool) (name : List (List ℕ)) (c d : Command) (rs : List (Redirect (List Piece))) → Reads p r (FunctionName from line n name) → Reads r (Marked mark.CompoundEnds m ∷ q) (Compound own c rs) → with_redirects c rs ≡ Some d → Reads p q (Defined line (definition name n (item own d ∷ []) (slice script from m.to)))
    defines : {p q : List Heard} (line : ℕ) (d : FunctionDef (List Item)) → Reads p q (Defined line d) → Reads p q (Finished line (command.Function d))
    -- conditions
    no_term : {q : List Heard} → Reads q q (Terms [] [] false)
    not_term : {p q : List Heard} (s : Sign) (b : List ℕ) (alternatives : List (List Term)) (terms : List Term) (n : Bool) → Reads p (Lexed s b ∷ q) (Terms alternatives terms n) → s.kind ≡ kind.Bang → Reads p q (Terms alternatives terms (not n))
    no_operand : {q : List Heard} → Reads q q (Operands [])
    one_operand : {p q r : List Heard} (from to : ℕ) (n : Bool) (ps : List Piece) (ws : List (List Piece)) → Reads p r (Operands ws) → Reads r q (Whole ps from to n) → Reads p q (Operands (ws ++ ps ∷ []))
    tested : {p q : List Heard} (ws : List (List Piece)) (x : Test) → Reads p q (Operands ws) → test_of ws ≡ Some x → Reads p q (Tested x)
    opens_nested : {q : List Heard} (s : Sign) (b : List ℕ) → s.kind ≡ kind.Open → Reads (Lexed s b ∷ q) q Nested
    nested : {p q r : List Heard} (s : Sign) (b : List ℕ) (alternatives : List (List Term)) (terms : List Term) (n : Bool) → Reads p r Nested → Reads r (Lexed s b ∷ q) (Terms alternatives terms n) → s.kind ≡ kind.Close → Reads p q (Tested (test.Nested (alternatives ++ terms ∷ [])))
    term : {p q r : List Heard} (m : Moment) (alternatives : List (List Term)) (terms : List Term) (n : Bool) (x : Test) → Reads p r (Terms alternatives terms n) → Reads r (Marked mark.TermEnds m ∷ q) (Tested x) → Reads p q (Terms alternatives (terms ++ record { negated = n; test = x } ∷ []) false)
    alternative : {p q : List Heard} (s : Sign) (b : List ℕ) (alternatives : List (List Term)) (terms : List Term) (n : Bool) → Reads p (Lexed s b ∷ q) (Terms alternatives terms n) → s.kind ≡ kind.OrIf → Reads p q (Terms (alternatives ++ terms ∷ []) [] false)
    -- values in parentheses
    opens_value : {q : List Heard} (s : Sign) (b : List ℕ) → s.kind ≡ kind.Open → Reads (Lexed s b ∷ q) q (Value [])
    value_word : {p q r : List Heard} (from to : ℕ) (ps : List Piece) (es : List Entry) → Reads p r (Value es) → Reads r q (Whole ps from to false) → Reads p q (Value (es ++ entry.Word ps from ∷ []))
    value_typeset : {p q : List Heard} (s : Sign) (b : List ℕ) (es : List Entry) → Reads p (Lexed s b ∷ q) (Value es) → s.kind ≡ kind.Typeset → Reads p q (Value (es ++ entry.Typeset ∷ []))
    value_assignment : {p q r : List Heard} (a : Assign) (es : List Entry) → Reads p r (Value es) → Reads r q (Assigned a) → Reads p q (Value (es ++ entry.Assign a ∷ []))
    value_break : {p q : List Heard} (s : Sign) (b : List ℕ) (es : List Entry) → Reads p (Lexed s b ∷ q) (Value es) → breaks s.kind ≡ true → Reads p q (Value (es ++ entry.Break ∷ []))
    key : {p q : List Heard} (s : Sign) (b : List ℕ) (ps : List Piece) → Reads p (Lexed s b ∷ q) (Subscript ps) → s.kind ≡ kind.Close → Reads p q (Keyed ps)
    value_pair : {p q r t : List Heard} (s : Sign) (b : List ℕ) (ps qs : List Piece) (es : List Entry) → Reads p r (Value es) → Reads r t (Keyed ps) → Reads t (Lexed s b ∷ q) (Text qs) → s.kind ≡ kind.WordEnd → Reads p q (Value (es ++ entry.Pair (record { subscript = ps; value = qs }) ∷ []))
    member_name : {p q : List Heard} (s : Sign) (b : List ℕ) (from to : ℕ) (name : List ℕ) → Reads p (Lexed s b ∷ q) (Whole (literal name false) from to false) → s.kind ≡ kind.Open → Reads p q (FunctionName from s.line false (names_of name))
    value_function : {p q r : List Heard} (line : ℕ) (d : FunctionDef (List Item)) (es : List Entry) → Reads p r (Value es) → Reads r q (Defined line d) → Reads p q (Value (es ++ entry.Function d ∷ []))
    member_body : {q : List Heard} (m : Moment) → Reads (Marked mark.MemberBody m ∷ q) q MemberBody
    member_group : {p q : List Heard} (s : Sign) (b : List ℕ) → Reads p (Lexed s b ∷ q) MemberBody → s.kind ≡ kind.LeftBrace → Reads p q (Group s.line)
    value_named_function : {p q r : List Heard} (m : Moment) (from own : ℕ) (names : List (List ℕ)) (es front : List Entry) (c d : Command) (rs : List (Redirect (List Piece))) → Reads p r (Value es) → EndsWithFunction es front from names → Reads r (Marked mark.CompoundEnds m ∷ q) (Compound own c rs) → with_redirects c rs ≡ Some d → Reads p q (Value (front ++ entry.Function (definition names true (item own d ∷ []) (slice script from m.to)) ∷ []))
