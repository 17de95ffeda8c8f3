-- What single tokens and whole texts give.
use Rattle.std.specs.Prelude.{ℕ, ◌-◌, ◌==◌, nat_lt, Bool, true, false, ◌&&◌, ◌||◌, List, [], ◌∷◌, ◌++◌, drop, take, length, map, Option, Some, None, Result, Ok, Err, if◌then◌else◌, codes, bytes_eq}
use Rattle.arith_tree.specs.declared.expr.ArithExpr.{ArithExpr}
use Rattle.ksh_arith.specs.declared.fault.ArithRefused.{ArithRefused}
use Rattle.ksh_arith.specs.Grammar.{is_blank, parsed}
use Rattle.ksh_ast.specs.declared.kinds.BinaryTest.{BinaryTest}
use Rattle.ksh_ast.specs.declared.kinds.BinaryTest.TheVariants as binary
use Rattle.ksh_ast.specs.declared.kinds.Replaced.{Replaced}
use Rattle.ksh_ast.specs.declared.kinds.Replaced.TheVariants as replaced
use Rattle.ksh_ast.specs.declared.kinds.SubstKind.{SubstKind}
use Rattle.ksh_ast.specs.declared.kinds.SubstKind.TheVariants as subst
use Rattle.ksh_ast.specs.declared.kinds.UnaryTest.{UnaryTest}
use Rattle.ksh_ast.specs.declared.kinds.UnaryTest.TheVariants as unary
use Rattle.ksh_ast.specs.declared.redirect.Redirect.{Redirect}
use Rattle.ksh_ast.specs.declared.redirect.RedirectForm.{RedirectForm}
use Rattle.ksh_ast.specs.declared.redirect.RedirectForm.TheVariants as redirect
use Rattle.ksh_ast.specs.declared.redirect.RedirectTo.{RedirectTo}
use Rattle.ksh_ast.specs.declared.redirect.RedirectTo.TheVariants as to
use Rattle.ksh_ast.specs.declared.tree.CaseItem.{CaseItem}
use Rattle.ksh_ast.specs.declared.tree.Argument.{Argument}
use Rattle.ksh_ast.specs.declared.tree.AssignValue.{AssignValue}
use Rattle.ksh_ast.specs.declared.tree.Member.{Member}
use Rattle.ksh_ast.specs.declared.tree.Term.{Term}
use Rattle.ksh_ast.specs.declared.tree.Param.{Param}
use Rattle.ksh_ast.specs.declared.tree.Arith.{Arith}
use Rattle.ksh_ast.specs.declared.tree.Arith.TheVariants as arith
use Rattle.ksh_ast.specs.declared.tree.Assign.{Assign}
use Rattle.ksh_ast.specs.declared.tree.AssignValue.TheVariants as value
use Rattle.ksh_ast.specs.declared.tree.Command.{Command, Command-F, out-Command}
use Rattle.ksh_ast.specs.declared.tree.Command.TheVariants as command
use Rattle.ksh_ast.specs.declared.tree.Item.{Item}
use Rattle.ksh_ast.specs.declared.tree.ParamForm.{ParamForm}
use Rattle.ksh_ast.specs.declared.tree.ParamForm.TheVariants as made
use Rattle.ksh_ast.specs.declared.tree.ParamOf.{ParamOf}
use Rattle.ksh_ast.specs.declared.tree.ParamOf.TheVariants as of
use Rattle.ksh_ast.specs.declared.tree.Piece.{Piece}
use Rattle.ksh_ast.specs.declared.tree.Piece.TheVariants as piece
use Rattle.ksh_ast.specs.declared.tree.Test.{Test}
use Rattle.ksh_ast.specs.declared.tree.Test.TheVariants as test
use Rattle.ksh_ast.specs.declared.tree.TreePart.{TreePart, TreePart-F, out-TreePart}
use Rattle.ksh_ast.specs.declared.tree.TreePart.TheVariants as part
use Rattle.ksh_ast.specs.declared.tree.TreePath.{TreePath}
use Rattle.ksh_base.specs.Name.{dot_sh}
use Rattle.ksh_kinds.specs.Words.{path_front}
use Rattle.ksh_lexer.specs.Bytes.{in_name, starts_name}
use Rattle.ksh_lexer.specs.declared.kind.Descriptor.{Descriptor}
use Rattle.ksh_lexer.specs.declared.kind.Descriptor.TheVariants as descriptor
use Rattle.ksh_lexer.specs.declared.kind.Form.{Form}
use Rattle.ksh_lexer.specs.declared.kind.Form.TheVariants as form
use Rattle.ksh_lexer.specs.declared.kind.Redirection.{Redirection}
use Rattle.ksh_lexer.specs.declared.kind.Redirection.TheVariants as operator
use Rattle.ksh_syntax.specs.declared.kind.Kind.{Kind}
use Rattle.ksh_syntax.specs.declared.kind.Kind.TheVariants as kind
use Rattle.tree_parts.specs.declared.asked.Asked.{Asked}
use Rattle.tree_parts.specs.declared.asked.Asked.TheVariants as asked
use Rattle.tree_parts.specs.Literals.{literal, with_literal, joined}

-- ---- names and paths

abbrev pub are_in_name : List ℕ → Bool
are_in_name [] = true
are_in_name (b ∷ bs) = in_name b && are_in_name bs

-- a letter or `_`, then letters, digits and `_`
abbrev pub is_own_name : List ℕ → Bool
is_own_name [] = false
is_own_name (b ∷ bs) = starts_name b && are_in_name bs

-- the one other name is `.sh`
abbrev pub is_name : List ℕ → Bool
is_name bytes = bytes_eq bytes dot_sh || is_own_name bytes

abbrev pub all_names : List (List ℕ) → Bool
all_names [] = true
all_names (name ∷ names) = is_name name && all_names names

abbrev pub to_first : ℕ → List (List ℕ) → List (List ℕ)
to_first b [] = (b ∷ []) ∷ []
to_first b (name ∷ names) = (b ∷ name) ∷ names

-- what stands between dots
abbrev pub between_dots : List ℕ → List (List ℕ)
between_dots [] = [] ∷ []
between_dots (b ∷ bs) = if b == 46 then [] ∷ between_dots bs else to_first b (between_dots bs)

-- the names of a path: `.sh` is one
abbrev pub names_of : List ℕ → List (List ℕ)
names_of bytes = if bytes_eq (take 4 bytes) (codes ".sh.") then take 3 bytes ∷ between_dots (drop 4 bytes) else between_dots bytes

abbrev pub path_by : List (List ℕ) → TreePath
path_by [] = record { name = []; parts = [] }
path_by (name ∷ names) = record { name = name; parts = map part.Member names }

abbrev pub path_of : List ℕ → TreePath
path_of bytes = path_by (names_of bytes)

abbrev pub with_part : TreePath → TreePart → TreePath
with_part path p = record path { parts = path.parts ++ p ∷ [] }

abbrev pub part_text : List Piece → TreePart-F Argument Arith AssignValue Command Member ParamForm ParamOf Piece Test TreePart Assign CaseItem Item Param Term TreePath → List Piece
part_text ps (TreePart-F.Member name) = with_literal ps (46 ∷ name) false
part_text ps (TreePart-F.Sub word) = with_literal (joined (with_literal ps (91 ∷ []) false) word) (93 ∷ []) false
part_text ps TreePart-F.Each = with_literal ps (codes "[@]") false
part_text ps TreePart-F.Joined = with_literal ps (codes "[*]") false

-- a part of a path as it is written
abbrev pub with_part_text : List Piece → TreePart → List Piece
with_part_text ps p = part_text ps (out-TreePart p)

abbrev pub with_parts_text : List Piece → List TreePart → List Piece
with_parts_text ps [] = ps
with_parts_text ps (p ∷ parts) = with_parts_text (with_part_text ps p) parts

-- the word that a path is where no assignment follows
abbrev pub path_word : TreePath → List Piece
path_word path = with_parts_text (literal path.name false) path.parts

-- ---- assignments

abbrev pub assign : TreePath → Bool → List Piece → Assign
assign path append ps = record { path = path; append = append; value = value.Word ps }

-- a value is assigned to a path alone
abbrev pub assign_to : List ℕ → Bool → List Piece → Option Assign
assign_to path append ps = if all_names (names_of path) then Some (assign (path_of path) append ps) else None

-- behind a `+` behind the path
abbrev pub appended : List ℕ → List ℕ → List Piece → Option Assign
appended path [] ps = None
appended path (b ∷ bs) ps = if b == 61 then assign_to path true (literal bs false ++ ps) else None

-- what stands behind the path: `=` or `+=`, and the front of the value
abbrev pub assigned : List ℕ → List ℕ → List Piece → Option Assign
assigned path [] ps = None
assigned path (b ∷ bs) ps = if b == 61 then assign_to path false (literal bs false ++ ps) else if b == 43 then appended path bs ps else None

-- the assignment that a word is
abbrev pub assignment_of : List Piece → Option Assign
assignment_of (piece.Literal bytes false ∷ ps) = assigned (path_front bytes) (drop (length (path_front bytes)) bytes) ps
assignment_of _ = None

-- `=` or `+=` stands in front
abbrev pub assigns : List ℕ → Bool
assigns [] = false
assigns (b ∷ bs) = b == 61 || (b == 43 && begins_equal bs)
  where
    begins_equal : List ℕ → Bool
    begins_equal [] = false
    begins_equal (c ∷ cs) = c == 61

-- whether a word is an assignment
abbrev pub is_assigned : List Piece → Bool
is_assigned (piece.Literal bytes false ∷ ps) = assigns (drop (length (path_front bytes)) bytes) && all_names (names_of (path_front bytes))
is_assigned _ = false

-- whether bytes end with `+=`
abbrev pub adds : List ℕ → Bool
adds bytes = bytes_eq (drop (length (path_front bytes)) bytes) (codes "+=")

-- ---- parameters

-- what begins like a name is one
abbrev pub is_param : List ℕ → Bool
is_param [] = true
is_param (b ∷ bs) = if starts_name b then is_name (b ∷ bs) else true

-- `$name`, or a special parameter
abbrev pub simple_param : List ℕ → ParamOf
simple_param [] = of.Special []
simple_param (b ∷ bs) = if starts_name b then of.Var (record { name = b ∷ bs; parts = [] }) else of.Special (b ∷ bs)

abbrev pub plain_form : Asked → ParamForm
plain_form asked.Value = made.Plain
plain_form asked.Length = made.Length
plain_form asked.Target = made.Target

abbrev pub replacing : Replaced → Option (List Piece) → List Piece → ParamForm
replacing which None ps = made.Replace which ps []
replacing which (Some pattern) ps = made.Replace which pattern ps

-- what a form with its texts makes, the last of them last
abbrev pub formed : Form → Option (List Piece) → List Piece → Option ParamForm
formed (form.Instead colon) None ps = Some (made.Instead colon ps)
formed (form.Assign colon) None ps = Some (made.Assign colon ps)
formed (form.Fault colon) None ps = Some (made.Fault colon ps)
formed (form.Other colon) None ps = Some (made.Other colon ps)
formed (form.Cut tail longest) None ps = Some (made.Cut tail longest ps)
formed form.Slice None ps = Some (made.Slice ps None)
formed form.Slice (Some from) ps = Some (made.Slice from (Some ps))
formed form.ReplaceFirst first ps = Some (replacing replaced.First first ps)
formed form.ReplaceAll first ps = Some (replacing replaced.All first ps)
formed form.ReplaceFront first ps = Some (replacing replaced.Front first ps)
formed form.ReplaceTail first ps = Some (replacing replaced.Tail first ps)
formed _ _ ps = None

-- ---- substitutions and arithmetic

abbrev pub opens_list : Kind → Option SubstKind
opens_list kind.OpenSubstitution = Some subst.Fork
opens_list kind.Backquote = Some subst.Fork
opens_list kind.OpenCurrent = Some subst.Current
opens_list _ = None

abbrev pub is_input : RedirectForm → RedirectTo → Bool
is_input redirect.Read to.Usual = true
is_input _ _ = false

abbrev pub is_one_input : List (Redirect (List Piece)) → Bool
is_one_input (r ∷ []) = is_input r.form r.to
is_one_input _ = false

abbrev pub reads_by : Command-F Argument Arith AssignValue Command Member ParamForm ParamOf Piece Test TreePart Assign CaseItem Item Param Term TreePath → Bool
reads_by (Command-F.Simple [] [] rs) = is_one_input rs
reads_by _ = false

abbrev pub reads_file : Command → Bool
reads_file c = reads_by (out-Command c)

-- `<file` alone
abbrev pub is_file : List Item → Bool
is_file (i ∷ []) = reads_file i.command
is_file _ = false

abbrev pub subst_kind : SubstKind → List Item → SubstKind
subst_kind subst.Fork is = if is_file is then subst.File else subst.Fork
subst_kind k is = k

abbrev pub expression : Result ArithExpr ArithRefused → Option ArithExpr
expression (Ok e) = Some e
expression (Err e) = None

-- the bytes of a word without quotes and expansions
abbrev pub plain_text : List Piece → Option (List ℕ)
plain_text [] = Some []
plain_text (piece.Literal text false ∷ []) = Some text
plain_text _ = None

-- the expression that a word without quotes and expansions is
abbrev pub expression_if : Option (List ℕ) → Option ArithExpr
expression_if (Some text) = expression (parsed text)
expression_if None = None

abbrev pub plain_expression : List Piece → Option ArithExpr
plain_expression ps = expression_if (plain_text ps)

abbrev pub arith_by : Option ArithExpr → List Piece → Arith
arith_by (Some e) ps = arith.Parsed e
arith_by None ps = arith.Text ps

-- arithmetic that is an expression without quotes and expansions; other is read when it runs
abbrev pub arith_of : List Piece → Arith
arith_of ps = arith_by (plain_expression ps) ps

abbrev pub all_blank : List ℕ → Bool
all_blank [] = true
all_blank (b ∷ bs) = is_blank b && all_blank bs

abbrev pub is_blank_text : Option (List ℕ) → Bool
is_blank_text (Some text) = all_blank text
is_blank_text None = false

abbrev pub left_out : List Piece → Bool
left_out ps = is_blank_text (plain_text ps)

-- an expression of `for ((`, which may be left out
abbrev pub part_of_for : List Piece → Option Arith
part_of_for ps = if left_out ps then None else Some (arith_of ps)

-- what stands in front of names where a path does: no name has a bracket
abbrev pub prefix_by : Option (List ℕ) → List ℕ → List ℕ
prefix_by (Some text) name = text
prefix_by None name = name ++ 91 ∷ []

-- the bytes with which names begin that `${!path@}` gives: the path as it is written
abbrev pub prefix_of : TreePath → List ℕ
prefix_of path = prefix_by (plain_text (path_word path)) path.name

-- ---- redirections

abbrev pub redirect_form : Redirection → Option RedirectForm
redirect_form operator.HereString = Some redirect.HereString
redirect_form operator.ReadWrite = Some redirect.ReadWrite
redirect_form operator.CopyInput = Some redirect.DupInput
redirect_form operator.Input = Some redirect.Read
redirect_form operator.Clobber = Some redirect.Clobber
redirect_form operator.Append = Some redirect.Append
redirect_form operator.CopyOutput = Some redirect.DupOutput
redirect_form operator.Output = Some redirect.Write
redirect_form _ = None

-- the name of an operator's descriptor, which stands between the token's first byte and its end
abbrev pub descriptor_name : ℕ → ℕ → List ℕ → List ℕ
descriptor_name end from bytes = take (end - from - 1) (drop 1 bytes)

-- one digit, or a name
abbrev pub is_descriptor : Descriptor → ℕ → List ℕ → Bool
is_descriptor descriptor.Default from bytes = true
is_descriptor (descriptor.Digit n) from bytes = nat_lt n 10
is_descriptor (descriptor.Named end) from bytes = is_name (descriptor_name end from bytes)

-- the descriptor of an operator that begins at a place
abbrev pub redirect_to : Descriptor → ℕ → List ℕ → RedirectTo
redirect_to descriptor.Default from bytes = to.Usual
redirect_to (descriptor.Digit n) from bytes = to.Digit n
redirect_to (descriptor.Named end) from bytes = to.Var (descriptor_name end from bytes)

abbrev pub redirection : RedirectTo → RedirectForm → List Piece → Redirect (List Piece)
redirection t f ps = record { to = t; form = f; word = ps }

-- ---- tests

abbrev pub unary_test : List ℕ → Option UnaryTest
unary_test name =
    if bytes_eq name (codes "-n") then Some unary.NotEmpty else
    if bytes_eq name (codes "-z") then Some unary.Empty else
    if bytes_eq name (codes "-a") then Some unary.Exists else
    if bytes_eq name (codes "-e") then Some unary.Exists else
    if bytes_eq name (codes "-f") then Some unary.Plain else
    if bytes_eq name (codes "-d") then Some unary.Folder else
    if bytes_eq name (codes "-r") then Some unary.Readable else
    if bytes_eq name (codes "-w") then Some unary.Writable else
    if bytes_eq name (codes "-x") then Some unary.Runnable else
    if bytes_eq name (codes "-s") then Some unary.HasBytes else
    if bytes_eq name (codes "-o") then Some unary.OptionOn else
    if bytes_eq name (codes "-v") then Some unary.IsSet else
    None

abbrev pub binary_test : List ℕ → Option BinaryTest
binary_test name =
    if bytes_eq name (codes "=") then Some binary.Matches else
    if bytes_eq name (codes "==") then Some binary.Matches else
    if bytes_eq name (codes "!=") then Some binary.Differs else
    if bytes_eq name (codes "<") then Some binary.Before else
    if bytes_eq name (codes ">") then Some binary.After else
    if bytes_eq name (codes "-eq") then Some binary.Equal else
    if bytes_eq name (codes "-ne") then Some binary.NotEqual else
    if bytes_eq name (codes "-lt") then Some binary.Less else
    if bytes_eq name (codes "-le") then Some binary.LessEqual else
    if bytes_eq name (codes "-gt") then Some binary.Greater else
    if bytes_eq name (codes "-ge") then Some binary.GreaterEqual else
    None

abbrev pub or_none : Option (List ℕ) → List ℕ
or_none (Some bytes) = bytes
or_none None = []

abbrev pub plain_bytes : List Piece → List ℕ
plain_bytes ps = or_none (plain_text ps)

abbrev pub unary_by : Option UnaryTest → List Piece → Option Test
unary_by (Some op) word = Some (test.Unary op word)
unary_by None word = None

abbrev pub binary_by : List Piece → Option BinaryTest → List Piece → Option Test
binary_by left (Some op) right = Some (test.Binary left op right)
binary_by left None right = None

-- the test that the words of a term are
abbrev pub test_of : List (List Piece) → Option Test
test_of (word ∷ []) = Some (test.Word word)
test_of (name ∷ word ∷ []) = unary_by (unary_test (plain_bytes name)) word
test_of (left ∷ name ∷ right ∷ []) = binary_by left (binary_test (plain_bytes name)) right
test_of _ = None

-- ---- commands

abbrev pub item : ℕ → Command → Item
item line c = record { line = line; command = c }

abbrev pub is_newline : Kind → Bool
is_newline kind.Newline = true
is_newline kind.NewlineBodies = true
is_newline _ = false

-- what ends a command of a list, and what the command becomes by it
abbrev pub ended_by : Kind → ℕ → Command → Option Command
ended_by kind.Newline line c = Some c
ended_by kind.NewlineBodies line c = Some c
ended_by kind.Semicolon line c = Some c
ended_by kind.Ampersand line c = Some (command.Background (item line c ∷ []) false)
ended_by kind.BarAmpersand line c = Some (command.Background (item line c ∷ []) true)
ended_by _ line c = None

-- `&&`, or `||`
abbrev pub joins : Kind → Option Bool
joins kind.AndIf = Some false
joins kind.OrIf = Some true
joins _ = None

abbrev pub negated : Bool → Command → Command
negated true c = command.Not c
negated false c = c

-- commands of a pipeline, of which the last is no list yet
abbrev pub piped : List (List Item) → ℕ → Command → Command
piped [] line c = c
piped (m ∷ ms) line c = command.Pipeline ((m ∷ ms) ++ (item line c ∷ []) ∷ [])

-- `while`, `for` and `select`
abbrev pub loop_by : Command-F Argument Arith AssignValue Command Member ParamForm ParamOf Piece Test TreePart Assign CaseItem Item Param Term TreePath → List (Redirect (List Piece)) → Option Command
loop_by (Command-F.Loop until condition body old) rs = Some (command.Loop until condition body rs)
loop_by (Command-F.For name words body old) rs = Some (command.For name words body rs)
loop_by (Command-F.ForArith first condition step body old) rs = Some (command.ForArith first condition step body rs)
loop_by (Command-F.Select name words body old) rs = Some (command.Select name words body rs)
loop_by _ rs = None

abbrev pub loop_with_redirects : Command → List (Redirect (List Piece)) → Option Command
loop_with_redirects c rs = loop_by (out-Command c) rs

abbrev pub redirects_by : Command-F Argument Arith AssignValue Command Member ParamForm ParamOf Piece Test TreePart Assign CaseItem Item Param Term TreePath → List (Redirect (List Piece)) → Option Command
redirects_by (Command-F.Arith text old) rs = Some (command.Arith text rs)
redirects_by (Command-F.Cond c old) rs = Some (command.Cond c rs)
redirects_by (Command-F.Group body old) rs = Some (command.Group body rs)
redirects_by (Command-F.Subshell body old) rs = Some (command.Subshell body rs)
redirects_by (Command-F.If arms otherwise old) rs = Some (command.If arms otherwise rs)
redirects_by (Command-F.Case word items old) rs = Some (command.Case word items rs)
redirects_by c rs = loop_by c rs

-- a compound command with the redirections behind it
abbrev pub with_redirects : Command → List (Redirect (List Piece)) → Option Command
with_redirects c rs = redirects_by (out-Command c) rs
