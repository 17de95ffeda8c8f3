-- How many nodes a tree has. A node is a command, an assignment, a member of a compound's value, a term of a condition, a piece
-- of a word, a part of a path, a redirection, or an operand or operation of arithmetic; each counts one, with what it holds.
use Rattle.std.specs.Prelude.{ℕ, ◌+◌, List, [], ◌∷◌, Option, Some, None, length, map}
use Rattle.arith_tree.specs.declared.expr.ArithExpr.{ArithExpr, ArithExpr-F, fold-ArithExpr}
use Rattle.arith_tree.specs.declared.expr.ArithLink.{ArithLink, ArithLink-F, fold-ArithLink}
use Rattle.ksh_ast.specs.declared.redirect.Redirect.{Redirect}
use Rattle.ksh_ast.specs.declared.tree.Arm.{Arm}
use Rattle.ksh_ast.specs.declared.tree.Link.{Link}
use Rattle.ksh_ast.specs.declared.tree.Pair.{Pair}
use Rattle.ksh_ast.specs.declared.tree.Script.{Script}
use Rattle.ksh_ast.specs.declared.tree.Argument.{Argument, Argument-F, fold-Argument}
use Rattle.ksh_ast.specs.declared.tree.Arith.{Arith, Arith-F, fold-Arith}
use Rattle.ksh_ast.specs.declared.tree.AssignValue.{AssignValue, AssignValue-F, fold-AssignValue}
use Rattle.ksh_ast.specs.declared.tree.Command.{Command, Command-F, fold-Command}
use Rattle.ksh_ast.specs.declared.tree.Member.{Member, Member-F, fold-Member}
use Rattle.ksh_ast.specs.declared.tree.ParamForm.{ParamForm, ParamForm-F, fold-ParamForm}
use Rattle.ksh_ast.specs.declared.tree.ParamOf.{ParamOf, ParamOf-F, fold-ParamOf}
use Rattle.ksh_ast.specs.declared.tree.Piece.{Piece, Piece-F, fold-Piece}
use Rattle.ksh_ast.specs.declared.tree.Test.{Test, Test-F, fold-Test}
use Rattle.ksh_ast.specs.declared.tree.TreePart.{TreePart, TreePart-F, fold-TreePart}
use Rattle.ksh_ast.specs.declared.tree.Assign.{Assign, Assign-F, fold-Assign}
use Rattle.ksh_ast.specs.declared.tree.CaseItem.{CaseItem, CaseItem-F, fold-CaseItem}
use Rattle.ksh_ast.specs.declared.tree.Item.{Item, Item-F, fold-Item}
use Rattle.ksh_ast.specs.declared.tree.Param.{Param, Param-F, fold-Param}
use Rattle.ksh_ast.specs.declared.tree.Term.{Term, Term-F, fold-Term}
use Rattle.ksh_ast.specs.declared.tree.TreePath.{TreePath, TreePath-F, fold-TreePath}

-- ---- sums

abbrev pub total : List ℕ → ℕ
total [] = 0
total (n ∷ ns) = n + total ns

abbrev pub total_all : List (List ℕ) → ℕ
total_all [] = 0
total_all (ns ∷ more) = total ns + total_all more

abbrev pub total_pairs : List (Pair (List ℕ)) → ℕ
total_pairs [] = 0
total_pairs (p ∷ ps) = total p.subscript + total p.value + total_pairs ps

abbrev pub total_redirects : List (Redirect (List ℕ)) → ℕ
total_redirects [] = 0
total_redirects (r ∷ rs) = 1 + total r.word + total_redirects rs

abbrev pub total_arms : List (Arm (List ℕ)) → ℕ
total_arms [] = 0
total_arms (a ∷ arms) = total a.test + total a.body + total_arms arms

abbrev pub total_links : List (Link ℕ) → ℕ
total_links [] = 0
total_links (l ∷ ls) = l.command + total_links ls

abbrev pub if_there : Option ℕ → ℕ
if_there None = 0
if_there (Some n) = n

abbrev pub total_if_there : Option (List ℕ) → ℕ
total_if_there None = 0
total_if_there (Some ns) = total ns

abbrev pub total_all_if_there : Option (List (List ℕ)) → ℕ
total_all_if_there None = 0
total_all_if_there (Some ns) = total_all ns

-- ---- arithmetic

abbrev pub expr_step : ArithExpr-F ℕ ℕ → ℕ
expr_step (ArithExpr-F.Number n) = 1
expr_step (ArithExpr-F.Variable path) = 1 + length path.parts
expr_step (ArithExpr-F.Unary op operand) = 1 + operand
expr_step (ArithExpr-F.Step path way) = 1 + length path.parts
expr_step (ArithExpr-F.Power base exponent) = 1 + base + exponent
expr_step (ArithExpr-F.Chain first links) = 1 + first + total links
expr_step (ArithExpr-F.Choice test first second) = 1 + test + first + second
expr_step (ArithExpr-F.Assign path op value) = 1 + length path.parts + value

abbrev pub link_step : ArithLink-F ℕ ℕ → ℕ
link_step l = l.operand

unfoldable pub size_of_expr : ArithExpr → ℕ
size_of_expr = fold-ArithExpr ℕ ℕ expr_step link_step

unfoldable pub size_of_link : ArithLink → ℕ
size_of_link = fold-ArithLink ℕ ℕ expr_step link_step

-- ---- one level of each type of the tree, with the size of each part in its place

abbrev pub form_step : ParamForm-F ℕ ℕ ℕ ℕ ℕ ℕ ℕ ℕ ℕ ℕ ℕ ℕ ℕ ℕ ℕ ℕ → ℕ
form_step ParamForm-F.Plain = 0
form_step (ParamForm-F.Instead colon word) = total word
form_step (ParamForm-F.ParamForm::Assign colon word) = total word
form_step (ParamForm-F.Fault colon word) = total word
form_step (ParamForm-F.Other colon word) = total word
form_step ParamForm-F.Length = 0
form_step (ParamForm-F.Cut tail longest pattern) = total pattern
form_step (ParamForm-F.Slice from count) = total from + total_if_there count
form_step (ParamForm-F.Replace which pattern with) = total pattern + total with
form_step ParamForm-F.Target = 0

abbrev pub of_step : ParamOf-F ℕ ℕ ℕ ℕ ℕ ℕ ℕ ℕ ℕ ℕ ℕ ℕ ℕ ℕ ℕ ℕ → ℕ
of_step (ParamOf-F.Var path) = path
of_step (ParamOf-F.Special text) = 0
of_step (ParamOf-F.Prefix text) = 0

abbrev pub param_step : Param-F ℕ ℕ ℕ ℕ ℕ ℕ ℕ ℕ ℕ ℕ ℕ ℕ ℕ ℕ ℕ ℕ → ℕ
param_step p = p.of + p.form

abbrev pub part_step : TreePart-F ℕ ℕ ℕ ℕ ℕ ℕ ℕ ℕ ℕ ℕ ℕ ℕ ℕ ℕ ℕ ℕ → ℕ
part_step (TreePart-F.Member name) = 1
part_step (TreePart-F.Sub word) = 1 + total word
part_step TreePart-F.Each = 1
part_step TreePart-F.Joined = 1

abbrev pub path_step : TreePath-F ℕ ℕ ℕ ℕ ℕ ℕ ℕ ℕ ℕ ℕ ℕ ℕ ℕ ℕ ℕ ℕ → ℕ
path_step p = total p.parts

abbrev pub arith_step : Arith-F ℕ ℕ ℕ ℕ ℕ ℕ ℕ ℕ ℕ ℕ ℕ ℕ ℕ ℕ ℕ ℕ → ℕ
arith_step (Arith-F.Parsed expr) = size_of_expr expr
arith_step (Arith-F.Text word) = total word

abbrev pub piece_step : Piece-F ℕ ℕ ℕ ℕ ℕ ℕ ℕ ℕ ℕ ℕ ℕ ℕ ℕ ℕ ℕ ℕ → ℕ
piece_step (Piece-F.Literal text quoted) = 1
piece_step (Piece-F.Expand param quoted) = 1 + param
piece_step (Piece-F.Subst body kind quoted) = 1 + total body
piece_step (Piece-F.Number text quoted) = 1 + text

abbrev pub argument_step : Argument-F ℕ ℕ ℕ ℕ ℕ ℕ ℕ ℕ ℕ ℕ ℕ ℕ ℕ ℕ ℕ ℕ → ℕ
argument_step (Argument-F.Argument::Word word) = total word
argument_step (Argument-F.Argument::Assign assign) = assign

abbrev pub value_step : AssignValue-F ℕ ℕ ℕ ℕ ℕ ℕ ℕ ℕ ℕ ℕ ℕ ℕ ℕ ℕ ℕ ℕ → ℕ
value_step (AssignValue-F.AssignValue::Word word) = total word
value_step (AssignValue-F.Words words) = total_all words
value_step (AssignValue-F.Pairs pairs) = total_pairs pairs
value_step (AssignValue-F.Members members) = total members

abbrev pub assign_step : Assign-F ℕ ℕ ℕ ℕ ℕ ℕ ℕ ℕ ℕ ℕ ℕ ℕ ℕ ℕ ℕ ℕ → ℕ
assign_step a = 1 + a.path + a.value

abbrev pub member_step : Member-F ℕ ℕ ℕ ℕ ℕ ℕ ℕ ℕ ℕ ℕ ℕ ℕ ℕ ℕ ℕ ℕ → ℕ
member_step (Member-F.Member::Assign assign) = 1 + assign
member_step (Member-F.Declare arguments) = 1 + total arguments
member_step (Member-F.Member::Function definition) = 1 + total definition.body

abbrev pub test_step : Test-F ℕ ℕ ℕ ℕ ℕ ℕ ℕ ℕ ℕ ℕ ℕ ℕ ℕ ℕ ℕ ℕ → ℕ
test_step (Test-F.Nested condition) = total_all condition
test_step (Test-F.Unary op word) = total word
test_step (Test-F.Binary left op right) = total left + total right
test_step (Test-F.Test::Word word) = total word

abbrev pub term_step : Term-F ℕ ℕ ℕ ℕ ℕ ℕ ℕ ℕ ℕ ℕ ℕ ℕ ℕ ℕ ℕ ℕ → ℕ
term_step t = 1 + t.test

abbrev pub case_item_step : CaseItem-F ℕ ℕ ℕ ℕ ℕ ℕ ℕ ℕ ℕ ℕ ℕ ℕ ℕ ℕ ℕ ℕ → ℕ
case_item_step i = total_all i.patterns + total i.body

abbrev pub command_step : Command-F ℕ ℕ ℕ ℕ ℕ ℕ ℕ ℕ ℕ ℕ ℕ ℕ ℕ ℕ ℕ ℕ → ℕ
command_step (Command-F.Simple assigns words redirects) = 1 + total assigns + total words + total_redirects redirects
command_step (Command-F.Arith text redirects) = 1 + text + total_redirects redirects
command_step (Command-F.Cond test redirects) = 1 + total_all test + total_redirects redirects
command_step (Command-F.Group body redirects) = 1 + total body + total_redirects redirects
command_step (Command-F.Subshell body redirects) = 1 + total body + total_redirects redirects
command_step (Command-F.If arms otherwise redirects) = 1 + total_arms arms + total_if_there otherwise + total_redirects redirects
command_step (Command-F.Loop until test body redirects) = 1 + total test + total body + total_redirects redirects
command_step (Command-F.For name words body redirects) = 1 + total_all_if_there words + total body + total_redirects redirects
command_step (Command-F.ForArith first test step body redirects) = 1 + (if_there first + if_there test + if_there step) + total body + total_redirects redirects
command_step (Command-F.Case word items redirects) = 1 + total word + total items + total_redirects redirects
command_step (Command-F.Select name words body redirects) = 1 + total_all_if_there words + total body + total_redirects redirects
command_step (Command-F.Command::Function definition) = 1 + total definition.body
command_step (Command-F.Pipeline members) = 1 + total_all members
command_step (Command-F.AndOr first links) = 1 + first + total_links links
command_step (Command-F.Not inner) = 1 + inner
command_step (Command-F.Background inner coprocess) = 1 + total inner

abbrev pub item_step : Item-F ℕ ℕ ℕ ℕ ℕ ℕ ℕ ℕ ℕ ℕ ℕ ℕ ℕ ℕ ℕ ℕ → ℕ
item_step i = i.command

-- ---- the size of each

unfoldable pub size_of_argument : Argument → ℕ
size_of_argument = fold-Argument ℕ ℕ ℕ ℕ ℕ ℕ ℕ ℕ ℕ ℕ ℕ ℕ ℕ ℕ ℕ ℕ argument_step arith_step value_step command_step member_step form_step of_step piece_step test_step part_step assign_step case_item_step item_step param_step term_step path_step

unfoldable pub size_of_arith : Arith → ℕ
size_of_arith = fold-Arith ℕ ℕ ℕ ℕ ℕ ℕ ℕ ℕ ℕ ℕ ℕ ℕ ℕ ℕ ℕ ℕ argument_step arith_step value_step command_step member_step form_step of_step piece_step test_step part_step assign_step case_item_step item_step param_step term_step path_step

unfoldable pub size_of_value : AssignValue → ℕ
size_of_value = fold-AssignValue ℕ ℕ ℕ ℕ ℕ ℕ ℕ ℕ ℕ ℕ ℕ ℕ ℕ ℕ ℕ ℕ argument_step arith_step value_step command_step member_step form_step of_step piece_step test_step part_step assign_step case_item_step item_step param_step term_step path_step

unfoldable pub size_of_command : Command → ℕ
size_of_command = fold-Command ℕ ℕ ℕ ℕ ℕ ℕ ℕ ℕ ℕ ℕ ℕ ℕ ℕ ℕ ℕ ℕ argument_step arith_step value_step command_step member_step form_step of_step piece_step test_step part_step assign_step case_item_step item_step param_step term_step path_step

unfoldable pub size_of_member : Member → ℕ
size_of_member = fold-Member ℕ ℕ ℕ ℕ ℕ ℕ ℕ ℕ ℕ ℕ ℕ ℕ ℕ ℕ ℕ ℕ argument_step arith_step value_step command_step member_step form_step of_step piece_step test_step part_step assign_step case_item_step item_step param_step term_step path_step

unfoldable pub size_of_form : ParamForm → ℕ
size_of_form = fold-ParamForm ℕ ℕ ℕ ℕ ℕ ℕ ℕ ℕ ℕ ℕ ℕ ℕ ℕ ℕ ℕ ℕ argument_step arith_step value_step command_step member_step form_step of_step piece_step test_step part_step assign_step case_item_step item_step param_step term_step path_step

unfoldable pub size_of_of : ParamOf → ℕ
size_of_of = fold-ParamOf ℕ ℕ ℕ ℕ ℕ ℕ ℕ ℕ ℕ ℕ ℕ ℕ ℕ ℕ ℕ ℕ argument_step arith_step value_step command_step member_step form_step of_step piece_step test_step part_step assign_step case_item_step item_step param_step term_step path_step

unfoldable pub size_of_piece : Piece → ℕ
size_of_piece = fold-Piece ℕ ℕ ℕ ℕ ℕ ℕ ℕ ℕ ℕ ℕ ℕ ℕ ℕ ℕ ℕ ℕ argument_step arith_step value_step command_step member_step form_step of_step piece_step test_step part_step assign_step case_item_step item_step param_step term_step path_step

unfoldable pub size_of_test : Test → ℕ
size_of_test = fold-Test ℕ ℕ ℕ ℕ ℕ ℕ ℕ ℕ ℕ ℕ ℕ ℕ ℕ ℕ ℕ ℕ argument_step arith_step value_step command_step member_step form_step of_step piece_step test_step part_step assign_step case_item_step item_step param_step term_step path_step

unfoldable pub size_of_part : TreePart → ℕ
size_of_part = fold-TreePart ℕ ℕ ℕ ℕ ℕ ℕ ℕ ℕ ℕ ℕ ℕ ℕ ℕ ℕ ℕ ℕ argument_step arith_step value_step command_step member_step form_step of_step piece_step test_step part_step assign_step case_item_step item_step param_step term_step path_step

unfoldable pub size_of_assign : Assign → ℕ
size_of_assign = fold-Assign ℕ ℕ ℕ ℕ ℕ ℕ ℕ ℕ ℕ ℕ ℕ ℕ ℕ ℕ ℕ ℕ argument_step arith_step value_step command_step member_step form_step of_step piece_step test_step part_step assign_step case_item_step item_step param_step term_step path_step

unfoldable pub size_of_case_item : CaseItem → ℕ
size_of_case_item = fold-CaseItem ℕ ℕ ℕ ℕ ℕ ℕ ℕ ℕ ℕ ℕ ℕ ℕ ℕ ℕ ℕ ℕ argument_step arith_step value_step command_step member_step form_step of_step piece_step test_step part_step assign_step case_item_step item_step param_step term_step path_step

unfoldable pub size_of_item : Item → ℕ
size_of_item = fold-Item ℕ ℕ ℕ ℕ ℕ ℕ ℕ ℕ ℕ ℕ ℕ ℕ ℕ ℕ ℕ ℕ argument_step arith_step value_step command_step member_step form_step of_step piece_step test_step part_step assign_step case_item_step item_step param_step term_step path_step

unfoldable pub size_of_param : Param → ℕ
size_of_param = fold-Param ℕ ℕ ℕ ℕ ℕ ℕ ℕ ℕ ℕ ℕ ℕ ℕ ℕ ℕ ℕ ℕ argument_step arith_step value_step command_step member_step form_step of_step piece_step test_step part_step assign_step case_item_step item_step param_step term_step path_step

unfoldable pub size_of_term : Term → ℕ
size_of_term = fold-Term ℕ ℕ ℕ ℕ ℕ ℕ ℕ ℕ ℕ ℕ ℕ ℕ ℕ ℕ ℕ ℕ argument_step arith_step value_step command_step member_step form_step of_step piece_step test_step part_step assign_step case_item_step item_step param_step term_step path_step

unfoldable pub size_of_path : TreePath → ℕ
size_of_path = fold-TreePath ℕ ℕ ℕ ℕ ℕ ℕ ℕ ℕ ℕ ℕ ℕ ℕ ℕ ℕ ℕ ℕ argument_step arith_step value_step command_step member_step form_step of_step piece_step test_step part_step assign_step case_item_step item_step param_step term_step path_step

-- ---- the sizes of lists

abbrev pub size_of_pieces : List Piece → ℕ
size_of_pieces pieces = total (map size_of_piece pieces)

abbrev pub size_of_words : List (List Piece) → ℕ
size_of_words words = total_all (map (map size_of_piece) words)

abbrev pub size_of_items : List Item → ℕ
size_of_items items = total (map size_of_item items)

abbrev pub size_of_condition : List (List Term) → ℕ
size_of_condition condition = total_all (map (map size_of_term) condition)

abbrev pub pair_sizes : Pair (List Piece) → Pair (List ℕ)
pair_sizes p = record { subscript = map size_of_piece p.subscript; value = map size_of_piece p.value }

abbrev pub redirect_sizes : Redirect (List Piece) → Redirect (List ℕ)
redirect_sizes r = record { to = r.to; form = r.form; word = map size_of_piece r.word }

abbrev pub size_of_redirects : List (Redirect (List Piece)) → ℕ
size_of_redirects redirects = total_redirects (map redirect_sizes redirects)

abbrev pub arm_sizes : Arm (List Item) → Arm (List ℕ)
arm_sizes a = record { test = map size_of_item a.test; body = map size_of_item a.body }

abbrev pub link_size : Link Command → Link ℕ
link_size l = record { or = l.or; command = size_of_command l.command }

abbrev pub arith_if_there : Option Arith → ℕ
arith_if_there None = 0
arith_if_there (Some text) = size_of_arith text

abbrev pub size_if_there : Option (List Item) → ℕ
size_if_there None = 0
size_if_there (Some items) = size_of_items items

abbrev pub word_if_there : Option (List Piece) → ℕ
word_if_there None = 0
word_if_there (Some word) = size_of_pieces word

abbrev pub words_if_there : Option (List (List Piece)) → ℕ
words_if_there None = 0
words_if_there (Some words) = size_of_words words

-- a script's size is that of its commands
abbrev pub size_of_script : Script → ℕ
size_of_script script = size_of_items script.list
