-- The marks of a tree: one step for each type, over the marks of what it holds.
use Rattle.std.specs.Prelude.{ℕ, List, [], Bool, true, false, None, codes, map}
use Rattle.ksh_ast.specs.declared.tree.Argument.{Argument, Argument-F, fold-Argument}
use Rattle.ksh_ast.specs.declared.tree.Arith.{Arith, Arith-F, fold-Arith}
use Rattle.ksh_ast.specs.declared.tree.Assign.{Assign, Assign-F, fold-Assign}
use Rattle.ksh_ast.specs.declared.tree.AssignValue.{AssignValue, AssignValue-F, fold-AssignValue}
use Rattle.ksh_ast.specs.declared.tree.CaseItem.{CaseItem, CaseItem-F, fold-CaseItem}
use Rattle.ksh_ast.specs.declared.tree.Command.{Command, Command-F, fold-Command}
use Rattle.ksh_ast.specs.declared.tree.Item.{Item, Item-F, fold-Item}
use Rattle.ksh_ast.specs.declared.tree.Member.{Member, Member-F, fold-Member}
use Rattle.ksh_ast.specs.declared.tree.Param.{Param, Param-F, fold-Param}
use Rattle.ksh_ast.specs.declared.tree.ParamForm.{ParamForm, ParamForm-F, fold-ParamForm}
use Rattle.ksh_ast.specs.declared.tree.ParamOf.{ParamOf, ParamOf-F, fold-ParamOf}
use Rattle.ksh_ast.specs.declared.tree.Piece.{Piece, Piece-F, fold-Piece}
use Rattle.ksh_ast.specs.declared.tree.Term.{Term, Term-F, fold-Term}
use Rattle.ksh_ast.specs.declared.tree.Test.{Test, Test-F, fold-Test}
use Rattle.ksh_ast.specs.declared.tree.TreePart.{TreePart, TreePart-F, fold-TreePart}
use Rattle.ksh_ast.specs.declared.tree.TreePath.{TreePath, TreePath-F, fold-TreePath}
use Rattle.ksh_unparse.specs.Layout.{laid}
use Rattle.ksh_unparse.specs.Marks.{Put, nothing, say, line, escape, each, lines, alone, between, maybe}
use Rattle.ksh_unparse.specs.Words.{Spot, Form, word_put, arith_text_put, bare_text, literal_put, subst_put, number_put, param_put, instead_bytes, assign_bytes, fault_bytes, other_bytes, cut_bytes, replace_bytes, with_put, slice_put}
use Rattle.ksh_unparse.specs.Arith.{expr_put}
use Rattle.ksh_unparse.specs.Commands.{Told, blank, redirects_put, pairs_put, words_between, arguments_between, equals, function_put, unary_bytes, binary_bytes, condition_put, section, arms_put, else_put, do_put, loop_bytes, in_put, item_end, stages_put, links_put, background_bytes, simple_put, is_reserved}

-- ---- words

abbrev pub form_step : ParamForm-F Told Put Put Put Put Form Put Spot Put Put Put Put Put Put Put Put → Form
form_step ParamForm-F.Plain = record { front = nothing; tail = nothing }
form_step (ParamForm-F.Instead colon word) = record { front = nothing; tail = λ rest. say (instead_bytes colon) (word_put word rest) }
form_step (ParamForm-F.ParamForm::Assign colon word) = record { front = nothing; tail = λ rest. say (assign_bytes colon) (word_put word rest) }
form_step (ParamForm-F.Fault colon word) = record { front = nothing; tail = λ rest. say (fault_bytes colon) (word_put word rest) }
form_step (ParamForm-F.Other colon word) = record { front = nothing; tail = λ rest. say (other_bytes colon) (word_put word rest) }
form_step ParamForm-F.Length = record { front = say (codes "#"); tail = nothing }
form_step (ParamForm-F.Cut tail longest pattern) = record { front = nothing; tail = λ rest. say (cut_bytes tail longest) (word_put pattern rest) }
form_step (ParamForm-F.Slice from count) = record { front = nothing; tail = slice_put (word_put from) count }
form_step (ParamForm-F.Replace which pattern with) = record { front = nothing; tail = λ rest. say (replace_bytes which) (word_put pattern (with_put with rest)) }
form_step ParamForm-F.Target = record { front = say (codes "!"); tail = nothing }

abbrev pub of_step : ParamOf-F Told Put Put Put Put Form Put Spot Put Put Put Put Put Put Put Put → Put
of_step (ParamOf-F.Var path) rest = path rest
of_step (ParamOf-F.Special text) rest = say text rest
of_step (ParamOf-F.Prefix text) rest = say (codes "!") (say text (say (codes "@") rest))

abbrev pub param_step : Param-F Told Put Put Put Put Form Put Spot Put Put Put Put Put Put Put Put → Put
param_step p = param_put p.form p.of

abbrev pub part_step : TreePart-F Told Put Put Put Put Form Put Spot Put Put Put Put Put Put Put Put → Put
part_step (TreePart-F.Member name) rest = say (codes ".") (say name rest)
part_step (TreePart-F.Sub word) rest = say (codes "[") (word_put word (say (codes "]") rest))
part_step TreePart-F.Each rest = say (codes "[@]") rest
part_step TreePart-F.Joined rest = say (codes "[*]") rest

abbrev pub path_step : TreePath-F Told Put Put Put Put Form Put Spot Put Put Put Put Put Put Put Put → Put
path_step p rest = say p.name (each p.parts rest)

abbrev pub arith_step : Arith-F Told Put Put Put Put Form Put Spot Put Put Put Put Put Put Put Put → Put
arith_step (Arith-F.Parsed e) = expr_put e 14
arith_step (Arith-F.Text word) = arith_text_put word

abbrev pub piece_step : Piece-F Told Put Put Put Put Form Put Spot Put Put Put Put Put Put Put Put → Spot
piece_step (Piece-F.Literal text quoted) = record { plain = literal_put text quoted; inside = false; body = escape text; bare = bare_text quoted text }
piece_step (Piece-F.Expand param quoted) = record { plain = param; inside = quoted; body = param; bare = None }
piece_step (Piece-F.Subst list kind quoted) = record { plain = subst_put kind list; inside = quoted; body = subst_put kind list; bare = None }
piece_step (Piece-F.Number text quoted) = record { plain = number_put text; inside = quoted; body = number_put text; bare = None }

-- ---- assignments

abbrev pub argument_step : Argument-F Told Put Put Put Put Form Put Spot Put Put Put Put Put Put Put Put → Told
argument_step (Argument-F.Argument::Word word) = record { put = word_put word; reserved = is_reserved word }
argument_step (Argument-F.Argument::Assign assign) = record { put = assign; reserved = false }

abbrev pub value_step : AssignValue-F Told Put Put Put Put Form Put Spot Put Put Put Put Put Put Put Put → Put
value_step (AssignValue-F.AssignValue::Word word) rest = word_put word rest
value_step (AssignValue-F.Words words) rest = say (codes "(") (words_between blank words (say (codes ")") rest))
value_step (AssignValue-F.Pairs pairs) rest = say (codes "(") (pairs_put pairs (say (codes ")") rest))
value_step (AssignValue-F.Members members) rest = say (codes "(") (between (codes "; ") members (say (codes ")") rest))

abbrev pub assign_step : Assign-F Told Put Put Put Put Form Put Spot Put Put Put Put Put Put Put Put → Put
assign_step a rest = a.path (say (equals a.append) (a.value rest))

abbrev pub member_step : Member-F Told Put Put Put Put Form Put Spot Put Put Put Put Put Put Put Put → Put
member_step (Member-F.Member::Assign assign) rest = assign rest
member_step (Member-F.Declare arguments) rest = arguments_between arguments rest
member_step (Member-F.Member::Function definition) rest = function_put definition rest

-- ---- conditions

abbrev pub test_step : Test-F Told Put Put Put Put Form Put Spot Put Put Put Put Put Put Put Put → Put
test_step (Test-F.Nested condition) rest = say (codes "( ") (condition_put condition (say (codes " )") rest))
test_step (Test-F.Unary op word) rest = say (unary_bytes op) (word_put word rest)
test_step (Test-F.Binary left op right) rest = word_put left (say (binary_bytes op) (word_put right rest))
test_step (Test-F.Test::Word word) rest = word_put word rest

abbrev pub negated_put : Bool → Put → Put
negated_put true test rest = say (codes "! ") (test rest)
negated_put false test rest = test rest

abbrev pub term_step : Term-F Told Put Put Put Put Form Put Spot Put Put Put Put Put Put Put Put → Put
term_step t = negated_put t.negated t.test

-- ---- commands

abbrev pub case_item_step : CaseItem-F Told Put Put Put Put Form Put Spot Put Put Put Put Put Put Put Put → Put
case_item_step i rest = say (codes "(") (words_between (codes " | ") i.patterns (section (codes ")") i.body (say (item_end i.falls) (line rest))))

abbrev pub command_step : Command-F Told Put Put Put Put Form Put Spot Put Put Put Put Put Put Put Put → Put
command_step (Command-F.Simple assigns words redirects) rest = simple_put assigns words redirects rest
command_step (Command-F.Arith text redirects) rest = say (codes "((") (text (say (codes "))") (redirects_put redirects rest)))
command_step (Command-F.Cond test redirects) rest = say (codes "[[ ") (condition_put test (say (codes " ]]") (redirects_put redirects rest)))
command_step (Command-F.Group body redirects) rest = section (codes "{") body (say (codes "}") (redirects_put redirects rest))
command_step (Command-F.Subshell body redirects) rest = section (codes "(") body (say (codes ")") (redirects_put redirects rest))
command_step (Command-F.If arms otherwise redirects) rest = arms_put arms (else_put otherwise (say (codes "fi") (redirects_put redirects rest)))
command_step (Command-F.Loop until test body redirects) rest = say (loop_bytes until) (lines test (do_put body (redirects_put redirects rest)))
command_step (Command-F.For name words body redirects) rest = say (codes "for ") (say name (in_put words (do_put body (redirects_put redirects rest))))
command_step (Command-F.ForArith first test step body redirects) rest = say (codes "for ((") (maybe first (say (codes ";") (maybe test (say (codes ";") (maybe step (say (codes "))") (line (do_put body (redirects_put redirects rest)))))))))
command_step (Command-F.Case word items redirects) rest = say (codes "case ") (word_put word (say (codes " in") (line (each items (say (codes "esac") (redirects_put redirects rest))))))
command_step (Command-F.Select name words body redirects) rest = say (codes "select ") (say name (in_put words (do_put body (redirects_put redirects rest))))
command_step (Command-F.Command::Function definition) rest = function_put definition rest
command_step (Command-F.Pipeline members) rest = stages_put members rest
command_step (Command-F.AndOr first links) rest = first (links_put links rest)
command_step (Command-F.Not inner) rest = say (codes "! ") (inner rest)
command_step (Command-F.Background inner coprocess) rest = alone inner (say (background_bytes coprocess) rest)

abbrev pub item_step : Item-F Told Put Put Put Put Form Put Spot Put Put Put Put Put Put Put Put → Put
item_step i = i.command

-- ---- the marks of each

unfoldable pub argument_put : Argument → Told
argument_put = fold-Argument Told Put Put Put Put Form Put Spot Put Put Put Put Put Put Put Put argument_step arith_step value_step command_step member_step form_step of_step piece_step test_step part_step assign_step case_item_step item_step param_step term_step path_step

unfoldable pub arith_put : Arith → Put
arith_put = fold-Arith Told Put Put Put Put Form Put Spot Put Put Put Put Put Put Put Put argument_step arith_step value_step command_step member_step form_step of_step piece_step test_step part_step assign_step case_item_step item_step param_step term_step path_step

unfoldable pub value_put : AssignValue → Put
value_put = fold-AssignValue Told Put Put Put Put Form Put Spot Put Put Put Put Put Put Put Put argument_step arith_step value_step command_step member_step form_step of_step piece_step test_step part_step assign_step case_item_step item_step param_step term_step path_step

unfoldable pub command_put : Command → Put
command_put = fold-Command Told Put Put Put Put Form Put Spot Put Put Put Put Put Put Put Put argument_step arith_step value_step command_step member_step form_step of_step piece_step test_step part_step assign_step case_item_step item_step param_step term_step path_step

unfoldable pub member_put : Member → Put
member_put = fold-Member Told Put Put Put Put Form Put Spot Put Put Put Put Put Put Put Put argument_step arith_step value_step command_step member_step form_step of_step piece_step test_step part_step assign_step case_item_step item_step param_step term_step path_step

unfoldable pub form_of : ParamForm → Form
form_of = fold-ParamForm Told Put Put Put Put Form Put Spot Put Put Put Put Put Put Put Put argument_step arith_step value_step command_step member_step form_step of_step piece_step test_step part_step assign_step case_item_step item_step param_step term_step path_step

unfoldable pub of_put : ParamOf → Put
of_put = fold-ParamOf Told Put Put Put Put Form Put Spot Put Put Put Put Put Put Put Put argument_step arith_step value_step command_step member_step form_step of_step piece_step test_step part_step assign_step case_item_step item_step param_step term_step path_step

unfoldable pub piece_spot : Piece → Spot
piece_spot = fold-Piece Told Put Put Put Put Form Put Spot Put Put Put Put Put Put Put Put argument_step arith_step value_step command_step member_step form_step of_step piece_step test_step part_step assign_step case_item_step item_step param_step term_step path_step

unfoldable pub test_put : Test → Put
test_put = fold-Test Told Put Put Put Put Form Put Spot Put Put Put Put Put Put Put Put argument_step arith_step value_step command_step member_step form_step of_step piece_step test_step part_step assign_step case_item_step item_step param_step term_step path_step

unfoldable pub part_put : TreePart → Put
part_put = fold-TreePart Told Put Put Put Put Form Put Spot Put Put Put Put Put Put Put Put argument_step arith_step value_step command_step member_step form_step of_step piece_step test_step part_step assign_step case_item_step item_step param_step term_step path_step

unfoldable pub assign_put : Assign → Put
assign_put = fold-Assign Told Put Put Put Put Form Put Spot Put Put Put Put Put Put Put Put argument_step arith_step value_step command_step member_step form_step of_step piece_step test_step part_step assign_step case_item_step item_step param_step term_step path_step

unfoldable pub case_item_put : CaseItem → Put
case_item_put = fold-CaseItem Told Put Put Put Put Form Put Spot Put Put Put Put Put Put Put Put argument_step arith_step value_step command_step member_step form_step of_step piece_step test_step part_step assign_step case_item_step item_step param_step term_step path_step

unfoldable pub item_put : Item → Put
item_put = fold-Item Told Put Put Put Put Form Put Spot Put Put Put Put Put Put Put Put argument_step arith_step value_step command_step member_step form_step of_step piece_step test_step part_step assign_step case_item_step item_step param_step term_step path_step

unfoldable pub parameter_put : Param → Put
parameter_put = fold-Param Told Put Put Put Put Form Put Spot Put Put Put Put Put Put Put Put argument_step arith_step value_step command_step member_step form_step of_step piece_step test_step part_step assign_step case_item_step item_step param_step term_step path_step

unfoldable pub term_put : Term → Put
term_put = fold-Term Told Put Put Put Put Form Put Spot Put Put Put Put Put Put Put Put argument_step arith_step value_step command_step member_step form_step of_step piece_step test_step part_step assign_step case_item_step item_step param_step term_step path_step

unfoldable pub path_put : TreePath → Put
path_put = fold-TreePath Told Put Put Put Put Form Put Spot Put Put Put Put Put Put Put Put argument_step arith_step value_step command_step member_step form_step of_step piece_step test_step part_step assign_step case_item_step item_step param_step term_step path_step

-- the canonical text of a list of commands
unfoldable pub list_text : List Item → List ℕ
list_text list = laid (lines (map item_put list) []) [] [] []
