-- What each form of the tree has for its size, by the sizes of what it holds.
use Rattle.std.proofs.Common.{◌≡◌, ℕ, ◌+◌, Bool, Option, Some, None, List, map, length, ap, sym, ◌∙◌}
use Rattle.std.specs.Prelude.{ℤ}
use Rattle.arith_tree.specs.declared.expr.ArithExpr.{ArithExpr, ArithExpr-F, fold-roll-ArithExpr}
use Rattle.arith_tree.specs.declared.expr.ArithExpr.TheVariants as expr
use Rattle.arith_tree.specs.declared.expr.ArithLink.{ArithLink, fold_out-ArithLink}
use Rattle.arith_tree.specs.declared.expr.ArithPath.{ArithPath}
use Rattle.arith_tree.specs.declared.expr.BinaryOp.{BinaryOp}
use Rattle.arith_tree.specs.declared.expr.StepWay.{StepWay}
use Rattle.arith_tree.specs.declared.expr.UnaryOp.{UnaryOp}
use Rattle.ksh_ast.specs.declared.kinds.BinaryTest.{BinaryTest}
use Rattle.ksh_ast.specs.declared.kinds.Replaced.{Replaced}
use Rattle.ksh_ast.specs.declared.kinds.SubstKind.{SubstKind}
use Rattle.ksh_ast.specs.declared.kinds.UnaryTest.{UnaryTest}
use Rattle.ksh_ast.specs.declared.redirect.Redirect.{Redirect}
use Rattle.ksh_ast.specs.declared.tree.Arm.{Arm}
use Rattle.ksh_ast.specs.declared.tree.FunctionDef.{FunctionDef}
use Rattle.ksh_ast.specs.declared.tree.Link.{Link}
use Rattle.ksh_ast.specs.declared.tree.Pair.{Pair}
use Rattle.ksh_ast.specs.declared.tree.Argument.{Argument, Argument-F, fold-roll-Argument}
use Rattle.ksh_ast.specs.declared.tree.Argument.TheVariants as argument
use Rattle.ksh_ast.specs.declared.tree.Arith.{Arith, Arith-F, fold-roll-Arith}
use Rattle.ksh_ast.specs.declared.tree.Arith.TheVariants as arith
use Rattle.ksh_ast.specs.declared.tree.AssignValue.{AssignValue-F, fold-roll-AssignValue}
use Rattle.ksh_ast.specs.declared.tree.AssignValue.TheVariants as value
use Rattle.ksh_ast.specs.declared.tree.Command.{Command, Command-F, fold-roll-Command}
use Rattle.ksh_ast.specs.declared.tree.Command.TheVariants as command
use Rattle.ksh_ast.specs.declared.tree.Member.{Member, Member-F, fold-roll-Member}
use Rattle.ksh_ast.specs.declared.tree.Member.TheVariants as member
use Rattle.ksh_ast.specs.declared.tree.ParamForm.{ParamForm-F, fold-roll-ParamForm}
use Rattle.ksh_ast.specs.declared.tree.ParamForm.TheVariants as form
use Rattle.ksh_ast.specs.declared.tree.ParamOf.{ParamOf-F, fold-roll-ParamOf}
use Rattle.ksh_ast.specs.declared.tree.ParamOf.TheVariants as of
use Rattle.ksh_ast.specs.declared.tree.Piece.{Piece, Piece-F, fold-roll-Piece}
use Rattle.ksh_ast.specs.declared.tree.Piece.TheVariants as piece
use Rattle.ksh_ast.specs.declared.tree.Test.{Test-F, fold-roll-Test}
use Rattle.ksh_ast.specs.declared.tree.Test.TheVariants as test
use Rattle.ksh_ast.specs.declared.tree.TreePart.{TreePart-F, fold-roll-TreePart}
use Rattle.ksh_ast.specs.declared.tree.TreePart.TheVariants as part
use Rattle.ksh_ast.specs.declared.tree.Assign.{Assign, fold_out-Assign}
use Rattle.ksh_ast.specs.declared.tree.CaseItem.{CaseItem, out-CaseItem, fold_out-CaseItem}
use Rattle.ksh_ast.specs.declared.tree.Item.{Item, fold_out-Item}
use Rattle.ksh_ast.specs.declared.tree.Param.{Param, fold_out-Param}
use Rattle.ksh_ast.specs.declared.tree.Term.{Term, fold_out-Term}
use Rattle.ksh_ast.specs.declared.tree.TreePath.{TreePath, fold_out-TreePath}
use Rattle.ast_size.specs.Size.{total, total_all, total_pairs, total_arms, total_links, expr_step, link_step, size_of_expr, size_of_link, argument_step, arith_step, value_step, command_step, member_step, form_step, of_step, piece_step, test_step, part_step, assign_step, case_item_step, item_step, param_step, term_step, path_step, size_of_argument, size_of_arith, size_of_value, size_of_command, size_of_member, size_of_form, size_of_of, size_of_piece, size_of_test, size_of_part, size_of_assign, size_of_case_item, size_of_item, size_of_param, size_of_term, size_of_path, size_of_pieces, size_of_words, size_of_items, size_of_condition, pair_sizes, size_of_redirects, arm_sizes, link_size, arith_if_there, size_if_there, word_if_there, words_if_there}

pub node_number : (n : ℤ) → size_of_expr (expr.Number n) ≡ 1
unfolding size_of_expr size_of_link
node_number n = ap size_of_expr (sym (expr.rolls-Number n)) ∙ fold-roll-ArithExpr ℕ ℕ expr_step link_step (ArithExpr-F.Number n)

pub node_variable : (path : ArithPath) → size_of_expr (expr.Variable path) ≡ 1 + length path.parts
unfolding size_of_expr size_of_link
node_variable path = ap size_of_expr (sym (expr.rolls-Variable path)) ∙ fold-roll-ArithExpr ℕ ℕ expr_step link_step (ArithExpr-F.Variable path)

pub node_unary : (op : UnaryOp) (operand : ArithExpr) → size_of_expr (expr.Unary op operand) ≡ 1 + size_of_expr operand
unfolding size_of_expr size_of_link
node_unary op operand = ap size_of_expr (sym (expr.rolls-Unary op operand)) ∙ fold-roll-ArithExpr ℕ ℕ expr_step link_step (ArithExpr-F.Unary op operand)

pub node_step : (path : ArithPath) (way : StepWay) → size_of_expr (expr.Step path way) ≡ 1 + length path.parts
unfolding size_of_expr size_of_link
node_step path way = ap size_of_expr (sym (expr.rolls-Step path way)) ∙ fold-roll-ArithExpr ℕ ℕ expr_step link_step (ArithExpr-F.Step path way)

pub node_power : (base : ArithExpr) (exponent : ArithExpr) → size_of_expr (expr.Power base exponent) ≡ 1 + size_of_expr base + size_of_expr exponent
unfolding size_of_expr size_of_link
node_power base exponent = ap size_of_expr (sym (expr.rolls-Power base exponent)) ∙ fold-roll-ArithExpr ℕ ℕ expr_step link_step (ArithExpr-F.Power base exponent)

pub node_chain : (first : ArithExpr) (rest : List ArithLink) → size_of_expr (expr.Chain first rest) ≡ 1 + size_of_expr first + total (map size_of_link rest)
unfolding size_of_expr size_of_link
node_chain first rest = ap size_of_expr (sym (expr.rolls-Chain first rest)) ∙ fold-roll-ArithExpr ℕ ℕ expr_step link_step (ArithExpr-F.Chain first rest)

pub node_choice : (test : ArithExpr) (first : ArithExpr) (second : ArithExpr) → size_of_expr (expr.Choice test first second) ≡ 1 + size_of_expr test + size_of_expr first + size_of_expr second
unfolding size_of_expr size_of_link
node_choice test first second = ap size_of_expr (sym (expr.rolls-Choice test first second)) ∙ fold-roll-ArithExpr ℕ ℕ expr_step link_step (ArithExpr-F.Choice test first second)

pub node_assign : (path : ArithPath) (op : Option BinaryOp) (value : ArithExpr) → size_of_expr (expr.Assign path op value) ≡ 1 + length path.parts + size_of_expr value
unfolding size_of_expr size_of_link
node_assign path op value = ap size_of_expr (sym (expr.rolls-Assign path op value)) ∙ fold-roll-ArithExpr ℕ ℕ expr_step link_step (ArithExpr-F.Assign path op value)

pub link_operand : (l : ArithLink) → size_of_link l ≡ size_of_expr l.operand
unfolding size_of_expr size_of_link
link_operand l = fold_out-ArithLink ℕ ℕ expr_step link_step l

pub form_plain : size_of_form form.Plain ≡ 0
unfolding size_of_argument size_of_arith size_of_value size_of_command size_of_member size_of_form size_of_of size_of_piece size_of_test size_of_part size_of_assign size_of_case_item size_of_item size_of_param size_of_term size_of_path
form_plain = ap size_of_form (sym form.rolls-Plain) ∙ fold-roll-ParamForm ℕ ℕ ℕ ℕ ℕ ℕ ℕ ℕ ℕ ℕ ℕ ℕ ℕ ℕ ℕ ℕ argument_step arith_step value_step command_step member_step form_step of_step piece_step test_step part_step assign_step case_item_step item_step param_step term_step path_step ParamForm-F.Plain

pub form_instead : (colon : Bool) (word : List Piece) → size_of_form (form.Instead colon word) ≡ size_of_pieces word
unfolding size_of_argument size_of_arith size_of_value size_of_command size_of_member size_of_form size_of_of size_of_piece size_of_test size_of_part size_of_assign size_of_case_item size_of_item size_of_param size_of_term size_of_path
form_instead colon word = ap size_of_form (sym (form.rolls-Instead colon word)) ∙ fold-roll-ParamForm ℕ ℕ ℕ ℕ ℕ ℕ ℕ ℕ ℕ ℕ ℕ ℕ ℕ ℕ ℕ ℕ argument_step arith_step value_step command_step member_step form_step of_step piece_step test_step part_step assign_step case_item_step item_step param_step term_step path_step (ParamForm-F.Instead colon word)

pub form_assign : (colon : Bool) (word : List Piece) → size_of_form (form.Assign colon word) ≡ size_of_pieces word
unfolding size_of_argument size_of_arith size_of_value size_of_command size_of_member size_of_form size_of_of size_of_piece size_of_test size_of_part size_of_assign size_of_case_item size_of_item size_of_param size_of_term size_of_path
form_assign colon word = ap size_of_form (sym (form.rolls-Assign colon word)) ∙ fold-roll-ParamForm ℕ ℕ ℕ ℕ ℕ ℕ ℕ ℕ ℕ ℕ ℕ ℕ ℕ ℕ ℕ ℕ argument_step arith_step value_step command_step member_step form_step of_step piece_step test_step part_step assign_step case_item_step item_step param_step term_step path_step (ParamForm-F.ParamForm::Assign colon word)

pub form_fault : (colon : Bool) (word : List Piece) → size_of_form (form.Fault colon word) ≡ size_of_pieces word
unfolding size_of_argument size_of_arith size_of_value size_of_command size_of_member size_of_form size_of_of size_of_piece size_of_test size_of_part size_of_assign size_of_case_item size_of_item size_of_param size_of_term size_of_path
form_fault colon word = ap size_of_form (sym (form.rolls-Fault colon word)) ∙ fold-roll-ParamForm ℕ ℕ ℕ ℕ ℕ ℕ ℕ ℕ ℕ ℕ ℕ ℕ ℕ ℕ ℕ ℕ argument_step arith_step value_step command_step member_step form_step of_step piece_step test_step part_step assign_step case_item_step item_step param_step term_step path_step (ParamForm-F.Fault colon word)

pub form_other : (colon : Bool) (word : List Piece) → size_of_form (form.Other colon word) ≡ size_of_pieces word
unfolding size_of_argument size_of_arith size_of_value size_of_command size_of_member size_of_form size_of_of size_of_piece size_of_test size_of_part size_of_assign size_of_case_item size_of_item size_of_param size_of_term size_of_path
form_other colon word = ap size_of_form (sym (form.rolls-Other colon word)) ∙ fold-roll-ParamForm ℕ ℕ ℕ ℕ ℕ ℕ ℕ ℕ ℕ ℕ ℕ ℕ ℕ ℕ ℕ ℕ argument_step arith_step value_step command_step member_step form_step of_step piece_step test_step part_step assign_step case_item_step item_step param_step term_step path_step (ParamForm-F.Other colon word)

pub form_length : size_of_form form.Length ≡ 0
unfolding size_of_argument size_of_arith size_of_value size_of_command size_of_member size_of_form size_of_of size_of_piece size_of_test size_of_part size_of_assign size_of_case_item size_of_item size_of_param size_of_term size_of_path
form_length = ap size_of_form (sym form.rolls-Length) ∙ fold-roll-ParamForm ℕ ℕ ℕ ℕ ℕ ℕ ℕ ℕ ℕ ℕ ℕ ℕ ℕ ℕ ℕ ℕ argument_step arith_step value_step command_step member_step form_step of_step piece_step test_step part_step assign_step case_item_step item_step param_step term_step path_step ParamForm-F.Length

pub form_cut : (tail : Bool) (longest : Bool) (pattern : List Piece) → size_of_form (form.Cut tail longest pattern) ≡ size_of_pieces pattern
unfolding size_of_argument size_of_arith size_of_value size_of_command size_of_member size_of_form size_of_of size_of_piece size_of_test size_of_part size_of_assign size_of_case_item size_of_item size_of_param size_of_term size_of_path
form_cut tail longest pattern = ap size_of_form (sym (form.rolls-Cut tail longest pattern)) ∙ fold-roll-ParamForm ℕ ℕ ℕ ℕ ℕ ℕ ℕ ℕ ℕ ℕ ℕ ℕ ℕ ℕ ℕ ℕ argument_step arith_step value_step command_step member_step form_step of_step piece_step test_step part_step assign_step case_item_step item_step param_step term_step path_step (ParamForm-F.Cut tail longest pattern)

pub form_slice : (from : List Piece) (count : Option (List Piece)) → size_of_form (form.Slice from count) ≡ size_of_pieces from + word_if_there count
unfolding size_of_argument size_of_arith size_of_value size_of_command size_of_member size_of_form size_of_of size_of_piece size_of_test size_of_part size_of_assign size_of_case_item size_of_item size_of_param size_of_term size_of_path
form_slice from None = ap size_of_form (sym (form.rolls-Slice from None)) ∙ fold-roll-ParamForm ℕ ℕ ℕ ℕ ℕ ℕ ℕ ℕ ℕ ℕ ℕ ℕ ℕ ℕ ℕ ℕ argument_step arith_step value_step command_step member_step form_step of_step piece_step test_step part_step assign_step case_item_step item_step param_step term_step path_step (ParamForm-F.Slice from None)
form_slice from (Some count) = ap size_of_form (sym (form.rolls-Slice from (Some count))) ∙ fold-roll-ParamForm ℕ ℕ ℕ ℕ ℕ ℕ ℕ ℕ ℕ ℕ ℕ ℕ ℕ ℕ ℕ ℕ argument_step arith_step value_step command_step member_step form_step of_step piece_step test_step part_step assign_step case_item_step item_step param_step term_step path_step (ParamForm-F.Slice from (Some count))

pub form_replace : (which : Replaced) (pattern : List Piece) (with : List Piece) → size_of_form (form.Replace which pattern with) ≡ size_of_pieces pattern + size_of_pieces with
unfolding size_of_argument size_of_arith size_of_value size_of_command size_of_member size_of_form size_of_of size_of_piece size_of_test size_of_part size_of_assign size_of_case_item size_of_item size_of_param size_of_term size_of_path
form_replace which pattern with = ap size_of_form (sym (form.rolls-Replace which pattern with)) ∙ fold-roll-ParamForm ℕ ℕ ℕ ℕ ℕ ℕ ℕ ℕ ℕ ℕ ℕ ℕ ℕ ℕ ℕ ℕ argument_step arith_step value_step command_step member_step form_step of_step piece_step test_step part_step assign_step case_item_step item_step param_step term_step path_step (ParamForm-F.Replace which pattern with)

pub form_target : size_of_form form.Target ≡ 0
unfolding size_of_argument size_of_arith size_of_value size_of_command size_of_member size_of_form size_of_of size_of_piece size_of_test size_of_part size_of_assign size_of_case_item size_of_item size_of_param size_of_term size_of_path
form_target = ap size_of_form (sym form.rolls-Target) ∙ fold-roll-ParamForm ℕ ℕ ℕ ℕ ℕ ℕ ℕ ℕ ℕ ℕ ℕ ℕ ℕ ℕ ℕ ℕ argument_step arith_step value_step command_step member_step form_step of_step piece_step test_step part_step assign_step case_item_step item_step param_step term_step path_step ParamForm-F.Target

pub of_var : (path : TreePath) → size_of_of (of.Var path) ≡ size_of_path path
unfolding size_of_argument size_of_arith size_of_value size_of_command size_of_member size_of_form size_of_of size_of_piece size_of_test size_of_part size_of_assign size_of_case_item size_of_item size_of_param size_of_term size_of_path
of_var path = ap size_of_of (sym (of.rolls-Var path)) ∙ fold-roll-ParamOf ℕ ℕ ℕ ℕ ℕ ℕ ℕ ℕ ℕ ℕ ℕ ℕ ℕ ℕ ℕ ℕ argument_step arith_step value_step command_step member_step form_step of_step piece_step test_step part_step assign_step case_item_step item_step param_step term_step path_step (ParamOf-F.Var path)

pub of_special : (text : List ℕ) → size_of_of (of.Special text) ≡ 0
unfolding size_of_argument size_of_arith size_of_value size_of_command size_of_member size_of_form size_of_of size_of_piece size_of_test size_of_part size_of_assign size_of_case_item size_of_item size_of_param size_of_term size_of_path
of_special text = ap size_of_of (sym (of.rolls-Special text)) ∙ fold-roll-ParamOf ℕ ℕ ℕ ℕ ℕ ℕ ℕ ℕ ℕ ℕ ℕ ℕ ℕ ℕ ℕ ℕ argument_step arith_step value_step command_step member_step form_step of_step piece_step test_step part_step assign_step case_item_step item_step param_step term_step path_step (ParamOf-F.Special text)

pub of_prefix : (text : List ℕ) → size_of_of (of.Prefix text) ≡ 0
unfolding size_of_argument size_of_arith size_of_value size_of_command size_of_member size_of_form size_of_of size_of_piece size_of_test size_of_part size_of_assign size_of_case_item size_of_item size_of_param size_of_term size_of_path
of_prefix text = ap size_of_of (sym (of.rolls-Prefix text)) ∙ fold-roll-ParamOf ℕ ℕ ℕ ℕ ℕ ℕ ℕ ℕ ℕ ℕ ℕ ℕ ℕ ℕ ℕ ℕ argument_step arith_step value_step command_step member_step form_step of_step piece_step test_step part_step assign_step case_item_step item_step param_step term_step path_step (ParamOf-F.Prefix text)

pub part_member : (name : List ℕ) → size_of_part (part.Member name) ≡ 1
unfolding size_of_argument size_of_arith size_of_value size_of_command size_of_member size_of_form size_of_of size_of_piece size_of_test size_of_part size_of_assign size_of_case_item size_of_item size_of_param size_of_term size_of_path
part_member name = ap size_of_part (sym (part.rolls-Member name)) ∙ fold-roll-TreePart ℕ ℕ ℕ ℕ ℕ ℕ ℕ ℕ ℕ ℕ ℕ ℕ ℕ ℕ ℕ ℕ argument_step arith_step value_step command_step member_step form_step of_step piece_step test_step part_step assign_step case_item_step item_step param_step term_step path_step (TreePart-F.Member name)

pub part_sub : (word : List Piece) → size_of_part (part.Sub word) ≡ 1 + size_of_pieces word
unfolding size_of_argument size_of_arith size_of_value size_of_command size_of_member size_of_form size_of_of size_of_piece size_of_test size_of_part size_of_assign size_of_case_item size_of_item size_of_param size_of_term size_of_path
part_sub word = ap size_of_part (sym (part.rolls-Sub word)) ∙ fold-roll-TreePart ℕ ℕ ℕ ℕ ℕ ℕ ℕ ℕ ℕ ℕ ℕ ℕ ℕ ℕ ℕ ℕ argument_step arith_step value_step command_step member_step form_step of_step piece_step test_step part_step assign_step case_item_step item_step param_step term_step path_step (TreePart-F.Sub word)

pub part_each : size_of_part part.Each ≡ 1
unfolding size_of_argument size_of_arith size_of_value size_of_command size_of_member size_of_form size_of_of size_of_piece size_of_test size_of_part size_of_assign size_of_case_item size_of_item size_of_param size_of_term size_of_path
part_each = ap size_of_part (sym part.rolls-Each) ∙ fold-roll-TreePart ℕ ℕ ℕ ℕ ℕ ℕ ℕ ℕ ℕ ℕ ℕ ℕ ℕ ℕ ℕ ℕ argument_step arith_step value_step command_step member_step form_step of_step piece_step test_step part_step assign_step case_item_step item_step param_step term_step path_step TreePart-F.Each

pub part_joined : size_of_part part.Joined ≡ 1
unfolding size_of_argument size_of_arith size_of_value size_of_command size_of_member size_of_form size_of_of size_of_piece size_of_test size_of_part size_of_assign size_of_case_item size_of_item size_of_param size_of_term size_of_path
part_joined = ap size_of_part (sym part.rolls-Joined) ∙ fold-roll-TreePart ℕ ℕ ℕ ℕ ℕ ℕ ℕ ℕ ℕ ℕ ℕ ℕ ℕ ℕ ℕ ℕ argument_step arith_step value_step command_step member_step form_step of_step piece_step test_step part_step assign_step case_item_step item_step param_step term_step path_step TreePart-F.Joined

pub arith_parsed : (expr : ArithExpr) → size_of_arith (arith.Parsed expr) ≡ size_of_expr expr
unfolding size_of_argument size_of_arith size_of_value size_of_command size_of_member size_of_form size_of_of size_of_piece size_of_test size_of_part size_of_assign size_of_case_item size_of_item size_of_param size_of_term size_of_path
arith_parsed expr = ap size_of_arith (sym (arith.rolls-Parsed expr)) ∙ fold-roll-Arith ℕ ℕ ℕ ℕ ℕ ℕ ℕ ℕ ℕ ℕ ℕ ℕ ℕ ℕ ℕ ℕ argument_step arith_step value_step command_step member_step form_step of_step piece_step test_step part_step assign_step case_item_step item_step param_step term_step path_step (Arith-F.Parsed expr)

pub arith_text : (word : List Piece) → size_of_arith (arith.Text word) ≡ size_of_pieces word
unfolding size_of_argument size_of_arith size_of_value size_of_command size_of_member size_of_form size_of_of size_of_piece size_of_test size_of_part size_of_assign size_of_case_item size_of_item size_of_param size_of_term size_of_path
arith_text word = ap size_of_arith (sym (arith.rolls-Text word)) ∙ fold-roll-Arith ℕ ℕ ℕ ℕ ℕ ℕ ℕ ℕ ℕ ℕ ℕ ℕ ℕ ℕ ℕ ℕ argument_step arith_step value_step command_step member_step form_step of_step piece_step test_step part_step assign_step case_item_step item_step param_step term_step path_step (Arith-F.Text word)

pub piece_literal : (text : List ℕ) (quoted : Bool) → size_of_piece (piece.Literal text quoted) ≡ 1
unfolding size_of_argument size_of_arith size_of_value size_of_command size_of_member size_of_form size_of_of size_of_piece size_of_test size_of_part size_of_assign size_of_case_item size_of_item size_of_param size_of_term size_of_path
piece_literal text quoted = ap size_of_piece (sym (piece.rolls-Literal text quoted)) ∙ fold-roll-Piece ℕ ℕ ℕ ℕ ℕ ℕ ℕ ℕ ℕ ℕ ℕ ℕ ℕ ℕ ℕ ℕ argument_step arith_step value_step command_step member_step form_step of_step piece_step test_step part_step assign_step case_item_step item_step param_step term_step path_step (Piece-F.Literal text quoted)

pub piece_expand : (param : Param) (quoted : Bool) → size_of_piece (piece.Expand param quoted) ≡ 1 + size_of_param param
unfolding size_of_argument size_of_arith size_of_value size_of_command size_of_member size_of_form size_of_of size_of_piece size_of_test size_of_part size_of_assign size_of_case_item size_of_item size_of_param size_of_term size_of_path
piece_expand param quoted = ap size_of_piece (sym (piece.rolls-Expand param quoted)) ∙ fold-roll-Piece ℕ ℕ ℕ ℕ ℕ ℕ ℕ ℕ ℕ ℕ ℕ ℕ ℕ ℕ ℕ ℕ argument_step arith_step value_step command_step member_step form_step of_step piece_step test_step part_step assign_step case_item_step item_step param_step term_step path_step (Piece-F.Expand param quoted)

pub piece_subst : (body : List Item) (kind : SubstKind) (quoted : Bool) → size_of_piece (piece.Subst body kind quoted) ≡ 1 + size_of_items body
unfolding size_of_argument size_of_arith size_of_value size_of_command size_of_member size_of_form size_of_of size_of_piece size_of_test size_of_part size_of_assign size_of_case_item size_of_item size_of_param size_of_term size_of_path
piece_subst body kind quoted = ap size_of_piece (sym (piece.rolls-Subst body kind quoted)) ∙ fold-roll-Piece ℕ ℕ ℕ ℕ ℕ ℕ ℕ ℕ ℕ ℕ ℕ ℕ ℕ ℕ ℕ ℕ argument_step arith_step value_step command_step member_step form_step of_step piece_step test_step part_step assign_step case_item_step item_step param_step term_step path_step (Piece-F.Subst body kind quoted)

pub piece_number : (text : Arith) (quoted : Bool) → size_of_piece (piece.Number text quoted) ≡ 1 + size_of_arith text
unfolding size_of_argument size_of_arith size_of_value size_of_command size_of_member size_of_form size_of_of size_of_piece size_of_test size_of_part size_of_assign size_of_case_item size_of_item size_of_param size_of_term size_of_path
piece_number text quoted = ap size_of_piece (sym (piece.rolls-Number text quoted)) ∙ fold-roll-Piece ℕ ℕ ℕ ℕ ℕ ℕ ℕ ℕ ℕ ℕ ℕ ℕ ℕ ℕ ℕ ℕ argument_step arith_step value_step command_step member_step form_step of_step piece_step test_step part_step assign_step case_item_step item_step param_step term_step path_step (Piece-F.Number text quoted)

pub argument_word : (word : List Piece) → size_of_argument (argument.Word word) ≡ size_of_pieces word
unfolding size_of_argument size_of_arith size_of_value size_of_command size_of_member size_of_form size_of_of size_of_piece size_of_test size_of_part size_of_assign size_of_case_item size_of_item size_of_param size_of_term size_of_path
argument_word word = ap size_of_argument (sym (argument.rolls-Word word)) ∙ fold-roll-Argument ℕ ℕ ℕ ℕ ℕ ℕ ℕ ℕ ℕ ℕ ℕ ℕ ℕ ℕ ℕ ℕ argument_step arith_step value_step command_step member_step form_step of_step piece_step test_step part_step assign_step case_item_step item_step param_step term_step path_step (Argument-F.Argument::Word word)

pub argument_assign : (assign : Assign) → size_of_argument (argument.Assign assign) ≡ size_of_assign assign
unfolding size_of_argument size_of_arith size_of_value size_of_command size_of_member size_of_form size_of_of size_of_piece size_of_test size_of_part size_of_assign size_of_case_item size_of_item size_of_param size_of_term size_of_path
argument_assign assign = ap size_of_argument (sym (argument.rolls-Assign assign)) ∙ fold-roll-Argument ℕ ℕ ℕ ℕ ℕ ℕ ℕ ℕ ℕ ℕ ℕ ℕ ℕ ℕ ℕ ℕ argument_step arith_step value_step command_step member_step form_step of_step piece_step test_step part_step assign_step case_item_step item_step param_step term_step path_step (Argument-F.Argument::Assign assign)

pub value_word : (word : List Piece) → size_of_value (value.Word word) ≡ size_of_pieces word
unfolding size_of_argument size_of_arith size_of_value size_of_command size_of_member size_of_form size_of_of size_of_piece size_of_test size_of_part size_of_assign size_of_case_item size_of_item size_of_param size_of_term size_of_path
value_word word = ap size_of_value (sym (value.rolls-Word word)) ∙ fold-roll-AssignValue ℕ ℕ ℕ ℕ ℕ ℕ ℕ ℕ ℕ ℕ ℕ ℕ ℕ ℕ ℕ ℕ argument_step arith_step value_step command_step member_step form_step of_step piece_step test_step part_step assign_step case_item_step item_step param_step term_step path_step (AssignValue-F.AssignValue::Word word)

pub value_words : (words : List (List Piece)) → size_of_value (value.Words words) ≡ size_of_words words
unfolding size_of_argument size_of_arith size_of_value size_of_command size_of_member size_of_form size_of_of size_of_piece size_of_test size_of_part size_of_assign size_of_case_item size_of_item size_of_param size_of_term size_of_path
value_words words = ap size_of_value (sym (value.rolls-Words words)) ∙ fold-roll-AssignValue ℕ ℕ ℕ ℕ ℕ ℕ ℕ ℕ ℕ ℕ ℕ ℕ ℕ ℕ ℕ ℕ argument_step arith_step value_step command_step member_step form_step of_step piece_step test_step part_step assign_step case_item_step item_step param_step term_step path_step (AssignValue-F.Words words)

pub value_pairs : (pairs : List (Pair (List Piece))) → size_of_value (value.Pairs pairs) ≡ total_pairs (map pair_sizes pairs)
unfolding size_of_argument size_of_arith size_of_value size_of_command size_of_member size_of_form size_of_of size_of_piece size_of_test size_of_part size_of_assign size_of_case_item size_of_item size_of_param size_of_term size_of_path
value_pairs pairs = ap size_of_value (sym (value.rolls-Pairs pairs)) ∙ fold-roll-AssignValue ℕ ℕ ℕ ℕ ℕ ℕ ℕ ℕ ℕ ℕ ℕ ℕ ℕ ℕ ℕ ℕ argument_step arith_step value_step command_step member_step form_step of_step piece_step test_step part_step assign_step case_item_step item_step param_step term_step path_step (AssignValue-F.Pairs pairs)

pub value_members : (members : List Member) → size_of_value (value.Members members) ≡ total (map size_of_member members)
unfolding size_of_argument size_of_arith size_of_value size_of_command size_of_member size_of_form size_of_of size_of_piece size_of_test size_of_part size_of_assign size_of_case_item size_of_item size_of_param size_of_term size_of_path
value_members members = ap size_of_value (sym (value.rolls-Members members)) ∙ fold-roll-AssignValue ℕ ℕ ℕ ℕ ℕ ℕ ℕ ℕ ℕ ℕ ℕ ℕ ℕ ℕ ℕ ℕ argument_step arith_step value_step command_step member_step form_step of_step piece_step test_step part_step assign_step case_item_step item_step param_step term_step path_step (AssignValue-F.Members members)

pub member_assign : (assign : Assign) → size_of_member (member.Assign assign) ≡ 1 + size_of_assign assign
unfolding size_of_argument size_of_arith size_of_value size_of_command size_of_member size_of_form size_of_of size_of_piece size_of_test size_of_part size_of_assign size_of_case_item size_of_item size_of_param size_of_term size_of_path
member_assign assign = ap size_of_member (sym (member.rolls-Assign assign)) ∙ fold-roll-Member ℕ ℕ ℕ ℕ ℕ ℕ ℕ ℕ ℕ ℕ ℕ ℕ ℕ ℕ ℕ ℕ argument_step arith_step value_step command_step member_step form_step of_step piece_step test_step part_step assign_step case_item_step item_step param_step term_step path_step (Member-F.Member::Assign assign)

pub member_declare : (arguments : List Argument) → size_of_member (member.Declare arguments) ≡ 1 + total (map size_of_argument arguments)
unfolding size_of_argument size_of_arith size_of_value size_of_command size_of_member size_of_form size_of_of size_of_piece size_of_test size_of_part size_of_assign size_of_case_item size_of_item size_of_param size_of_term size_of_path
member_declare arguments = ap size_of_member (sym (member.rolls-Declare arguments)) ∙ fold-roll-Member ℕ ℕ ℕ ℕ ℕ ℕ ℕ ℕ ℕ ℕ ℕ ℕ ℕ ℕ ℕ ℕ argument_step arith_step value_step command_step member_step form_step of_step piece_step test_step part_step assign_step case_item_step item_step param_step term_step path_step (Member-F.Declare arguments)

pub member_function : (definition : FunctionDef (List Item)) → size_of_member (member.Function definition) ≡ 1 + size_of_items definition.body
unfolding size_of_argument size_of_arith size_of_value size_of_command size_of_member size_of_form size_of_of size_of_piece size_of_test size_of_part size_of_assign size_of_case_item size_of_item size_of_param size_of_term size_of_path
member_function definition = ap size_of_member (sym (member.rolls-Function definition)) ∙ fold-roll-Member ℕ ℕ ℕ ℕ ℕ ℕ ℕ ℕ ℕ ℕ ℕ ℕ ℕ ℕ ℕ ℕ argument_step arith_step value_step command_step member_step form_step of_step piece_step test_step part_step assign_step case_item_step item_step param_step term_step path_step (Member-F.Member::Function definition)

pub test_nested : (condition : List (List Term)) → size_of_test (test.Nested condition) ≡ size_of_condition condition
unfolding size_of_argument size_of_arith size_of_value size_of_command size_of_member size_of_form size_of_of size_of_piece size_of_test size_of_part size_of_assign size_of_case_item size_of_item size_of_param size_of_term size_of_path
test_nested condition = ap size_of_test (sym (test.rolls-Nested condition)) ∙ fold-roll-Test ℕ ℕ ℕ ℕ ℕ ℕ ℕ ℕ ℕ ℕ ℕ ℕ ℕ ℕ ℕ ℕ argument_step arith_step value_step command_step member_step form_step of_step piece_step test_step part_step assign_step case_item_step item_step param_step term_step path_step (Test-F.Nested condition)

pub test_unary : (op : UnaryTest) (word : List Piece) → size_of_test (test.Unary op word) ≡ size_of_pieces word
unfolding size_of_argument size_of_arith size_of_value size_of_command size_of_member size_of_form size_of_of size_of_piece size_of_test size_of_part size_of_assign size_of_case_item size_of_item size_of_param size_of_term size_of_path
test_unary op word = ap size_of_test (sym (test.rolls-Unary op word)) ∙ fold-roll-Test ℕ ℕ ℕ ℕ ℕ ℕ ℕ ℕ ℕ ℕ ℕ ℕ ℕ ℕ ℕ ℕ argument_step arith_step value_step command_step member_step form_step of_step piece_step test_step part_step assign_step case_item_step item_step param_step term_step path_step (Test-F.Unary op word)

pub test_binary : (left : List Piece) (op : BinaryTest) (right : List Piece) → size_of_test (test.Binary left op right) ≡ size_of_pieces left + size_of_pieces right
unfolding size_of_argument size_of_arith size_of_value size_of_command size_of_member size_of_form size_of_of size_of_piece size_of_test size_of_part size_of_assign size_of_case_item size_of_item size_of_param size_of_term size_of_path
test_binary left op right = ap size_of_test (sym (test.rolls-Binary left op right)) ∙ fold-roll-Test ℕ ℕ ℕ ℕ ℕ ℕ ℕ ℕ ℕ ℕ ℕ ℕ ℕ ℕ ℕ ℕ argument_step arith_step value_step command_step member_step form_step of_step piece_step test_step part_step assign_step case_item_step item_step param_step term_step path_step (Test-F.Binary left op right)

pub test_word : (word : List Piece) → size_of_test (test.Word word) ≡ size_of_pieces word
unfolding size_of_argument size_of_arith size_of_value size_of_command size_of_member size_of_form size_of_of size_of_piece size_of_test size_of_part size_of_assign size_of_case_item size_of_item size_of_param size_of_term size_of_path
test_word word = ap size_of_test (sym (test.rolls-Word word)) ∙ fold-roll-Test ℕ ℕ ℕ ℕ ℕ ℕ ℕ ℕ ℕ ℕ ℕ ℕ ℕ ℕ ℕ ℕ argument_step arith_step value_step command_step member_step form_step of_step piece_step test_step part_step assign_step case_item_step item_step param_step term_step path_step (Test-F.Test::Word word)

pub command_simple : (assigns : List Assign) (words : List Argument) (redirects : List (Redirect (List Piece))) → size_of_command (command.Simple assigns words redirects) ≡ 1 + total (map size_of_assign assigns) + total (map size_of_argument words) + size_of_redirects redirects
unfolding size_of_argument size_of_arith size_of_value size_of_command size_of_member size_of_form size_of_of size_of_piece size_of_test size_of_part size_of_assign size_of_case_item size_of_item size_of_param size_of_term size_of_path
command_simple assigns words redirects = ap size_of_command (sym (command.rolls-Simple assigns words redirects)) ∙ fold-roll-Command ℕ ℕ ℕ ℕ ℕ ℕ ℕ ℕ ℕ ℕ ℕ ℕ ℕ ℕ ℕ ℕ argument_step arith_step value_step command_step member_step form_step of_step piece_step test_step part_step assign_step case_item_step item_step param_step term_step path_step (Command-F.Simple assigns words redirects)

pub command_arith : (text : Arith) (redirects : List (Redirect (List Piece))) → size_of_command (command.Arith text redirects) ≡ 1 + size_of_arith text + size_of_redirects redirects
unfolding size_of_argument size_of_arith size_of_value size_of_command size_of_member size_of_form size_of_of size_of_piece size_of_test size_of_part size_of_assign size_of_case_item size_of_item size_of_param size_of_term size_of_path
command_arith text redirects = ap size_of_command (sym (command.rolls-Arith text redirects)) ∙ fold-roll-Command ℕ ℕ ℕ ℕ ℕ ℕ ℕ ℕ ℕ ℕ ℕ ℕ ℕ ℕ ℕ ℕ argument_step arith_step value_step command_step member_step form_step of_step piece_step test_step part_step assign_step case_item_step item_step param_step term_step path_step (Command-F.Arith text redirects)

pub command_cond : (test : List (List Term)) (redirects : List (Redirect (List Piece))) → size_of_command (command.Cond test redirects) ≡ 1 + size_of_condition test + size_of_redirects redirects
unfolding size_of_argument size_of_arith size_of_value size_of_command size_of_member size_of_form size_of_of size_of_piece size_of_test size_of_part size_of_assign size_of_case_item size_of_item size_of_param size_of_term size_of_path
command_cond test redirects = ap size_of_command (sym (command.rolls-Cond test redirects)) ∙ fold-roll-Command ℕ ℕ ℕ ℕ ℕ ℕ ℕ ℕ ℕ ℕ ℕ ℕ ℕ ℕ ℕ ℕ argument_step arith_step value_step command_step member_step form_step of_step piece_step test_step part_step assign_step case_item_step item_step param_step term_step path_step (Command-F.Cond test redirects)

pub command_group : (body : List Item) (redirects : List (Redirect (List Piece))) → size_of_command (command.Group body redirects) ≡ 1 + size_of_items body + size_of_redirects redirects
unfolding size_of_argument size_of_arith size_of_value size_of_command size_of_member size_of_form size_of_of size_of_piece size_of_test size_of_part size_of_assign size_of_case_item size_of_item size_of_param size_of_term size_of_path
command_group body redirects = ap size_of_command (sym (command.rolls-Group body redirects)) ∙ fold-roll-Command ℕ ℕ ℕ ℕ ℕ ℕ ℕ ℕ ℕ ℕ ℕ ℕ ℕ ℕ ℕ ℕ argument_step arith_step value_step command_step member_step form_step of_step piece_step test_step part_step assign_step case_item_step item_step param_step term_step path_step (Command-F.Group body redirects)

pub command_subshell : (body : List Item) (redirects : List (Redirect (List Piece))) → size_of_command (command.Subshell body redirects) ≡ 1 + size_of_items body + size_of_redirects redirects
unfolding size_of_argument size_of_arith size_of_value size_of_command size_of_member size_of_form size_of_of size_of_piece size_of_test size_of_part size_of_assign size_of_case_item size_of_item size_of_param size_of_term size_of_path
command_subshell body redirects = ap size_of_command (sym (command.rolls-Subshell body redirects)) ∙ fold-roll-Command ℕ ℕ ℕ ℕ ℕ ℕ ℕ ℕ ℕ ℕ ℕ ℕ ℕ ℕ ℕ ℕ argument_step arith_step value_step command_step member_step form_step of_step piece_step test_step part_step assign_step case_item_step item_step param_step term_step path_step (Command-F.Subshell body redirects)

pub command_if : (arms : List (Arm (List Item))) (otherwise : Option (List Item)) (redirects : List (Redirect (List Piece))) → size_of_command (command.If arms otherwise redirects) ≡ 1 + total_arms (map arm_sizes arms) + size_if_there otherwise + size_of_redirects redirects
unfolding size_of_argument size_of_arith size_of_value size_of_command size_of_member size_of_form size_of_of size_of_piece size_of_test size_of_part size_of_assign size_of_case_item size_of_item size_of_param size_of_term size_of_path
command_if arms None redirects = ap size_of_command (sym (command.rolls-If arms None redirects)) ∙ fold-roll-Command ℕ ℕ ℕ ℕ ℕ ℕ ℕ ℕ ℕ ℕ ℕ ℕ ℕ ℕ ℕ ℕ argument_step arith_step value_step command_step member_step form_step of_step piece_step test_step part_step assign_step case_item_step item_step param_step term_step path_step (Command-F.If arms None redirects)
command_if arms (Some otherwise) redirects = ap size_of_command (sym (command.rolls-If arms (Some otherwise) redirects)) ∙ fold-roll-Command ℕ ℕ ℕ ℕ ℕ ℕ ℕ ℕ ℕ ℕ ℕ ℕ ℕ ℕ ℕ ℕ argument_step arith_step value_step command_step member_step form_step of_step piece_step test_step part_step assign_step case_item_step item_step param_step term_step path_step (Command-F.If arms (Some otherwise) redirects)

pub command_loop : (until : Bool) (test : List Item) (body : List Item) (redirects : List (Redirect (List Piece))) → size_of_command (command.Loop until test body redirects) ≡ 1 + size_of_items test + size_of_items body + size_of_redirects redirects
unfolding size_of_argument size_of_arith size_of_value size_of_command size_of_member size_of_form size_of_of size_of_piece size_of_test size_of_part size_of_assign size_of_case_item size_of_item size_of_param size_of_term size_of_path
command_loop until test body redirects = ap size_of_command (sym (command.rolls-Loop until test body redirects)) ∙ fold-roll-Command ℕ ℕ ℕ ℕ ℕ ℕ ℕ ℕ ℕ ℕ ℕ ℕ ℕ ℕ ℕ ℕ argument_step arith_step value_step command_step member_step form_step of_step piece_step test_step part_step assign_step case_item_step item_step param_step term_step path_step (Command-F.Loop until test body redirects)

pub command_for : (name : List ℕ) (words : Option (List (List Piece))) (body : List Item) (redirects : List (Redirect (List Piece))) → size_of_command (command.For name words body redirects) ≡ 1 + words_if_there words + size_of_items body + size_of_redirects redirects
unfolding size_of_argument size_of_arith size_of_value size_of_command size_of_member size_of_form size_of_of size_of_piece size_of_test size_of_part size_of_assign size_of_case_item size_of_item size_of_param size_of_term size_of_path
command_for name None body redirects = ap size_of_command (sym (command.rolls-For name None body redirects)) ∙ fold-roll-Command ℕ ℕ ℕ ℕ ℕ ℕ ℕ ℕ ℕ ℕ ℕ ℕ ℕ ℕ ℕ ℕ argument_step arith_step value_step command_step member_step form_step of_step piece_step test_step part_step assign_step case_item_step item_step param_step term_step path_step (Command-F.For name None body redirects)
command_for name (Some words) body redirects = ap size_of_command (sym (command.rolls-For name (Some words) body redirects)) ∙ fold-roll-Command ℕ ℕ ℕ ℕ ℕ ℕ ℕ ℕ ℕ ℕ ℕ ℕ ℕ ℕ ℕ ℕ argument_step arith_step value_step command_step member_step form_step of_step piece_step test_step part_step assign_step case_item_step item_step param_step term_step path_step (Command-F.For name (Some words) body redirects)

pub command_for_arith : (first : Option Arith) (test : Option Arith) (step : Option Arith) (body : List Item) (redirects : List (Redirect (List Piece))) → size_of_command (command.ForArith first test step body redirects) ≡ 1 + (arith_if_there first + arith_if_there test + arith_if_there step) + size_of_items body + size_of_redirects redirects
unfolding size_of_argument size_of_arith size_of_value size_of_command size_of_member size_of_form size_of_of size_of_piece size_of_test size_of_part size_of_assign size_of_case_item size_of_item size_of_param size_of_term size_of_path
command_for_arith None None None body redirects = ap size_of_command (sym (command.rolls-ForArith None None None body redirects)) ∙ fold-roll-Command ℕ ℕ ℕ ℕ ℕ ℕ ℕ ℕ ℕ ℕ ℕ ℕ ℕ ℕ ℕ ℕ argument_step arith_step value_step command_step member_step form_step of_step piece_step test_step part_step assign_step case_item_step item_step param_step term_step path_step (Command-F.ForArith None None None body redirects)
command_for_arith None None (Some step) body redirects = ap size_of_command (sym (command.rolls-ForArith None None (Some step) body redirects)) ∙ fold-roll-Command ℕ ℕ ℕ ℕ ℕ ℕ ℕ ℕ ℕ ℕ ℕ ℕ ℕ ℕ ℕ ℕ argument_step arith_step value_step command_step member_step form_step of_step piece_step test_step part_step assign_step case_item_step item_step param_step term_step path_step (Command-F.ForArith None None (Some step) body redirects)
command_for_arith None (Some test) None body redirects = ap size_of_command (sym (command.rolls-ForArith None (Some test) None body redirects)) ∙ fold-roll-Command ℕ ℕ ℕ ℕ ℕ ℕ ℕ ℕ ℕ ℕ ℕ ℕ ℕ ℕ ℕ ℕ argument_step arith_step value_step command_step member_step form_step of_step piece_step test_step part_step assign_step case_item_step item_step param_step term_step path_step (Command-F.ForArith None (Some test) None body redirects)
command_for_arith None (Some test) (Some step) body redirects = ap size_of_command (sym (command.rolls-ForArith None (Some test) (Some step) body redirects)) ∙ fold-roll-Command ℕ ℕ ℕ ℕ ℕ ℕ ℕ ℕ ℕ ℕ ℕ ℕ ℕ ℕ ℕ ℕ argument_step arith_step value_step command_step member_step form_step of_step piece_step test_step part_step assign_step case_item_step item_step param_step term_step path_step (Command-F.ForArith None (Some test) (Some step) body redirects)
command_for_arith (Some first) None None body redirects = ap size_of_command (sym (command.rolls-ForArith (Some first) None None body redirects)) ∙ fold-roll-Command ℕ ℕ ℕ ℕ ℕ ℕ ℕ ℕ ℕ ℕ ℕ ℕ ℕ ℕ ℕ ℕ argument_step arith_step value_step command_step member_step form_step of_step piece_step test_step part_step assign_step case_item_step item_step param_step term_step path_step (Command-F.ForArith (Some first) None None body redirects)
command_for_arith (Some first) None (Some step) body redirects = ap size_of_command (sym (command.rolls-ForArith (Some first) None (Some step) body redirects)) ∙ fold-roll-Command ℕ ℕ ℕ ℕ ℕ ℕ ℕ ℕ ℕ ℕ ℕ ℕ ℕ ℕ ℕ ℕ argument_step arith_step value_step command_step member_step form_step of_step piece_step test_step part_step assign_step case_item_step item_step param_step term_step path_step (Command-F.ForArith (Some first) None (Some step) body redirects)
command_for_arith (Some first) (Some test) None body redirects = ap size_of_command (sym (command.rolls-ForArith (Some first) (Some test) None body redirects)) ∙ fold-roll-Command ℕ ℕ ℕ ℕ ℕ ℕ ℕ ℕ ℕ ℕ ℕ ℕ ℕ ℕ ℕ ℕ argument_step arith_step value_step command_step member_step form_step of_step piece_step test_step part_step assign_step case_item_step item_step param_step term_step path_step (Command-F.ForArith (Some first) (Some test) None body redirects)
command_for_arith (Some first) (Some test) (Some step) body redirects = ap size_of_command (sym (command.rolls-ForArith (Some first) (Some test) (Some step) body redirects)) ∙ fold-roll-Command ℕ ℕ ℕ ℕ ℕ ℕ ℕ ℕ ℕ ℕ ℕ ℕ ℕ ℕ ℕ ℕ argument_step arith_step value_step command_step member_step form_step of_step piece_step test_step part_step assign_step case_item_step item_step param_step term_step path_step (Command-F.ForArith (Some first) (Some test) (Some step) body redirects)

pub command_case : (word : List Piece) (items : List CaseItem) (redirects : List (Redirect (List Piece))) → size_of_command (command.Case word items redirects) ≡ 1 + size_of_pieces word + total (map size_of_case_item items) + size_of_redirects redirects
unfolding size_of_argument size_of_arith size_of_value size_of_command size_of_member size_of_form size_of_of size_of_piece size_of_test size_of_part size_of_assign size_of_case_item size_of_item size_of_param size_of_term size_of_path
command_case word items redirects = ap size_of_command (sym (command.rolls-Case word items redirects)) ∙ fold-roll-Command ℕ ℕ ℕ ℕ ℕ ℕ ℕ ℕ ℕ ℕ ℕ ℕ ℕ ℕ ℕ ℕ argument_step arith_step value_step command_step member_step form_step of_step piece_step test_step part_step assign_step case_item_step item_step param_step term_step path_step (Command-F.Case word items redirects)

pub command_select : (name : List ℕ) (words : Option (List (List Piece))) (body : List Item) (redirects : List (Redirect (List Piece))) → size_of_command (command.Select name words body redirects) ≡ 1 + words_if_there words + size_of_items body + size_of_redirects redirects
unfolding size_of_argument size_of_arith size_of_value size_of_command size_of_member size_of_form size_of_of size_of_piece size_of_test size_of_part size_of_assign size_of_case_item size_of_item size_of_param size_of_term size_of_path
command_select name None body redirects = ap size_of_command (sym (command.rolls-Select name None body redirects)) ∙ fold-roll-Command ℕ ℕ ℕ ℕ ℕ ℕ ℕ ℕ ℕ ℕ ℕ ℕ ℕ ℕ ℕ ℕ argument_step arith_step value_step command_step member_step form_step of_step piece_step test_step part_step assign_step case_item_step item_step param_step term_step path_step (Command-F.Select name None body redirects)
command_select name (Some words) body redirects = ap size_of_command (sym (command.rolls-Select name (Some words) body redirects)) ∙ fold-roll-Command ℕ ℕ ℕ ℕ ℕ ℕ ℕ ℕ ℕ ℕ ℕ ℕ ℕ ℕ ℕ ℕ argument_step arith_step value_step command_step member_step form_step of_step piece_step test_step part_step assign_step case_item_step item_step param_step term_step path_step (Command-F.Select name (Some words) body redirects)

pub command_function : (definition : FunctionDef (List Item)) → size_of_command (command.Function definition) ≡ 1 + size_of_items definition.body
unfolding size_of_argument size_of_arith size_of_value size_of_command size_of_member size_of_form size_of_of size_of_piece size_of_test size_of_part size_of_assign size_of_case_item size_of_item size_of_param size_of_term size_of_path
command_function definition = ap size_of_command (sym (command.rolls-Function definition)) ∙ fold-roll-Command ℕ ℕ ℕ ℕ ℕ ℕ ℕ ℕ ℕ ℕ ℕ ℕ ℕ ℕ ℕ ℕ argument_step arith_step value_step command_step member_step form_step of_step piece_step test_step part_step assign_step case_item_step item_step param_step term_step path_step (Command-F.Command::Function definition)

pub command_pipeline : (members : List (List Item)) → size_of_command (command.Pipeline members) ≡ 1 + total_all (map (map size_of_item) members)
unfolding size_of_argument size_of_arith size_of_value size_of_command size_of_member size_of_form size_of_of size_of_piece size_of_test size_of_part size_of_assign size_of_case_item size_of_item size_of_param size_of_term size_of_path
command_pipeline members = ap size_of_command (sym (command.rolls-Pipeline members)) ∙ fold-roll-Command ℕ ℕ ℕ ℕ ℕ ℕ ℕ ℕ ℕ ℕ ℕ ℕ ℕ ℕ ℕ ℕ argument_step arith_step value_step command_step member_step form_step of_step piece_step test_step part_step assign_step case_item_step item_step param_step term_step path_step (Command-F.Pipeline members)

pub command_and_or : (first : Command) (rest : List (Link Command)) → size_of_command (command.AndOr first rest) ≡ 1 + size_of_command first + total_links (map link_size rest)
unfolding size_of_argument size_of_arith size_of_value size_of_command size_of_member size_of_form size_of_of size_of_piece size_of_test size_of_part size_of_assign size_of_case_item size_of_item size_of_param size_of_term size_of_path
command_and_or first rest = ap size_of_command (sym (command.rolls-AndOr first rest)) ∙ fold-roll-Command ℕ ℕ ℕ ℕ ℕ ℕ ℕ ℕ ℕ ℕ ℕ ℕ ℕ ℕ ℕ ℕ argument_step arith_step value_step command_step member_step form_step of_step piece_step test_step part_step assign_step case_item_step item_step param_step term_step path_step (Command-F.AndOr first rest)

pub command_not : (inner : Command) → size_of_command (command.Not inner) ≡ 1 + size_of_command inner
unfolding size_of_argument size_of_arith size_of_value size_of_command size_of_member size_of_form size_of_of size_of_piece size_of_test size_of_part size_of_assign size_of_case_item size_of_item size_of_param size_of_term size_of_path
command_not inner = ap size_of_command (sym (command.rolls-Not inner)) ∙ fold-roll-Command ℕ ℕ ℕ ℕ ℕ ℕ ℕ ℕ ℕ ℕ ℕ ℕ ℕ ℕ ℕ ℕ argument_step arith_step value_step command_step member_step form_step of_step piece_step test_step part_step assign_step case_item_step item_step param_step term_step path_step (Command-F.Not inner)

pub command_background : (inner : List Item) (coprocess : Bool) → size_of_command (command.Background inner coprocess) ≡ 1 + size_of_items inner
unfolding size_of_argument size_of_arith size_of_value size_of_command size_of_member size_of_form size_of_of size_of_piece size_of_test size_of_part size_of_assign size_of_case_item size_of_item size_of_param size_of_term size_of_path
command_background inner coprocess = ap size_of_command (sym (command.rolls-Background inner coprocess)) ∙ fold-roll-Command ℕ ℕ ℕ ℕ ℕ ℕ ℕ ℕ ℕ ℕ ℕ ℕ ℕ ℕ ℕ ℕ argument_step arith_step value_step command_step member_step form_step of_step piece_step test_step part_step assign_step case_item_step item_step param_step term_step path_step (Command-F.Background inner coprocess)

pub assign_parts : (a : Assign) → size_of_assign a ≡ 1 + size_of_path a.path + size_of_value a.value
unfolding size_of_argument size_of_arith size_of_value size_of_command size_of_member size_of_form size_of_of size_of_piece size_of_test size_of_part size_of_assign size_of_case_item size_of_item size_of_param size_of_term size_of_path
assign_parts a = fold_out-Assign ℕ ℕ ℕ ℕ ℕ ℕ ℕ ℕ ℕ ℕ ℕ ℕ ℕ ℕ ℕ ℕ argument_step arith_step value_step command_step member_step form_step of_step piece_step test_step part_step assign_step case_item_step item_step param_step term_step path_step a

pub case_item_parts : (i : CaseItem) → size_of_case_item i ≡ size_of_words (out-CaseItem i).patterns + size_of_items (out-CaseItem i).body
unfolding size_of_argument size_of_arith size_of_value size_of_command size_of_member size_of_form size_of_of size_of_piece size_of_test size_of_part size_of_assign size_of_case_item size_of_item size_of_param size_of_term size_of_path
case_item_parts i = fold_out-CaseItem ℕ ℕ ℕ ℕ ℕ ℕ ℕ ℕ ℕ ℕ ℕ ℕ ℕ ℕ ℕ ℕ argument_step arith_step value_step command_step member_step form_step of_step piece_step test_step part_step assign_step case_item_step item_step param_step term_step path_step i

pub item_command : (i : Item) → size_of_item i ≡ size_of_command i.command
unfolding size_of_argument size_of_arith size_of_value size_of_command size_of_member size_of_form size_of_of size_of_piece size_of_test size_of_part size_of_assign size_of_case_item size_of_item size_of_param size_of_term size_of_path
item_command i = fold_out-Item ℕ ℕ ℕ ℕ ℕ ℕ ℕ ℕ ℕ ℕ ℕ ℕ ℕ ℕ ℕ ℕ argument_step arith_step value_step command_step member_step form_step of_step piece_step test_step part_step assign_step case_item_step item_step param_step term_step path_step i

pub param_parts : (p : Param) → size_of_param p ≡ size_of_of p.of + size_of_form p.form
unfolding size_of_argument size_of_arith size_of_value size_of_command size_of_member size_of_form size_of_of size_of_piece size_of_test size_of_part size_of_assign size_of_case_item size_of_item size_of_param size_of_term size_of_path
param_parts p = fold_out-Param ℕ ℕ ℕ ℕ ℕ ℕ ℕ ℕ ℕ ℕ ℕ ℕ ℕ ℕ ℕ ℕ argument_step arith_step value_step command_step member_step form_step of_step piece_step test_step part_step assign_step case_item_step item_step param_step term_step path_step p

pub term_test : (t : Term) → size_of_term t ≡ 1 + size_of_test t.test
unfolding size_of_argument size_of_arith size_of_value size_of_command size_of_member size_of_form size_of_of size_of_piece size_of_test size_of_part size_of_assign size_of_case_item size_of_item size_of_param size_of_term size_of_path
term_test t = fold_out-Term ℕ ℕ ℕ ℕ ℕ ℕ ℕ ℕ ℕ ℕ ℕ ℕ ℕ ℕ ℕ ℕ argument_step arith_step value_step command_step member_step form_step of_step piece_step test_step part_step assign_step case_item_step item_step param_step term_step path_step t

pub path_parts : (p : TreePath) → size_of_path p ≡ total (map size_of_part p.parts)
unfolding size_of_argument size_of_arith size_of_value size_of_command size_of_member size_of_form size_of_of size_of_piece size_of_test size_of_part size_of_assign size_of_case_item size_of_item size_of_param size_of_term size_of_path
path_parts p = fold_out-TreePath ℕ ℕ ℕ ℕ ℕ ℕ ℕ ℕ ℕ ℕ ℕ ℕ ℕ ℕ ℕ ℕ argument_step arith_step value_step command_step member_step form_step of_step piece_step test_step part_step assign_step case_item_step item_step param_step term_step path_step p

pub ruleset expressions = (node_number, node_variable, node_unary, node_step, node_power, node_chain, node_choice, node_assign, link_operand)

pub ruleset form_sizes = (form_plain, form_instead, form_assign, form_fault, form_other, form_length, form_cut, form_slice, form_replace, form_target)

pub ruleset of_sizes = (path_parts, of_var, of_special, of_prefix)

pub ruleset part_sizes = (part_member, part_sub, part_each, part_joined)

pub ruleset arith_sizes = (arith_parsed, arith_text)

pub ruleset piece_sizes = (piece_literal, piece_expand, piece_subst, piece_number)

pub ruleset argument_sizes = (argument_word, argument_assign)

pub ruleset value_sizes = (value_word, value_words, value_pairs, value_members)

pub ruleset member_sizes = (member_assign, member_declare, member_function)

pub ruleset test_sizes = (test_nested, test_unary, test_binary, test_word)

pub ruleset command_sizes = (command_simple, command_arith, command_cond, command_group, command_subshell, command_if, command_loop, command_for, command_for_arith, command_case, command_select, command_function, command_pipeline, command_and_or, command_not, command_background)
