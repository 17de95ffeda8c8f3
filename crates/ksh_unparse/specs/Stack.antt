-- What is left to write, as marks.
use Rattle.std.specs.Prelude.{List, [], ◌∷◌, Option, Some, None, reverse, map, decimal, codes}
use Rattle.ksh_ast.specs.declared.tree.Arith.{Arith}
use Rattle.ksh_unparse.specs.Layout.{Mark}
use Rattle.ksh_unparse.specs.Marks.{Put, say, line, begin_body, end_body, quote, escape, each, lines, behind_lines, behind}
use Rattle.ksh_unparse.specs.Words.{Spot, word_put, body_put, pieces_put}
use Rattle.ksh_unparse.specs.Arith.{expr_put, link_put, links_put, arith_parts_put}
use Rattle.ksh_unparse.specs.Commands.{redirects_put, pairs_behind, words_behind, arguments_put, names_behind, terms_put, condition_behind, elifs_put, section, stages_behind}
use Rattle.ksh_unparse.specs.Tree.{piece_spot, item_put, command_put, argument_put, assign_put, member_put, part_put, term_put, case_item_put, arith_put}
use Rattle.ksh_unparse.specs.declared.left.Task.{Task}
use Rattle.ksh_unparse.specs.declared.left.Task.TheVariants as task
use Rattle.ksh_ast.specs.declared.redirect.Redirect.{Redirect}
use Rattle.ksh_ast.specs.declared.tree.Arm.{Arm}
use Rattle.ksh_ast.specs.declared.tree.Item.{Item}
use Rattle.ksh_ast.specs.declared.tree.Command.{Command}
use Rattle.ksh_ast.specs.declared.tree.FunctionDef.{FunctionDef}
use Rattle.ksh_ast.specs.declared.tree.Link.{Link}
use Rattle.ksh_ast.specs.declared.tree.Pair.{Pair}
use Rattle.ksh_ast.specs.declared.tree.Piece.{Piece}
use Rattle.ksh_unparse.specs.Commands as commands

-- the marks of what has the tree's types inside it

abbrev pub word_spots : List Piece → List Spot
word_spots = map piece_spot

abbrev pub list_puts : List Item → List Put
list_puts = map item_put

abbrev pub redirect_spots : Redirect (List Piece) → Redirect (List Spot)
redirect_spots r = record { to = r.to; form = r.form; word = word_spots r.word }

abbrev pub pair_spots : Pair (List Piece) → Pair (List Spot)
pair_spots p = record { subscript = word_spots p.subscript; value = word_spots p.value }

abbrev pub arm_puts : Arm (List Item) → Arm (List Put)
arm_puts a = record { test = list_puts a.test; body = list_puts a.body }

abbrev pub link_puts : Link Command → Link Put
link_puts l = record { or = l.or; command = command_put l.command }

abbrev pub function_puts : FunctionDef (List Item) → FunctionDef (List Put)
function_puts d = record { name = d.name; own_scope = d.own_scope; body = list_puts d.body; text = d.text }

-- what each task writes
abbrev pub task_marks : Task → Put
task_marks (task.Bytes bytes) = say bytes.now
task_marks (task.Quoted text) = quote text.now
task_marks (task.Escaped text) = escape text.now
task_marks (task.Number n) = say (decimal n)
task_marks task.Line = line
task_marks task.Open = begin_body
task_marks task.Close = end_body
task_marks (task.List list) = lines (list_puts list.now)
task_marks (task.BehindLines list) = behind_lines (list_puts list.now)
task_marks (task.Command command) = command_put command.now
task_marks (task.Word word) = word_put (word_spots word.now)
task_marks (task.Body word) = body_put (word_spots word.now)
task_marks (task.Pieces word arithmetic inside) = pieces_put arithmetic inside (word_spots word.now)
task_marks (task.Words bytes words) = words_behind bytes.now (map word_spots words.now)
task_marks (task.Arguments arguments) = arguments_put (map argument_put arguments.now)
task_marks (task.Assign assign) = assign_put assign.now
task_marks (task.Assigns assigns) = behind (codes " ") (map assign_put assigns.now)
task_marks (task.Redirects redirects) = redirects_put (map redirect_spots redirects.now)
task_marks (task.Pairs pairs) = pairs_behind (map pair_spots pairs.now)
task_marks (task.Members members) = behind (codes "; ") (map member_put members.now)
task_marks (task.Parts parts) = each (map part_put parts.now)
task_marks (task.Names names) = names_behind names.now
task_marks (task.Term term) = term_put term.now
task_marks (task.Terms terms) = behind (codes " && ") (map term_put terms.now)
task_marks (task.Alternatives condition) = condition_behind (map (map term_put) condition.now)
task_marks (task.Arms arms) = elifs_put (map arm_puts arms.now)
task_marks (task.CaseItems items) = each (map case_item_put items.now)
task_marks (task.Stages members) = stages_behind (map list_puts members.now)
task_marks (task.Links links) = commands.links_put (map link_puts links.now)
task_marks (task.Expr e level) = expr_put e.now level
task_marks (task.ExprLinks links level) = links_put level (map link_put links.now)
task_marks (task.ExprParts parts) = arith_parts_put parts.now

abbrev pub marks_of : List Task → List Mark
marks_of [] = []
marks_of (t ∷ ts) = task_marks t (marks_of ts)

-- the last task is the first to be done
unfoldable pub to_write : List Task → List Mark
to_write tasks = marks_of (reverse tasks)

-- arithmetic that may be missing
abbrev pub maybe_arith : Option Arith → Put
maybe_arith None rest = rest
maybe_arith (Some text) rest = arith_put text rest

-- `else`, which may be missing
abbrev pub maybe_else : Option (List Item) → Put
maybe_else None rest = rest
maybe_else (Some list) rest = section (codes "else") (list_puts list) rest
