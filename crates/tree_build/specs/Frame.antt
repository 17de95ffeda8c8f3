-- What is open of a tree that is being read.
use Rattle.std.specs.Prelude.{ℕ, Bool, List, Option}
use Rattle.ksh_ast.specs.declared.kinds.SubstKind.{SubstKind}
use Rattle.ksh_ast.specs.declared.redirect.Redirect.{Redirect}
use Rattle.ksh_ast.specs.declared.redirect.RedirectForm.{RedirectForm}
use Rattle.ksh_ast.specs.declared.redirect.RedirectTo.{RedirectTo}
use Rattle.ksh_ast.specs.declared.tree.Argument.{Argument}
use Rattle.ksh_ast.specs.declared.tree.Arith.{Arith}
use Rattle.ksh_ast.specs.declared.tree.Arm.{Arm}
use Rattle.ksh_ast.specs.declared.tree.Assign.{Assign}
use Rattle.ksh_ast.specs.declared.tree.CaseItem.{CaseItem}
use Rattle.ksh_ast.specs.declared.tree.Command.{Command}
use Rattle.ksh_ast.specs.declared.tree.FunctionDef.{FunctionDef}
use Rattle.ksh_ast.specs.declared.tree.Item.{Item}
use Rattle.ksh_ast.specs.declared.tree.Link.{Link}
use Rattle.ksh_ast.specs.declared.tree.ParamOf.{ParamOf}
use Rattle.ksh_ast.specs.declared.tree.Piece.{Piece}
use Rattle.ksh_ast.specs.declared.tree.Term.{Term}
use Rattle.ksh_ast.specs.declared.tree.Test.{Test}
use Rattle.ksh_ast.specs.declared.tree.TreePath.{TreePath}
use Rattle.ksh_lexer.specs.declared.kind.Form.{Form}
use Rattle.tree_parts.specs.declared.asked.Asked.{Asked}
use Rattle.tree_parts.specs.declared.entry.Entry.{Entry}
use Rattle.tree_build.specs.declared.opening.Opening.{Opening}
use Rattle.tree_build.specs.declared.opening.Opening.TheVariants as opening

-- a part of a tree, whole or as far as it was read
pub data Frame : Type 0 where
  -- what opens a part of which nothing else was read
  Opened : Opening → Frame
  -- pieces of a text
  Text : (List Piece) → Frame
  -- the whole text of a subscript
  Subscript : (List Piece) → Frame
  -- what stands before a parameter's name, and the parameter; whether it is quoted
  Parameter : Bool → Asked → ParamOf → Frame
  -- a parameter with a form, and the first of its two texts where that was read; whether it is quoted
  Formed : Bool → ParamOf → Form → (Option (List Piece)) → Frame
  -- a word, from one place to another, and whether it begins with `path=` or `path+=`
  Whole : (List Piece) → ℕ → ℕ → Bool → Frame
  -- the place and the path before a subscript of an assignment
  Target : ℕ → TreePath → Frame
  -- the same where no assignment goes on: the front of a word
  Element : ℕ → TreePath → Frame
  -- a path, and whether `+=` stands behind it
  Assigning : TreePath → Bool → Frame
  -- an assignment
  Assigned : Assign → Frame
  -- the subscript of a pair
  Keyed : (List Piece) → Frame
  -- what stands in a value's parentheses
  Value : (List Entry) → Frame
  -- the operator of a redirection
  Redirection : RedirectTo → RedirectForm → Frame
  -- the operator of a here-document
  HereOperator : RedirectTo → Frame
  -- the same with the word that ends its body
  HereWord : RedirectTo → (List ℕ) → Frame
  -- the same, where the body begins
  HereBody : RedirectTo → (List ℕ) → Frame
  -- a redirection
  Redirected : (Redirect (List Piece)) → Frame
  -- a simple command: the place and line of its first byte, its assignments, words and redirections
  Simple : ℕ → ℕ → (List Assign) → (List Argument) → (List (Redirect (List Piece))) → Frame
  -- the line of a compound command's first byte, the command, and the redirections behind it
  Compound : ℕ → Command → (List (Redirect (List Piece))) → Frame
  -- a command, and the line of its first byte
  Finished : ℕ → Command → Frame
  -- a pipeline's first line, whether a `!` stands before it, and commands with a `|` behind each
  Stages : ℕ → Bool → (List (List Item)) → Frame
  -- a pipeline, and the line of its first byte
  Piped : ℕ → Command → Frame
  -- the first line of a list of pipelines, pipelines with `&&` or `||` between them, and whether `||` stands behind the last
  Linked : ℕ → Command → (List (Link Command)) → Bool → Frame
  -- a list of pipelines, and the line of its first byte
  Chain : ℕ → Command → Frame
  -- commands of a list
  Lines : (List Item) → Frame
  -- a whole list
  Listed : (List Item) → Frame
  -- the place and line of a function's first byte, whether that was `function`, and its name, or `name()`
  FunctionName : ℕ → ℕ → Bool → (List (List ℕ)) → Frame
  -- a function, and the line of its first byte
  Defined : ℕ → (FunctionDef (List Item)) → Frame
  -- the line of `if`, and the arms before this `if` or `elif`
  If : ℕ → (List (Arm (List Item))) → Frame
  -- the same, and a test with its `then`
  Then : ℕ → (List (Arm (List Item))) → (List Item) → Frame
  -- all arms, and `else`
  Else : ℕ → (List (Arm (List Item))) → Frame
  -- the line of a loop, whether it is `until`, and its test with its `do`
  LoopBody : ℕ → Bool → (List Item) → Frame
  -- the line of `for`, or `select`, and the name
  ForName : ℕ → Bool → (List ℕ) → Frame
  -- the same with `in` and words
  ForWords : ℕ → Bool → (List ℕ) → (List (List Piece)) → Frame
  -- the same behind the newline or `;` that ends the words
  ForReady : ℕ → Bool → (List ℕ) → (List (List Piece)) → Frame
  -- the same with `do`; the words where there was an `in`
  ForBody : ℕ → Bool → (List ℕ) → (Option (List (List Piece))) → Frame
  -- `for ((` and expressions
  ForArithmetic : ℕ → (List (Option Arith)) → Frame
  -- the same with `do`
  ForArithmeticBody : ℕ → (List (Option Arith)) → Frame
  -- the line of `case`, and its word
  CaseWord : ℕ → (List Piece) → Frame
  -- the same with `in` and items
  Cases : ℕ → (List Piece) → (List CaseItem) → Frame
  -- patterns of an item of `case`
  Patterns : (List (List Piece)) → Frame
  -- alternatives of a condition, terms behind the last `||`, and whether an odd number of `!` stands behind them
  Terms : (List (List Term)) → (List Term) → Bool → Frame
  -- the words of a term
  Operands : (List (List Piece)) → Frame
  -- a term's test
  Tested : Test → Frame

abbrev pub Bracket : Frame
Bracket = Opened opening.Bracket

abbrev pub Braces : Bool → Asked → Frame
Braces x0 x1 = Opened (opening.Braces x0 x1)

abbrev pub Substitution : Bool → SubstKind → Frame
Substitution x0 x1 = Opened (opening.Substitution x0 x1)

abbrev pub Arithmetic : Bool → Frame
Arithmetic x0 = Opened (opening.Arithmetic x0)

abbrev pub WordStart : ℕ → Bool → Frame
WordStart x0 x1 = Opened (opening.WordStart x0 x1)

abbrev pub NoLink : Frame
NoLink = Opened opening.NoLink

abbrev pub Group : ℕ → Frame
Group x0 = Opened (opening.Group x0)

abbrev pub Subshell : ℕ → Frame
Subshell x0 = Opened (opening.Subshell x0)

abbrev pub ArithmeticCommand : ℕ → Frame
ArithmeticCommand x0 = Opened (opening.ArithmeticCommand x0)

abbrev pub Loop : ℕ → Bool → Frame
Loop x0 x1 = Opened (opening.Loop x0 x1)

abbrev pub For : ℕ → Bool → Frame
For x0 x1 = Opened (opening.For x0 x1)

abbrev pub Case : ℕ → Frame
Case x0 = Opened (opening.Case x0)

abbrev pub Function : ℕ → ℕ → Frame
Function x0 x1 = Opened (opening.Function x0 x1)

abbrev pub ConditionCommand : ℕ → Frame
ConditionCommand x0 = Opened (opening.ConditionCommand x0)

abbrev pub Nested : Frame
Nested = Opened opening.Nested

abbrev pub MemberBody : Frame
MemberBody = Opened opening.MemberBody
