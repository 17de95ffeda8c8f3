-- Which simple commands are built: assignments, and `print` with words of bytes and values of variables.
use Rattle.std.specs.Prelude.{ℕ, nat_le, ◌==◌, Bool, true, false, not, ◌&&◌, ◌||◌, List, [], ◌∷◌, Option, Some, None, if◌then◌else◌, codes, bytes_eq}
use Rattle.ksh_ast.specs.declared.redirect.Redirect.{Redirect}
use Rattle.ksh_ast.specs.declared.tree.Argument.{Argument, Argument-F, out-Argument}
use Rattle.ksh_ast.specs.declared.tree.Arith.{Arith}
use Rattle.ksh_ast.specs.declared.tree.Assign.{Assign}
use Rattle.ksh_ast.specs.declared.tree.AssignValue.{AssignValue, AssignValue-F, out-AssignValue}
use Rattle.ksh_ast.specs.declared.tree.CaseItem.{CaseItem}
use Rattle.ksh_ast.specs.declared.tree.Command.{Command, Command-F, out-Command}
use Rattle.ksh_ast.specs.declared.tree.Item.{Item}
use Rattle.ksh_ast.specs.declared.tree.Member.{Member}
use Rattle.ksh_ast.specs.declared.tree.Param.{Param}
use Rattle.ksh_ast.specs.declared.tree.ParamForm.{ParamForm, ParamForm-F, out-ParamForm}
use Rattle.ksh_ast.specs.declared.tree.ParamOf.{ParamOf, ParamOf-F, out-ParamOf}
use Rattle.ksh_ast.specs.declared.tree.Piece.{Piece, Piece-F, out-Piece}
use Rattle.ksh_ast.specs.declared.tree.Term.{Term}
use Rattle.ksh_ast.specs.declared.tree.Test.{Test}
use Rattle.ksh_ast.specs.declared.tree.TreePart.{TreePart}
use Rattle.ksh_ast.specs.declared.tree.TreePath.{TreePath}
use Rattle.ksh_base.specs.Name.{goes_on_in_name}
use Rattle.ksh_script.specs.declared.tree.Assign as plain_assign
use Rattle.ksh_script.specs.declared.tree.Command as plain_command
use Rattle.ksh_script.specs.declared.tree.Command.TheVariants as runs
use Rattle.ksh_script.specs.declared.tree.Piece as plain_piece
use Rattle.ksh_script.specs.declared.tree.Piece.TheVariants.{Literal, Value}
use Rattle.ksh_script.specs.declared.tree.Word as plain_word

-- what each of these gives, where each gives something
abbrev pub with_front : {B : Type 0} → Option B → Option (List B) → Option (List B)
with_front None rest = None
with_front (Some y) None = None
with_front (Some y) (Some ys) = Some (y ∷ ys)

abbrev pub collected : {A B : Type 0} → (A → Option B) → List A → Option (List B)
collected f [] = Some []
collected f (x ∷ xs) = with_front (f x) (collected f xs)

-- letters, digits, `_ . / , : + @` and bytes from 0x80 on: neither splitting nor patterns nor `print` make anything else of them
abbrev pub is_plain : ℕ → Bool
is_plain b = (goes_on_in_name b || nat_le 128 b) || ((b == 46 || (b == 47 || b == 44)) || (b == 58 || (b == 43 || b == 64)))

-- of quoted bytes `print` makes nothing else but where a backslash or `-` stands
abbrev pub is_shown : Bool → ℕ → Bool
is_shown true b = not (b == 92 || b == 45)
is_shown false b = is_plain b

abbrev pub are_shown : Bool → List ℕ → Bool
are_shown quoted [] = true
are_shown quoted (b ∷ bs) = is_shown quoted b && are_shown quoted bs

abbrev pub is_empty : List ℕ → Bool
is_empty [] = true
is_empty (b ∷ bs) = false

-- bytes of a word, where they stand for themselves; quoted bytes make a word even where there are none, so there are some
abbrev pub literal_piece : Bool → List ℕ → Option plain_piece.Piece
literal_piece quoted text = if are_shown quoted text && not (quoted && is_empty text) then Some (Literal text) else None

-- `$name`
abbrev pub plain_path : List ℕ → List TreePart → Option plain_piece.Piece
plain_path name [] = Some (Value name)
plain_path name (p ∷ ps) = None

abbrev pub plain_param :
    ParamOf-F Argument Arith AssignValue Command Member ParamForm ParamOf Piece Test TreePart Assign CaseItem Item Param Term TreePath
    → ParamForm-F Argument Arith AssignValue Command Member ParamForm ParamOf Piece Test TreePart Assign CaseItem Item Param Term TreePath → Option plain_piece.Piece
plain_param (ParamOf-F.Var path) ParamForm-F.Plain = plain_path path.name path.parts
plain_param _ _ = None

abbrev pub value_piece : Param → Bool → Option plain_piece.Piece
value_piece p true = None
value_piece p false = plain_param (out-ParamOf p.of) (out-ParamForm p.form)

abbrev pub piece_by : Bool → Piece-F Argument Arith AssignValue Command Member ParamForm ParamOf Piece Test TreePart Assign CaseItem Item Param Term TreePath → Option plain_piece.Piece
piece_by quoting (Piece-F.Literal text quoted) = literal_piece (quoting && quoted) text
piece_by quoting (Piece-F.Expand p quoted) = value_piece p quoted
piece_by quoting _ = None

-- a piece of a word, which may quote or not
abbrev pub piece_of : Bool → Piece → Option plain_piece.Piece
piece_of quoting p = piece_by quoting (out-Piece p)

abbrev pub some_word : Option (List plain_piece.Piece) → Option plain_word.Word
some_word None = None
some_word (Some pieces) = Some (record { pieces = pieces })

abbrev pub word_of : Bool → List Piece → Option plain_word.Word
word_of quoting ps = some_word (collected (piece_of quoting) ps)

abbrev pub argument_by : Argument-F Argument Arith AssignValue Command Member ParamForm ParamOf Piece Test TreePart Assign CaseItem Item Param Term TreePath → Option plain_word.Word
argument_by (Argument-F.Argument::Word w) = word_of true w
argument_by _ = None

-- a word of `print`
abbrev pub argument_of : Argument → Option plain_word.Word
argument_of a = argument_by (out-Argument a)

abbrev pub is_literal_print : Piece-F Argument Arith AssignValue Command Member ParamForm ParamOf Piece Test TreePart Assign CaseItem Item Param Term TreePath → Bool
is_literal_print (Piece-F.Literal text quoted) = bytes_eq text (codes "print")
is_literal_print _ = false

-- the word `print`
abbrev pub says_print : List Piece → Bool
says_print (p ∷ []) = is_literal_print (out-Piece p)
says_print _ = false

abbrev pub is_print_by : Argument-F Argument Arith AssignValue Command Member ParamForm ParamOf Piece Test TreePart Assign CaseItem Item Param Term TreePath → Bool
is_print_by (Argument-F.Argument::Word w) = says_print w
is_print_by _ = false

abbrev pub is_print : Argument → Bool
is_print a = is_print_by (out-Argument a)

abbrev pub is_field_separators : List ℕ → Bool
is_field_separators name = bytes_eq name (codes "IFS")

abbrev pub named_assign : List ℕ → Option plain_word.Word → Option plain_assign.Assign
named_assign name None = None
named_assign name (Some w) = if is_field_separators name then None else Some (record { name = name; value = w })

abbrev pub value_by : AssignValue-F Argument Arith AssignValue Command Member ParamForm ParamOf Piece Test TreePart Assign CaseItem Item Param Term TreePath → Option plain_word.Word
value_by (AssignValue-F.AssignValue::Word w) = word_of false w
value_by _ = None

abbrev pub path_assign : List ℕ → List TreePart → Bool → AssignValue → Option plain_assign.Assign
path_assign name [] false v = named_assign name (value_by (out-AssignValue v))
path_assign name _ _ v = None

-- `name=value`; IFS has no meaning yet
abbrev pub assign_of : Assign → Option plain_assign.Assign
assign_of a = path_assign a.path.name a.path.parts a.append a.value

abbrev pub print_of : Option (List plain_word.Word) → Option plain_command.Command
print_of None = None
print_of (Some words) = Some (runs.Print words)

abbrev pub assigns_of : Option (List plain_assign.Assign) → Option plain_command.Command
assigns_of None = None
assigns_of (Some assigns) = Some (runs.Assign assigns)

abbrev pub simple_of : List Assign → List Argument → List (Redirect (List Piece)) → Option plain_command.Command
simple_of assigns [] [] = assigns_of (collected assign_of assigns)
simple_of [] (name ∷ words) [] = if is_print name then print_of (collected argument_of words) else None
simple_of _ _ _ = None

abbrev pub command_by : Command-F Argument Arith AssignValue Command Member ParamForm ParamOf Piece Test TreePart Assign CaseItem Item Param Term TreePath → Option plain_command.Command
command_by (Command-F.Simple assigns words redirects) = simple_of assigns words redirects
command_by _ = None

-- a simple command that is built
abbrev pub command_of : Command → Option plain_command.Command
command_of c = command_by (out-Command c)
