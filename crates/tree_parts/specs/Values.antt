-- Which of its three forms a value in parentheses has: members where it can be read so, else pairs, else words.
use Rattle.std.specs.Prelude.{ℕ, Bool, true, false, List, [], ◌∷◌, ◌++◌, Option, Some, None, codes, if◌then◌else◌}
use Rattle.ksh_ast.specs.declared.tree.Item.{Item}
use Rattle.ksh_ast.specs.declared.tree.Command.{Command}
use Rattle.ksh_ast.specs.declared.tree.CaseItem.{CaseItem}
use Rattle.ksh_ast.specs.declared.tree.Term.{Term}
use Rattle.ksh_ast.specs.declared.tree.Test.{Test}
use Rattle.ksh_ast.specs.declared.tree.Arith.{Arith}
use Rattle.ksh_ast.specs.declared.tree.Param.{Param}
use Rattle.ksh_ast.specs.declared.tree.ParamOf.{ParamOf}
use Rattle.ksh_ast.specs.declared.tree.TreePath.{TreePath}
use Rattle.ksh_ast.specs.declared.tree.TreePart.{TreePart}
use Rattle.ksh_ast.specs.declared.tree.ParamForm.{ParamForm}
use Rattle.ksh_ast.specs.declared.tree.Argument.{Argument}
use Rattle.ksh_ast.specs.declared.tree.Argument.TheVariants as argument
use Rattle.ksh_ast.specs.declared.tree.Assign.{Assign}
use Rattle.ksh_ast.specs.declared.tree.AssignValue.{AssignValue, AssignValue-F, out-AssignValue}
use Rattle.ksh_ast.specs.declared.tree.AssignValue.TheVariants as value
use Rattle.ksh_ast.specs.declared.tree.Member.{Member}
use Rattle.ksh_ast.specs.declared.tree.Member.TheVariants as member
use Rattle.ksh_ast.specs.declared.tree.Pair.{Pair}
use Rattle.ksh_ast.specs.declared.tree.Piece.{Piece}
use Rattle.tree_parts.specs.declared.entry.Entry.{Entry}
use Rattle.tree_parts.specs.declared.entry.Entry.TheVariants.{Word, Typeset, Assign as Assigned, Pair as Paired, Function, Break}
use Rattle.tree_parts.specs.Literals.{literal, with_literal, joined}
use Rattle.tree_parts.specs.Parts.{path_word}

abbrev pub typeset_word : List Piece
typeset_word = literal (codes "typeset") false

-- ---- members

-- what `typeset` takes stands before a newline or `;`
abbrev pub Declared : Type 0
Declared = Option (List Argument)

-- whether a `typeset` is open behind an entry; nothing where the entry is no member
abbrev pub open_behind : Bool → Entry → Option Bool
open_behind is_open (Word word from) = if is_open then Some true else None
open_behind is_open Typeset = Some true
open_behind is_open (Assigned a) = Some is_open
open_behind is_open (Paired p) = None
open_behind is_open (Function f) = Some false
open_behind is_open Break = Some false

abbrev pub open_after : Option Bool → Entry → Option Bool
open_after None e = None
open_after (Some is_open) e = open_behind is_open e

-- whether all entries are members, behind a `typeset` that is open or not
abbrev pub are_members : Option Bool → List Entry → Bool
are_members None [] = false
are_members (Some is_open) [] = true
are_members state (e ∷ es) = are_members (open_after state e) es

abbrev pub declared : Declared → List Member
declared None = []
declared (Some words) = member.Declare words ∷ []

abbrev pub opened : Declared → List Argument
opened None = []
opened (Some words) = words

abbrev pub with_argument : Declared → Argument → Declared
with_argument None a = None
with_argument (Some words) a = Some (words ++ a ∷ [])

abbrev pub with_assign : Declared → Assign → List Member × Declared
with_assign None a = (member.Assign a ∷ [], None)
with_assign (Some words) a = ([], Some (words ++ argument.Assign a ∷ []))

-- the members that an entry adds, and the words of a `typeset` that isn't over
abbrev pub entered : Declared → Entry → List Member × Declared
entered declaring (Word word from) = ([], with_argument declaring (argument.Word word))
entered declaring Typeset = ([], Some (opened declaring ++ argument.Word typeset_word ∷ []))
entered declaring (Assigned a) = with_assign declaring a
entered declaring (Paired p) = ([], declaring)
entered declaring (Function f) = (declared declaring ++ member.Function f ∷ [], None)
entered declaring Break = (declared declaring, None)

-- the members that entries are, behind a `typeset` with these words
abbrev pub members : Declared → List Entry → List Member
members declaring [] = declared declaring
members declaring (e ∷ es) = (entered declaring e).0 ++ members (entered declaring e).1 es

-- ---- pairs

abbrev pub are_pairs : List Entry → Bool
are_pairs [] = true
are_pairs (Paired p ∷ es) = are_pairs es
are_pairs (Break ∷ es) = are_pairs es
are_pairs (_ ∷ es) = false

abbrev pub pair_of : Entry → List (Pair (List Piece))
pair_of (Paired p) = p ∷ []
pair_of _ = []

abbrev pub pairs : List Entry → List (Pair (List Piece))
pairs [] = []
pairs (e ∷ es) = pair_of e ++ pairs es

-- ---- words

abbrev pub sign_of : Bool → List ℕ
sign_of true = codes "+="
sign_of false = codes "="

abbrev pub behind_front : List Piece → AssignValue-F Argument Arith AssignValue Command Member ParamForm ParamOf Piece Test TreePart Assign CaseItem Item Param Term TreePath → List Piece
behind_front front (AssignValue-F.AssignValue::Word ps) = joined front ps
behind_front front _ = front

abbrev pub assigned_word : List Piece → AssignValue → List Piece
assigned_word front v = behind_front front (out-AssignValue v)

abbrev pub assign_word : Assign → List Piece
assign_word a = assigned_word (with_literal (path_word a.path) (sign_of a.append) false) a.value

abbrev pub pair_word : Pair (List Piece) → List Piece
pair_word p = joined (with_literal (joined (literal (91 ∷ []) false) p.subscript) (codes "]=") false) p.value

abbrev pub word_of : Entry → List (List Piece)
word_of (Word word from) = word ∷ []
word_of Typeset = typeset_word ∷ []
word_of (Assigned a) = assign_word a ∷ []
word_of (Paired p) = pair_word p ∷ []
word_of (Function f) = []
word_of Break = []

abbrev pub words : List Entry → List (List Piece)
words [] = []
words (e ∷ es) = word_of e ++ words es

abbrev pub value_of : List Entry → AssignValue
value_of es =
    if are_members (Some false) es then value.Members (members None es) else
    if are_pairs es then value.Pairs (pairs es) else
    value.Words (words es)
