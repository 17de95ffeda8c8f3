-- What a shell runs of a tree: simple commands that are built, and subshells. Every other command is one that isn't built.
use Rattle.std.specs.Prelude.{◌≡◌, ℕ, Bool, true, false, List, [], ◌∷◌, ◌++◌, reverse, Option, Some, None}
use Rattle.ksh_ast.specs.declared.tree.Argument.{Argument}
use Rattle.ksh_ast.specs.declared.tree.Arith.{Arith}
use Rattle.ksh_ast.specs.declared.tree.Assign.{Assign}
use Rattle.ksh_ast.specs.declared.tree.AssignValue.{AssignValue}
use Rattle.ksh_ast.specs.declared.tree.CaseItem.{CaseItem}
use Rattle.ksh_ast.specs.declared.tree.Command.{Command, Command-F, out-Command}
use Rattle.ksh_ast.specs.declared.tree.Command.TheVariants as command
use Rattle.ksh_ast.specs.declared.tree.Item.{Item}
use Rattle.ksh_ast.specs.declared.tree.Member.{Member}
use Rattle.ksh_ast.specs.declared.tree.Param.{Param}
use Rattle.ksh_ast.specs.declared.tree.ParamForm.{ParamForm}
use Rattle.ksh_ast.specs.declared.tree.ParamOf.{ParamOf}
use Rattle.ksh_ast.specs.declared.tree.Piece.{Piece}
use Rattle.ksh_ast.specs.declared.tree.Term.{Term}
use Rattle.ksh_ast.specs.declared.tree.Test.{Test}
use Rattle.ksh_ast.specs.declared.tree.TreePart.{TreePart}
use Rattle.ksh_ast.specs.declared.tree.TreePath.{TreePath}
use Rattle.ksh_script.specs.declared.tree.Command as plain_command
use Rattle.ksh_script.specs.declared.tree.Command.TheVariants as runs
use Rattle.ksh_script.specs.declared.tree.Item as plain
use Rattle.ksh_lower.specs.declared.lists.Left.{Left}
use Rattle.ksh_lower.specs.declared.lists.Left.TheVariants.{All, Within}
use Rattle.ksh_lower.specs.declared.lists.Level.{Level}
use Rattle.ksh_lower.specs.Simple.{command_of}

abbrev pub item : ℕ → plain_command.Command → plain.Item
item line c = record { line = line; command = c }

abbrev pub body_by : Command-F Argument Arith AssignValue Command Member ParamForm ParamOf Piece Test TreePart Assign CaseItem Item Param Term TreePath → Option (List Item)
body_by (Command-F.Subshell body []) = Some body
body_by _ = None

-- the list of a subshell without redirections
abbrev pub body_of : Command → Option (List Item)
body_of c = body_by (out-Command c)

mutual
  -- these commands are run as those
  pub data Lowers : List Item → List plain.Item → Type 0 where
    nothing : Lowers [] []
    one_more : (i : Item) (is : List Item) (c : plain_command.Command) (js : List plain.Item) → LowersTo i.command c → Lowers is js → Lowers (i ∷ is) (item i.line c ∷ js)

  pub data LowersTo : Command → plain_command.Command → Type 0 where
    simple : (c : Command) (d : plain_command.Command) → command_of c ≡ Some d → LowersTo c d
    subshell : (c : Command) (body : List Item) (js : List plain.Item) → body_of c ≡ Some body → Lowers body js → LowersTo c (runs.Subshell js)
    not_built : (c : Command) → command_of c ≡ None → body_of c ≡ None → LowersTo c runs.NotBuilt

-- where this is what is run of the list of the innermost level, all is run as it should
abbrev pub Closes : List Item → List Level → ℕ → List plain.Item → Type 0
Closes whole [] line inner = Lowers whole inner
Closes whole (l ∷ ls) line inner = (js : List plain.Item) → Lowers l.rest.now js → Closes whole ls l.line (l.done ++ item line (runs.Subshell inner) ∷ js)

-- with whatever the rest of the innermost level is run as
abbrev pub Waits : List Item → List Level → ℕ → List Item → List plain.Item → Type 0
Waits whole outer line rest done = (js : List plain.Item) → Lowers rest js → Closes whole (reverse outer) line (done ++ js)

-- all is run as it should, or it is with whatever the rest of a level is run as
abbrev pub Leads : List Item → List Level → Left → Type 0
Leads whole outer (All list) = Lowers whole list
Leads whole outer (Within l) = Waits whole outer l.line l.rest.now l.done
