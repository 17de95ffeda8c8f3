-- What a shell runs of a text.
use Rattle.std.specs.Prelude.{ℕ, List}
use Rattle.ksh_ast.specs.declared.tree.Item as tree
use Rattle.ksh_lower.specs.Lowers.{Lowers}
use Rattle.ksh_parser.specs.Tree.{IsTree}
use Rattle.ksh_script.specs.declared.tree.Item.{Item}

-- the text has a tree, whose commands are run so
pub record IsProgram (text : List ℕ) (items : List Item) : Type 0 where
  pub parsed : List tree.Item
  pub is_tree : IsTree text parsed
  pub lowers : Lowers parsed items
