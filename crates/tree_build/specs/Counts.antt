-- The command that `for ((` makes of its expressions.
use Rattle.std.specs.Prelude.{◌≡◌, List, [], ◌∷◌, Option}
use Rattle.ksh_ast.specs.declared.tree.Arith.{Arith}
use Rattle.ksh_ast.specs.declared.tree.Command.{Command}
use Rattle.ksh_ast.specs.declared.tree.Command.TheVariants.{ForArith}
use Rattle.ksh_ast.specs.declared.tree.Item.{Item}

-- there are three, each of which may be left out
abbrev pub Counts : List (Option Arith) → List Item → Command → Type 0
Counts parts body c = (first : Option Arith) × (condition : Option Arith) × (step : Option Arith) × (parts ≡ first ∷ condition ∷ step ∷ []) × (c ≡ ForArith first condition step body [])
