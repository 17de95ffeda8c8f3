-- Where the names of functions stand.
use Rattle.std.specs.Prelude.{◌≡◌, true, List, [], ◌∷◌, ◌++◌}
use Rattle.ksh_ast.specs.declared.redirect.Redirect.{Redirect}
use Rattle.ksh_ast.specs.declared.tree.Argument.{Argument}
use Rattle.ksh_ast.specs.declared.tree.Argument.TheVariants as argument
use Rattle.ksh_ast.specs.declared.tree.Assign.{Assign}
use Rattle.ksh_ast.specs.declared.tree.Piece.{Piece}
use Rattle.tree_build.specs.Reads.{are_breaks}
use Rattle.tree_parts.specs.declared.entry.Entry.{Entry}

-- a simple command is one word
abbrev pub IsOneWord : List Assign → List Argument → List (Redirect (List Piece)) → List Piece → Type 0
IsOneWord given words redirects word = (given ≡ []) × (words ≡ argument.Word word ∷ []) × (redirects ≡ [])

-- behind entries stands one more, and then newlines and `;`
abbrev pub StandsBehind : List Entry → List Entry → Entry → Type 0
StandsBehind all front e = (gap : List Entry) × (all ≡ front ++ e ∷ gap) × (are_breaks gap ≡ true)
