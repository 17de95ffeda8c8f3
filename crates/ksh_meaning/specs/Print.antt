-- print: its words with one blank between and a newline after.
use Rattle.std.specs.Prelude.{ℕ, List, [], ◌∷◌, ◌++◌, codes}
use Rattle.shell_state.specs.declared.state.ShellState.{ShellState}
use Rattle.ksh_meaning.specs.Units.{End}
use Rattle.ksh_meaning.specs.Texts.{newline}
use Rattle.ksh_meaning.specs.Output.{Works, puts_out}

-- words, each with a blank before it
abbrev pub following : List (List ℕ) → List ℕ
following [] = []
following (w ∷ ws) = 32 ∷ (w ++ following ws)

-- words with one blank between
abbrev pub joined : List (List ℕ) → List ℕ
joined [] = []
joined (w ∷ ws) = w ++ following ws

unfoldable pub print : ℕ → List (List ℕ) → ShellState → Works End
print line words s = puts_out line (codes "print") (joined words ++ newline) s
