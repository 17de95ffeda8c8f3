-- What a word gives: its bytes, and the values of its variables.
use Rattle.std.specs.Prelude.{ℕ, List, [], ◌∷◌, ◌++◌, Option, Some, None}
use Rattle.ksh_script.specs.declared.tree.Piece.{Piece}
use Rattle.ksh_script.specs.declared.tree.Piece.TheVariants.{Literal, Value}
use Rattle.ksh_script.specs.declared.tree.Word.{Word}
use Rattle.var_types.specs.Rows.{cell_at}
use Rattle.ksh_attrs.specs.Shapes.{text_of}
use Rattle.shell_state.specs.Names.{Vars, VarCell, named}

-- the text that a row shows; an unset variable gives nothing
abbrev pub shown : Option VarCell → List ℕ
shown None = []
shown (Some c) = text_of c.value c.attrs

abbrev pub piece_text : Vars → Piece → List ℕ
piece_text vars (Literal text) = text
piece_text vars (Value name) = shown (cell_at (named name) vars.0)

abbrev pub pieces_text : Vars → List Piece → List ℕ
pieces_text vars [] = []
pieces_text vars (p ∷ ps) = piece_text vars p ++ pieces_text vars ps

abbrev pub word_text : Vars → Word → List ℕ
word_text vars w = pieces_text vars w.pieces

-- a word that becomes empty is none
abbrev pub unless_empty : List ℕ → List (List ℕ) → List (List ℕ)
unless_empty [] texts = texts
unless_empty (b ∷ bs) texts = (b ∷ bs) ∷ texts

abbrev pub words_of : Vars → List Word → List (List ℕ)
words_of vars [] = []
words_of vars (w ∷ ws) = unless_empty (word_text vars w) (words_of vars ws)
