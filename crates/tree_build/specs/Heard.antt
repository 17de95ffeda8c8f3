-- What a builder of trees hears: the tokens of a script, and marks between them.
use Rattle.std.specs.Prelude.{ℕ, List}
use Rattle.ksh_syntax.specs.declared.part.Mark.{Mark}
use Rattle.tree_parts.specs.declared.sign.Sign.{Sign}
use Rattle.tree_parts.specs.declared.sign.Moment.{Moment}

-- A token with its bytes, or a mark of the grammar. The body of a here-document is heard directly behind the word that ends it,
-- between two marks of its own.
pub data Heard : Type 0 where
  Lexed : Sign → List ℕ → Heard
  Marked : Mark → Moment → Heard
  BodyBegins : Heard
  BodyEnds : Heard
