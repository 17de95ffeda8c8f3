-- A part of a text without a `)` or a newline.
use Rattle.std.specs.Prelude.{◌≡◌, ℕ, ◌<◌, ◌≤◌, true, List, [], ◌∷◌, length}
use Rattle.bstr.specs.Bytes.{not_in}
use Rattle.ksh_lexer.specs.Reach.{at_byte}
use Rattle.ksh_lexer.specs.declared.lex.Clear.{Clear}

pub record IsClear (text : List ℕ) (c : Clear) : Type 0 where
  pub within : c.to ≤ length text
  pub each : (k : ℕ) → c.from ≤ k → k < c.to → at_byte (not_in (41 ∷ 10 ∷ [])) text k ≡ true
