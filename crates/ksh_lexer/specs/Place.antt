-- The place of a fault.
use Rattle.std.specs.Prelude.{◌≡◌, ℕ, ◌+◌, ◌≤◌, ◌==◌, List, [], ◌∷◌, length, take, if◌then◌else◌}
use Rattle.ksh_lexer.specs.declared.count.Mark.{Mark}
use Rattle.ksh_lexer.specs.declared.fault.SyntaxFault.{SyntaxFault}
use Rattle.ksh_lexer.specs.declared.fault.SyntaxKind.{SyntaxKind}
use Rattle.ksh_lexer.specs.declared.fault.SyntaxKind.TheVariants.{TooLong}

abbrev pub longest_text : ℕ
longest_text = 16777216

abbrev pub newlines : List ℕ → ℕ
newlines [] = 0
newlines (b ∷ bs) = (if b == 10 then 1 else 0) + newlines bs

-- a fault at a byte, on the line that is one more than the newlines before it
abbrev pub fault_at : List ℕ → SyntaxKind → ℕ → SyntaxFault
fault_at text kind byte = record { kind = kind; place = record { line = 1 + newlines (take byte text); byte = byte } }

-- the fault of a text that is too long, at the byte past the last that it may have
abbrev pub too_long : List ℕ → SyntaxFault
too_long text = fault_at text TooLong longest_text

-- the line of a byte is known
pub record IsMark (text : List ℕ) (mark : Mark) : Type 0 where
  pub within : mark.byte ≤ length text
  pub line : mark.line ≡ 1 + newlines (take mark.byte text)
