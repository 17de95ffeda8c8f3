-- How many bytes must be there for what begins at a place.
use Rattle.std.specs.Prelude.{ℕ}
use Rattle.ksh_lexer.specs.declared.outer.Begins.{Begins}
use Rattle.ksh_lexer.specs.declared.outer.Begins.TheVariants.{Take, Refuse, Unclosed, Digit, Brace, Start, Single, Ansi, Expand, Special, Group, Run, Name, Digits, Member}

abbrev pub width : Begins → ℕ
width (Take kind n) = n
width (Refuse kind) = 0
width (Unclosed opening) = 0
width Digit = 2
width Brace = 1
width Start = 1
width Single = 1
width Ansi = 2
width Expand = 2
width Special = 2
width Group = 2
width Run = 1
width Name = 1
width Digits = 1
width Member = 2
