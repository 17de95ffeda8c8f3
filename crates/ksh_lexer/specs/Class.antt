-- Classes of bytes that come in runs.
use Rattle.std.specs.Prelude.{ℕ, Bool, ◌||◌, ◌==◌}
use Rattle.ksh_lexer.specs.declared.scan.Class.{Class}
use Rattle.ksh_lexer.specs.declared.scan.Class.TheVariants.{Tab, Digit, Name, Path}
use Rattle.ksh_lexer.specs.Bytes.{is_digit, in_name}

abbrev pub in_class : Class → ℕ → Bool
in_class Tab b = b == 9
in_class Digit b = is_digit b
in_class Name b = in_name b
in_class Path b = in_name b || b == 46
