-- What begins at a place of a text.
use Rattle.std.specs.Prelude.{ℕ, Bool, true, false, not, ◌||◌, ◌==◌, nat_le, List, slice_get, Option}
use Rattle.ksh_lexer.specs.declared.outer.Begins.{Begins}
use Rattle.ksh_lexer.specs.declared.outer.Begins.TheVariants.{Run}
use Rattle.ksh_lexer.specs.declared.mode.LexMode.{LexMode}
use Rattle.ksh_lexer.specs.declared.mode.LexMode.TheVariants as mode
use Rattle.ksh_lexer.specs.Between.{between}
use Rattle.ksh_lexer.specs.Inside.{piece}
use Rattle.ksh_lexer.specs.Parameters.{form, parameter, target}
use Rattle.ksh_lexer.specs.Bytes.{in_name}
use Rattle.ksh_lexer.specs.Reach.{next}

-- the table of the mode
abbrev pub begins : LexMode → Option ℕ → Option ℕ → Option ℕ → Begins
begins mode.Command a b c = between mode.Command a b c
begins mode.Argument a b c = between mode.Argument a b c
begins mode.Pattern a b c = between mode.Pattern a b c
begins mode.Condition a b c = between mode.Condition a b c
begins mode.Value a b c = between mode.Value a b c
begins mode.Parameter a b c = parameter a b c
begins mode.Form a b c = form a b c
begins mode.Target a b c = target a b
begins m a b c = piece m a b c

abbrev pub begins_at : LexMode → List ℕ → ℕ → Begins
begins_at m text place = begins m (slice_get text place) (slice_get text (next text place)) (slice_get text (next text (next text place)))

abbrev pub is_run : Begins → Bool
is_run Run = true
is_run _ = false

-- the byte at a place stands for itself
abbrev pub runs : LexMode → List ℕ → ℕ → Bool
runs m text place = is_run (begins_at m text place)

-- a letter, a digit, one of `_ - . , =`, or a byte from 0x80 on
abbrev pub is_plain : ℕ → Bool
is_plain b = in_name b || (b == 45 || (b == 46 || (b == 44 || (b == 61 || nat_le 128 b))))

-- bytes of which a look at the byte alone tells that they stand for themselves
abbrev pub is_ordinary : LexMode → ℕ → Bool
is_ordinary (mode.Quoted opening) b = not (b == 0 || (b == 34 || (b == 36 || (b == 96 || b == 92))))
is_ordinary (mode.HereBody tabs expands) b = not (b == 0 || (b == 10 || (b == 36 || (b == 96 || b == 92))))
is_ordinary mode.Word b = is_plain b
is_ordinary mode.Group b = is_plain b
is_ordinary (mode.Braced end) b = is_plain b
is_ordinary mode.Subscript b = is_plain b
is_ordinary mode.Arithmetic b = is_plain b
is_ordinary mode.LoopArithmetic b = is_plain b
is_ordinary mode.Parentheses b = is_plain b
is_ordinary _ b = false
