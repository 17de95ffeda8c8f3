-- What attributes make of a text, and what a value shows.
use Rattle.std.specs.Prelude.{◌≡◌, ℕ, ◌-◌, ◌==◌, ◌||◌, Bool, false, List, [], ◌∷◌, ◌++◌, map, take, drop, length, Option, Some, None, Result, Ok, Err, if◌then◌else◌, ℤ, replicate}
use Rattle.std.specs.Char.{is_ascii_digit, to_ascii_uppercase, to_ascii_lowercase}
use Rattle.std.specs.List.{list_all}
use Rattle.ksh_attrs.specs.Numbers.{number_of, number_text}
use Rattle.var_types.specs.declared.attrs.Attrs.{Attrs}
use Rattle.var_types.specs.declared.value.Value.{Value}
use Rattle.var_types.specs.declared.value.Value.TheVariants as value
use Rattle.ksh_attrs.specs.declared.fault.AttrFault.{AttrFault}
use Rattle.ksh_attrs.specs.declared.fault.AttrFault.TheVariants.{NotANumber, Memory}

-- a space or a tab
abbrev pub is_blank : ℕ → Bool
is_blank b = b == 32 || b == 9

abbrev pub without_front : List ℕ → List ℕ
without_front [] = []
without_front (b ∷ bs) = if is_blank b then without_front bs else b ∷ bs

abbrev pub without_back : List ℕ → List ℕ
without_back [] = []
without_back (b ∷ bs) = if list_all is_blank (b ∷ bs) then [] else b ∷ without_back bs

-- the first bytes, and blanks behind them
abbrev pub filled_behind : ℕ → List ℕ → List ℕ
filled_behind width text = take width text ++ replicate (width - length text) 32

-- the last bytes, and before them so many of one byte as are missing
abbrev pub filled_before : ℕ → ℕ → List ℕ → List ℕ
filled_before fill width text = replicate (width - length text) fill ++ drop (length text - width) text

-- a width of 0 is that of the text
abbrev pub width_for : ℕ → List ℕ → ℕ
width_for width text = if width == 0 then length text else width

abbrev pub at_left : ℕ → List ℕ → List ℕ
at_left width text = filled_behind width (without_front text)

abbrev pub at_right : ℕ → List ℕ → List ℕ
at_right width text = filled_before 32 width (without_back text)

abbrev pub begins_with_digit : List ℕ → Bool
begins_with_digit [] = false
begins_with_digit (b ∷ bs) = is_ascii_digit b

-- zeros take the place of blanks where the first byte that isn't one is a digit
abbrev pub with_zeros : ℕ → List ℕ → List ℕ
with_zeros width text =
    if begins_with_digit (without_front text)
    then filled_before 48 width (without_back (without_front text))
    else at_right width text

-- left counts before zero, and zero before right
abbrev pub by_width : Option ℕ → Option ℕ → Option ℕ → List ℕ → List ℕ
by_width (Some n) zero right text = at_left (width_for n text) text
by_width None (Some n) right text = with_zeros (width_for n text) text
by_width None None (Some n) text = at_right (width_for n text) text
by_width None None None text = text

abbrev pub widened : Attrs → List ℕ → List ℕ
widened attrs text = by_width attrs.left attrs.zero attrs.right text

-- upper counts before lower
abbrev pub cased : Attrs → List ℕ → List ℕ
cased attrs text = if attrs.upper then map to_ascii_uppercase text else if attrs.lower then map to_ascii_lowercase text else text

abbrev pub as_number : Option ℤ → Option Value
as_number None = None
as_number (Some z) = Some (value.Number z)

-- the value that an assigned text has, where it isn't one that an integer can't have
abbrev pub shape_by : Option ℕ → Attrs → List ℕ → Option Value
shape_by (Some base) attrs text = as_number (number_of text)
shape_by None attrs text = Some (value.Plain (widened attrs (cased attrs text)))

abbrev pub shape_of : Attrs → List ℕ → Option Value
shape_of attrs text = shape_by attrs.integer attrs text

-- the text that a value shows; one that has none of its own shows an empty one
abbrev pub text_of : Value → Attrs → List ℕ
text_of (value.Plain text) attrs = text
text_of (value.Number z) attrs = widened attrs (number_text attrs.integer z)
text_of other attrs = []

-- a fault is the text's, unless memory ran out
abbrev pub AnswersShape : Option Value → Result Value AttrFault → Type 0
AnswersShape shape (Ok v) = shape ≡ Some v
AnswersShape shape (Err NotANumber) = shape ≡ None
AnswersShape shape (Err Memory) = Unit {0}
