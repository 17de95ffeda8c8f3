-- The value that a row has after a text was put into it or added behind it.
use Rattle.std.specs.Prelude.{◌≡◌, ℕ, ◌++◌, Bool, true, false, List, [], Option, Some, None, ℤ}
use Rattle.std.specs.Option.{option_map}
use Rattle.std.specs.Int.{int_wrapping_add, w64}
use Rattle.var_types.specs.declared.value.Value.{Value}
use Rattle.var_types.specs.declared.value.Value.TheVariants.{Number}
use Rattle.var_types.specs.declared.attrs.Attrs.{Attrs}
use Rattle.ksh_attrs.specs.Shapes.{shape_of, text_of}

-- a number that is added to a value; what isn't a number counts as 0
abbrev pub added : Value → Value → Value
added (Number m) (Number n) = Number (int_wrapping_add w64 m n)
added v more = more

abbrev pub appended_by : Option ℕ → Attrs → Value → List ℕ → Option Value
appended_by None attrs v text = shape_of attrs (text_of v attrs ++ text)
appended_by (Some base) attrs v text = option_map (added v) (shape_of attrs text)

-- what a row's value becomes where a text is put, or added behind it
abbrev pub assigned : Bool → Attrs → Value → List ℕ → Option Value
assigned false attrs v text = shape_of attrs text
assigned true attrs v text = appended_by attrs.integer attrs v text
