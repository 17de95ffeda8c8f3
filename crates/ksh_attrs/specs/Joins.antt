-- The attributes of a row after a declaration.
use Rattle.std.specs.Prelude.{ℕ, ◌-◌, ◌^◌, min, ◌==◌, ◌&&◌, ◌||◌, not, Bool, Option, Some, None, List, length, if◌then◌else◌}
use Rattle.std.specs.Option.{is_some, option_or}
use Rattle.var_types.specs.declared.attrs.Attrs.{Attrs}

-- one that is given stays on; one that was on stays so, unless what is given turns it off
abbrev pub stays : {A : Type 0} → Option A → Option A → Bool → Option A
stays given before off = option_or given (if off then None else before)

-- upper case turns off lower case and the reverse; the left width turns off the right one and zeros, and each of these that one
abbrev pub joined : Attrs → Attrs → Attrs
joined before given = record {
  integer = option_or given.integer before.integer;
  upper = given.upper || (before.upper && not given.lower);
  lower = given.lower || (before.lower && not given.upper);
  left = stays given.left before.left (is_some given.right || is_some given.zero);
  right = stays given.right before.right (is_some given.left);
  zero = stays given.zero before.zero (is_some given.left);
  readonly = before.readonly || given.readonly;
  exported = before.exported || given.exported;
}

-- a width that wasn't told is that of the first value, at most 2^32-1
abbrev pub width_of_first : List ℕ → Option ℕ → Option ℕ
width_of_first text None = None
width_of_first text (Some n) = Some (if n == 0 then min (length text) (2 ^ 32 - 1) else n)

abbrev pub with_widths : Attrs → List ℕ → Attrs
with_widths attrs text = record {
  integer = attrs.integer;
  upper = attrs.upper;
  lower = attrs.lower;
  left = width_of_first text attrs.left;
  right = width_of_first text attrs.right;
  zero = width_of_first text attrs.zero;
  readonly = attrs.readonly;
  exported = attrs.exported;
}
