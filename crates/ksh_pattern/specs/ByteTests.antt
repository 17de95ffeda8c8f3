-- Which bytes a test takes.
use Rattle.std.specs.Prelude.{ℕ, ◌==◌, List, Bool, true, false, ◌||◌, ◌&&◌, not, nat_le}
use Rattle.std.specs.Char.{is_ascii_alphabetic, is_ascii_alphanumeric, is_ascii_control, is_ascii_digit, is_ascii_graphic, is_ascii_hexdigit, is_ascii_lowercase, is_ascii_punctuation, is_ascii_uppercase}
use Rattle.std.specs.List.{list_any}
use Rattle.ksh_pattern.specs.declared.byte_test.Class.{Class}
use Rattle.ksh_pattern.specs.declared.byte_test.Class.TheVariants.{Alnum, Alpha, Blank, Cntrl, Digit, Graph, Lower, Print, Punct, Space, Upper, Xdigit}
use Rattle.ksh_pattern.specs.declared.byte_test.Member.{Member}
use Rattle.ksh_pattern.specs.declared.byte_test.Member.TheVariants as member
use Rattle.ksh_pattern.specs.declared.byte_test.ByteTest.{ByteTest}
use Rattle.ksh_pattern.specs.declared.byte_test.ByteTest.TheVariants as test

-- the twelve classes, in ASCII
abbrev pub has_class : Class → ℕ → Bool
has_class Alnum b = is_ascii_alphanumeric b
has_class Alpha b = is_ascii_alphabetic b
has_class Blank b = b == 32 || b == 9
has_class Cntrl b = is_ascii_control b
has_class Digit b = is_ascii_digit b
has_class Graph b = is_ascii_graphic b
has_class Lower b = is_ascii_lowercase b
has_class Print b = b == 32 || is_ascii_graphic b
has_class Punct b = is_ascii_punctuation b
has_class Space b = b == 32 || (nat_le 9 b && nat_le b 13)
has_class Upper b = is_ascii_uppercase b
has_class Xdigit b = is_ascii_hexdigit b

-- a member of a bracket; a range has both its ends
abbrev pub has_member : Member → ℕ → Bool
has_member (member.Byte m) b = m == b
has_member (member.Range from to) b = nat_le from b && nat_le b to
has_member (member.Class c) b = has_class c b

abbrev pub is_in : List Member → ℕ → Bool
is_in members b = list_any (λ m. has_member m b) members

-- a test, where a bracket with `!` takes the bytes that it doesn't list
abbrev pub accepts : ByteTest → ℕ → Bool
accepts (test.Is wanted) b = wanted == b
accepts test.Any b = true
accepts (test.Bracket true members) b = not (is_in members b)
accepts (test.Bracket false members) b = is_in members b
