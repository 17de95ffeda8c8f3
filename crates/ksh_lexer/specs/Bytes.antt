-- Classes of bytes.
use Rattle.std.specs.Prelude.{ℕ, Bool, false, ◌||◌, ◌&&◌, ◌==◌, nat_le, Option, Some, None}

-- that byte is there
abbrev pub is : ℕ → Option ℕ → Bool
is b None = false
is b (Some c) = c == b

abbrev pub is_digit : ℕ → Bool
is_digit b = nat_le 48 b && nat_le b 57

-- a blank or a tab
abbrev pub is_blank : ℕ → Bool
is_blank b = b == 32 || b == 9

-- a letter or an underscore
abbrev pub starts_name : ℕ → Bool
starts_name b = (nat_le 65 b && nat_le b 90) || ((nat_le 97 b && nat_le b 122) || b == 95)

-- those, or a digit
abbrev pub in_name : ℕ → Bool
in_name b = starts_name b || is_digit b

-- a digit, or one of `# @ * ? $ ! -`
abbrev pub is_special : ℕ → Bool
is_special b = is_digit b || (b == 35 || (b == 64 || (b == 42 || (b == 63 || (b == 36 || (b == 33 || b == 45))))))

-- a blank, a tab, a newline, or one of `; & | ( ) < >`
abbrev pub ends_word : ℕ → Bool
ends_word b = b == 32 || (b == 9 || (b == 10 || (b == 59 || (b == 38 || (b == 124 || (b == 40 || (b == 41 || (b == 60 || b == 62))))))))

-- how many of three bytes are there, the first ones first
abbrev pub present : Option ℕ → Option ℕ → Option ℕ → ℕ
present None second third = 0
present (Some a) None third = 1
present (Some a) (Some b) None = 2
present (Some a) (Some b) (Some c) = 3
