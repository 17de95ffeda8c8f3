-- What the bytes at a place of a parameter in braces begin, and at a place behind an assignment's path.
use Rattle.std.specs.Prelude.{ℕ, Bool, true, false, ◌||◌, ◌&&◌, ◌==◌, Option, Some, None, if◌then◌else◌}
use Rattle.ksh_lexer.specs.declared.outer.Begins.{Begins}
use Rattle.ksh_lexer.specs.declared.outer.Begins.TheVariants.{Take, Refuse, Name, Digits, Member}
use Rattle.ksh_lexer.specs.declared.kind.TokenKind.TheVariants as token
use Rattle.ksh_lexer.specs.declared.kind.Form.{Form}
use Rattle.ksh_lexer.specs.declared.kind.Form.TheVariants.{Instead, Assign, Fault, Other, Cut, Slice, ReplaceFirst, ReplaceAll, ReplaceFront, ReplaceTail}
use Rattle.ksh_lexer.specs.declared.fault.SyntaxKind.TheVariants.{NotInProfile, BadName, UnexpectedToken}
use Rattle.ksh_lexer.specs.Bytes.{is, is_digit, starts_name}

-- a letter, `_` or a `.` comes next
abbrev pub begins_path : Option ℕ → Bool
begins_path None = false
begins_path (Some b) = b == 46 || starts_name b

-- a parameter comes next that is no special one, or `@` or `*`
abbrev pub is_measured : Option ℕ → Bool
is_measured None = false
is_measured (Some b) = is_digit b || (b == 46 || (b == 64 || (b == 42 || starts_name b)))

-- one of `? $ ! - #` comes next
abbrev pub is_other_special : Option ℕ → Bool
is_other_special None = false
is_other_special (Some b) = b == 63 || (b == 36 || (b == 33 || (b == 45 || b == 35)))

abbrev pub target_or_special : Option ℕ → Begins
target_or_special second = if begins_path second then Take token.Target 1 else Take token.Special 1

abbrev pub length_or_special : Option ℕ → Option ℕ → Begins
length_or_special second third =
    if is_measured second || (is_other_special second && is 125 third) then Take token.Length 1 else Take token.Special 1

-- `!` before a name, `#` before a parameter, digits, a special parameter, a name or a `.`; else no name begins there
abbrev pub parameter : Option ℕ → Option ℕ → Option ℕ → Begins
parameter None second third = Take token.End 0
parameter (Some b) second third =
    if b == 0 then Refuse NotInProfile else
    if b == 33 then target_or_special second else
    if b == 35 then length_or_special second third else
    if is_digit b then Digits else
    if b == 64 || (b == 42 || (b == 63 || (b == 36 || b == 45))) then Take token.Special 1 else
    if b == 46 || starts_name b then Name else Refuse BadName

-- `[@]`, `[*]`, or the `[` of a subscript
abbrev pub bracket : Option ℕ → Option ℕ → Begins
bracket second third =
    if is 64 second && is 93 third then Take (token.Items false) 3 else
    if is 42 second && is 93 third then Take (token.Items true) 3 else Take token.Open 1

abbrev pub starts : Option ℕ → Bool
starts None = false
starts (Some b) = starts_name b

abbrev pub member : Option ℕ → Begins → Begins
member second otherwise = if starts second then Member else otherwise

-- `:-` `:=` `:?` `:+` `:`
abbrev pub colon : Option ℕ → Form × ℕ
colon second =
    if is 45 second then (Instead true, 2) else
    if is 61 second then (Assign true, 2) else
    if is 63 second then (Fault true, 2) else
    if is 43 second then (Other true, 2) else (Slice, 1)

-- `//` `/#` `/%` `/`
abbrev pub replacement : Option ℕ → Form × ℕ
replacement second =
    if is 47 second then (ReplaceAll, 2) else
    if is 35 second then (ReplaceFront, 2) else
    if is 37 second then (ReplaceTail, 2) else (ReplaceFirst, 1)

-- those, and `-` `=` `?` `+` `##` `#` `%%` `%`
abbrev pub form_of : ℕ → Option ℕ → Option (Form × ℕ)
form_of b second =
    if b == 58 then Some (colon second) else
    if b == 47 then Some (replacement second) else
    if b == 45 then Some (Instead false, 1) else
    if b == 61 then Some (Assign false, 1) else
    if b == 63 then Some (Fault false, 1) else
    if b == 43 then Some (Other false, 1) else
    if b == 35 then Some (if is 35 second then (Cut false true, 2) else (Cut false false, 1)) else
    if b == 37 then Some (if is 37 second then (Cut true true, 2) else (Cut true false, 1)) else None

abbrev pub form_or : Begins → Option (Form × ℕ) → Begins
form_or other None = other
form_or other (Some f) = Take (token.Form f.0) f.1

-- `}`, `[`, a member, `@}` or a form; else no form goes on there
abbrev pub form : Option ℕ → Option ℕ → Option ℕ → Begins
form None second third = Take token.End 0
form (Some b) second third =
    if b == 0 then Refuse NotInProfile else
    if b == 125 then Take token.Close 1 else
    if b == 91 then bracket second third else
    if b == 46 then member second (Refuse UnexpectedToken) else
    if b == 64 then (if is 125 second then Take token.Prefix 1 else Refuse UnexpectedToken) else
    form_or (Refuse UnexpectedToken) (form_of b second)

-- `=`, `+=`, `[`, a member, or nothing of an assignment
abbrev pub target : Option ℕ → Option ℕ → Begins
target first second =
    if is 61 first then Take token.Assign 1 else
    if is 43 first && is 61 second then Take token.AddAssign 2 else
    if is 91 first then Take token.Open 1 else
    if is 46 first then member second (Take token.Otherwise 0) else Take token.Otherwise 0
