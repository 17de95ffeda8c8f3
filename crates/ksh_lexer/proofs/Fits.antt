-- What a byte begins fits the byte behind it: names begin with letters.
use Rattle.std.proofs.Common.{◌≡◌, ℕ, Bool, true, false, ◌||◌, ◌&&◌, ◌==◌, Option, Some, None, refl, ap, sym, ◌∙◌, arith, if◌then◌else◌}
use Rattle.std.proofs.lemmas.Bool.Decides.{nat_tests}
use Rattle.ksh_lexer.specs.declared.outer.Begins.{Begins}
use Rattle.ksh_lexer.specs.declared.outer.Begins.TheVariants.{Take, Refuse, Single, Ansi, Expand, Special, Group, Run, Digit, Brace, Start, Digits, Name, Member}
use Rattle.ksh_lexer.specs.declared.kind.TokenKind.{TokenKind}
use Rattle.ksh_lexer.specs.declared.kind.TokenKind.TheVariants as kinds
use Rattle.ksh_lexer.specs.declared.kind.Descriptor.{Descriptor}
use Rattle.ksh_lexer.specs.declared.kind.Descriptor.TheVariants as descriptor
use Rattle.ksh_lexer.specs.declared.fault.SyntaxKind.TheVariants.{NotInProfile, BadName, UnexpectedToken}
use Rattle.ksh_lexer.specs.declared.mode.LexMode.{LexMode}
use Rattle.ksh_lexer.specs.declared.mode.LexMode.TheVariants as mode
use Rattle.ksh_lexer.specs.declared.mode.BraceEnd.{BraceEnd}
use Rattle.ksh_lexer.specs.declared.kind.Operator.{Operator}
use Rattle.ksh_lexer.specs.declared.kind.Redirection.TheVariants.{HereTabs, HereString, HereDocument, ReadWrite, CopyInput, Input, Clobber, Append, CopyOutput, Output}
use Rattle.ksh_lexer.specs.declared.kind.Form.{Form}
use Rattle.ksh_lexer.specs.Inside.{arithmetic, at_end, backslash, cooked, dollar, double_quote, ends_braced, escapes, in_group, in_word, is_raw, opens_group, own, parenthesis, parts_braced, piece, quotes_singly, raw, refuses_tilde, subscript}
use Rattle.ksh_lexer.specs.Between.{between, greater, less, operator, operator_or, redirect, word}
use Rattle.ksh_lexer.specs.Parameters.{begins_path, bracket, form, form_of, form_or, is_measured, is_other_special, length_or_special, member, parameter, starts, target, target_or_special}
use Rattle.ksh_lexer.specs.Bytes.{ends_word, is, is_digit, is_special, starts_name}
use Rattle.ksh_lexer.specs.Begin.{begins}
use Rattle.ksh_lexer.specs.Spells.{is_target}

abbrev pub is_default : Descriptor → Bool
is_default descriptor.Default = true
is_default _ = false

-- what is taken by its first bytes alone has no name
abbrev pub nameless : LexMode → TokenKind → Bool
nameless m kinds.Element = false
nameless m kinds.Name = false
nameless m (kinds.Member at) = false
nameless m (kinds.Expand at) = false
nameless m (kinds.Redirect r d) = is_default d
nameless m kinds.Assign = is_target m
nameless m kinds.AddAssign = is_target m
nameless m _ = true

abbrev pub stands_alone : Option ℕ → Bool
stands_alone None = false
stands_alone (Some b) = is_special b

-- that byte comes behind the first
abbrev pub fits : LexMode → Option ℕ → Begins → Bool
fits m second (Take k w) = nameless m k
fits m second Expand = starts second
fits m second Special = stands_alone second
fits m second Member = starts second
fits m second _ = true

either : (m : LexMode) (second : Option ℕ) (t : Bool) (x y : Begins) → fits m second x ≡ true → fits m second y ≡ true → fits m second (if t then x else y) ≡ true
either m second true x y e f = e
either m second false x y e f = f

-- ---- inside words

raw_fits : (m : LexMode) (first second : Option ℕ) → fits m second (raw first) ≡ true
raw_fits m None second = refl
raw_fits m (Some b) second = either m second (b == 0) (Refuse NotInProfile) (if b == 10 then Take kinds.Plain 1 else Run) refl (either m second (b == 10) (Take kinds.Plain 1) Run refl refl)

at_end_fits : (m : LexMode) (second : Option ℕ) → fits m second (at_end m) ≡ true
at_end_fits mode.Command second = refl
at_end_fits mode.Argument second = refl
at_end_fits mode.Pattern second = refl
at_end_fits mode.Condition second = refl
at_end_fits mode.Value second = refl
at_end_fits mode.Word second = refl
at_end_fits (mode.Quoted opening) second = refl
at_end_fits mode.Group second = refl
at_end_fits (mode.Braced end) second = refl
at_end_fits mode.Subscript second = refl
at_end_fits mode.Arithmetic second = refl
at_end_fits mode.LoopArithmetic second = refl
at_end_fits mode.Parentheses second = refl
at_end_fits (mode.HereBody tabs expands) second = refl
at_end_fits mode.Parameter second = refl
at_end_fits mode.Form second = refl
at_end_fits mode.Target second = refl

backslash_fits : (m : LexMode) (second : Option ℕ) → fits m second (backslash m second) ≡ true
backslash_fits m None = refl
backslash_fits m (Some b) =
    either m (Some b) (b == 0) (Take kinds.Plain 1) (if b == 10 then Take kinds.Joined 2 else if escapes m b then Take kinds.Escaped 2 else Run) refl
    (either m (Some b) (b == 10) (Take kinds.Joined 2) (if escapes m b then Take kinds.Escaped 2 else Run) refl
    (either m (Some b) (escapes m b) (Take kinds.Escaped 2) Run refl refl))

expands_fits : (m : LexMode) (b : ℕ) (t u : Bool) → starts_name b ≡ t → is_special b ≡ u → fits m (Some b) (if t then Expand else if u then Special else Take kinds.Dollar 1) ≡ true
expands_fits m b true u e f = e
expands_fits m b false true e f = f
expands_fits m b false false e f = refl

dollar_fits : (m : LexMode) (second third : Option ℕ) → fits m second (dollar m second third) ≡ true
dollar_fits m None third = refl
dollar_fits m (Some b) third = go (b == 40) (is 40 third) (b == 123) (b == 39 && quotes_singly m) (b == 34 && quotes_singly m)
  where
    go : (t u v w x : Bool) → fits m (Some b) (if t then (if u then Take kinds.OpenArithmetic 3 else Take kinds.OpenSubstitution 2) else if v then Take kinds.OpenParameter 2 else
        if w then Ansi else if x then Take kinds.OpenQuote 2 else if starts_name b then Expand else if is_special b then Special else Take kinds.Dollar 1) ≡ true
    go true true v w x = refl
    go true false v w x = refl
    go false u true w x = refl
    go false u false true x = refl
    go false u false false true = refl
    go false u false false false = expands_fits m b (starts_name b) (is_special b) refl refl

double_quote_fits : (m : LexMode) (second : Option ℕ) → fits m second (double_quote m) ≡ true
double_quote_fits mode.Command second = refl
double_quote_fits mode.Argument second = refl
double_quote_fits mode.Pattern second = refl
double_quote_fits mode.Condition second = refl
double_quote_fits mode.Value second = refl
double_quote_fits mode.Word second = refl
double_quote_fits (mode.Quoted opening) second = refl
double_quote_fits mode.Group second = refl
double_quote_fits (mode.Braced end) second = refl
double_quote_fits mode.Subscript second = refl
double_quote_fits mode.Arithmetic second = refl
double_quote_fits mode.LoopArithmetic second = refl
double_quote_fits mode.Parentheses second = refl
double_quote_fits (mode.HereBody tabs expands) second = refl
double_quote_fits mode.Parameter second = refl
double_quote_fits mode.Form second = refl
double_quote_fits mode.Target second = refl

tilde_fits : (m : LexMode) (b : ℕ) (second : Option ℕ) → fits m second (refuses_tilde b second) ≡ true
tilde_fits m b second = either m second (b == 126 && is 40 second) (Refuse NotInProfile) Run refl refl

arithmetic_fits : (m : LexMode) (b : ℕ) (second : Option ℕ) → fits m second (arithmetic b second) ≡ true
arithmetic_fits m b second =
    either m second (b == 40) (Take kinds.Open 1) (if b == 41 && is 41 second then Take kinds.Close 2 else Run) refl
    (either m second (b == 41 && is 41 second) (Take kinds.Close 2) Run refl refl)

own_fits : (m : LexMode) (b : ℕ) (second : Option ℕ) → fits m second (own m b second) ≡ true
own_fits mode.Word b second =
    either mode.Word second (ends_word b) (Take kinds.WordEnd 0) (if opens_group b && is 40 second then Group else refuses_tilde b second) refl
    (either mode.Word second (opens_group b && is 40 second) Group (refuses_tilde b second) refl (tilde_fits mode.Word b second))
own_fits mode.Group b second =
    either mode.Group second (b == 40) (Take kinds.Open 1) (if b == 41 then Take kinds.Close 1 else refuses_tilde b second) refl
    (either mode.Group second (b == 41) (Take kinds.Close 1) (refuses_tilde b second) refl (tilde_fits mode.Group b second))
own_fits (mode.Braced end) b second =
    either (mode.Braced end) second (b == 125) (Take kinds.Close 1) (if parts_braced end b then Take kinds.Separator 1 else refuses_tilde b second) refl
    (either (mode.Braced end) second (parts_braced end b) (Take kinds.Separator 1) (refuses_tilde b second) refl (tilde_fits (mode.Braced end) b second))
own_fits mode.Subscript b second =
    either mode.Subscript second (b == 91) (Take kinds.Open 1) (if b == 93 then Take kinds.Close 1 else Run) refl
    (either mode.Subscript second (b == 93) (Take kinds.Close 1) Run refl refl)
own_fits mode.Arithmetic b second = arithmetic_fits mode.Arithmetic b second
own_fits mode.LoopArithmetic b second = either mode.LoopArithmetic second (b == 59) (Take kinds.Separator 1) (arithmetic b second) refl (arithmetic_fits mode.LoopArithmetic b second)
own_fits mode.Parentheses b second =
    either mode.Parentheses second (b == 40) (Take kinds.Open 1) (if b == 41 then Take kinds.Close 1 else Run) refl
    (either mode.Parentheses second (b == 41) (Take kinds.Close 1) Run refl refl)
own_fits (mode.HereBody tabs expands) b second = either (mode.HereBody tabs expands) second (b == 10) (Take kinds.Plain 1) Run refl refl
own_fits mode.Command b second = refl
own_fits mode.Argument b second = refl
own_fits mode.Pattern b second = refl
own_fits mode.Condition b second = refl
own_fits mode.Value b second = refl
own_fits (mode.Quoted opening) b second = refl
own_fits mode.Parameter b second = refl
own_fits mode.Form b second = refl
own_fits mode.Target b second = refl

cooked_fits : (m : LexMode) (first second third : Option ℕ) → fits m second (cooked m first second third) ≡ true
cooked_fits m None second third = at_end_fits m second
cooked_fits m (Some b) second third = go (b == 0) (b == 92) (b == 36) (b == 96) (b == 39) (b == 34)
  where
    go : (t u v w x y : Bool) → fits m second (if t then Refuse NotInProfile else if u then backslash m second else if v then dollar m second third else
        if w then Take kinds.Backquote 1 else if x then (if quotes_singly m then Single else Run) else if y then double_quote m else own m b second) ≡ true
    go true u v w x y = refl
    go false true v w x y = backslash_fits m second
    go false false true w x y = dollar_fits m second third
    go false false false true x y = refl
    go false false false false true y = either m second (quotes_singly m) Single Run refl refl
    go false false false false false true = double_quote_fits m second
    go false false false false false false = own_fits m b second

piece_fits : (m : LexMode) (first second third : Option ℕ) → fits m second (piece m first second third) ≡ true
piece_fits m first second third = either m second (is_raw m) (raw first) (cooked m first second third) (raw_fits m first second) (cooked_fits m first second third)

-- ---- between words

digit_or_word : (m : LexMode) (b : ℕ) (second : Option ℕ) → fits m second (if is_digit b && (is 60 second || is 62 second) then Digit else if b == 123 then Brace else Start) ≡ true
digit_or_word m b second =
    either m second (is_digit b && (is 60 second || is 62 second)) Digit (if b == 123 then Brace else Start) refl (either m second (b == 123) Brace Start refl refl)

word_fits : (m : LexMode) (b : ℕ) (second : Option ℕ) → fits m second (word m b second) ≡ true
word_fits mode.Command b second = digit_or_word mode.Command b second
word_fits mode.Argument b second = digit_or_word mode.Argument b second
word_fits mode.Pattern b second = digit_or_word mode.Pattern b second
word_fits mode.Condition b second = refl
word_fits mode.Value b second = digit_or_word mode.Value b second
word_fits mode.Word b second = digit_or_word mode.Word b second
word_fits (mode.Quoted opening) b second = digit_or_word (mode.Quoted opening) b second
word_fits mode.Group b second = digit_or_word mode.Group b second
word_fits (mode.Braced end) b second = digit_or_word (mode.Braced end) b second
word_fits mode.Subscript b second = digit_or_word mode.Subscript b second
word_fits mode.Arithmetic b second = digit_or_word mode.Arithmetic b second
word_fits mode.LoopArithmetic b second = digit_or_word mode.LoopArithmetic b second
word_fits mode.Parentheses b second = digit_or_word mode.Parentheses b second
word_fits (mode.HereBody tabs expands) b second = digit_or_word (mode.HereBody tabs expands) b second
word_fits mode.Parameter b second = digit_or_word mode.Parameter b second
word_fits mode.Form b second = digit_or_word mode.Form b second
word_fits mode.Target b second = digit_or_word mode.Target b second

pub less_fits : (m : LexMode) (second third : Option ℕ) → fits m second (less second third) ≡ true
less_fits m second third = go (is 40 second || is 35 second) (is 60 second) (is 45 third) (is 60 third) (is 62 second) (is 38 second)
  where
    go : (t u v w x y : Bool) → fits m second (if t then Refuse NotInProfile else if u then (if v then redirect HereTabs 3 else if w then redirect HereString 3 else redirect HereDocument 2) else
        if x then redirect ReadWrite 2 else if y then redirect CopyInput 2 else redirect Input 1) ≡ true
    go true u v w x y = refl
    go false true true w x y = refl
    go false true false true x y = refl
    go false true false false x y = refl
    go false false v w true y = refl
    go false false v w false true = refl
    go false false v w false false = refl

pub greater_fits : (m : LexMode) (second : Option ℕ) → fits m second (greater second) ≡ true
greater_fits m second = go (is 40 second || (is 35 second || is 59 second)) (is 124 second) (is 62 second) (is 38 second)
  where
    go : (t u v w : Bool) → fits m second (if t then Refuse NotInProfile else if u then redirect Clobber 2 else if v then redirect Append 2 else
        if w then redirect CopyOutput 2 else redirect Output 1) ≡ true
    go true u v w = refl
    go false true v w = refl
    go false false true w = refl
    go false false false true = refl
    go false false false false = refl

operator_fits : (m : LexMode) (b : ℕ) (second : Option ℕ) (o : Option (Operator × ℕ)) → fits m second (operator_or (word m b second) o) ≡ true
operator_fits m b second None = word_fits m b second
operator_fits m b second (Some o) = refl

between_fits : (m : LexMode) (first second third : Option ℕ) → fits m second (between m first second third) ≡ true
between_fits m None second third = refl
between_fits m (Some b) second third = go (b == 0) (b == 10) (b == 96) (b == 60) (b == 62)
  where
    go : (t u v w x : Bool) → fits m second (if t then Refuse NotInProfile else if u then Take kinds.Newline 1 else if v then Take kinds.Backquote 1 else
        if w then less second third else if x then greater second else operator_or (word m b second) (operator m b second)) ≡ true
    go true u v w x = refl
    go false true v w x = refl
    go false false true w x = refl
    go false false false true x = less_fits m second third
    go false false false false true = greater_fits m second
    go false false false false false = operator_fits m b second (operator m b second)

-- ---- in parameters, and behind paths

parameter_fits : (m : LexMode) (first second third : Option ℕ) → fits m second (parameter first second third) ≡ true
parameter_fits m None second third = refl
parameter_fits m (Some a) second third = go (a == 0) (a == 33) (a == 35) (is_digit a) (a == 64 || (a == 42 || (a == 63 || (a == 36 || a == 45)))) (a == 46 || starts_name a)
  where
    go : (t u v w x y : Bool) → fits m second (if t then Refuse NotInProfile else if u then target_or_special second else if v then length_or_special second third else
        if w then Digits else if x then Take kinds.Special 1 else if y then Name else Refuse BadName) ≡ true
    go true u v w x y = refl
    go false true v w x y = either m second (begins_path second) (Take kinds.Target 1) (Take kinds.Special 1) refl refl
    go false false true w x y = either m second (is_measured second || (is_other_special second && is 125 third)) (Take kinds.Length 1) (Take kinds.Special 1) refl refl
    go false false false true x y = refl
    go false false false false true y = refl
    go false false false false false true = refl
    go false false false false false false = refl

member_by : (m : LexMode) (second : Option ℕ) (otherwise : Begins) (t : Bool) → starts second ≡ t → fits m second otherwise ≡ true → fits m second (if t then Member else otherwise) ≡ true
member_by m second otherwise true e h = e
member_by m second otherwise false e h = h

form_or_fits : (m : LexMode) (second : Option ℕ) (o : Option (Form × ℕ)) → fits m second (form_or (Refuse UnexpectedToken) o) ≡ true
form_or_fits m second None = refl
form_or_fits m second (Some f) = refl

form_fits : (m : LexMode) (first second third : Option ℕ) → fits m second (form first second third) ≡ true
form_fits m None second third = refl
form_fits m (Some a) second third = go (a == 0) (a == 125) (a == 91) (is 64 second && is 93 third) (is 42 second && is 93 third) (a == 46) (a == 64)
  where
    go : (t u v w x y z : Bool) → fits m second (if t then Refuse NotInProfile else if u then Take kinds.Close 1 else
        if v then (if w then Take (kinds.Items false) 3 else if x then Take (kinds.Items true) 3 else Take kinds.Open 1) else
        if y then member second (Refuse UnexpectedToken) else if z then (if is 125 second then Take kinds.Prefix 1 else Refuse UnexpectedToken) else
        form_or (Refuse UnexpectedToken) (form_of a second)) ≡ true
    go true u v w x y z = refl
    go false true v w x y z = refl
    go false false true true x y z = refl
    go false false true false true y z = refl
    go false false true false false y z = refl
    go false false false w x true z = member_by m second (Refuse UnexpectedToken) (starts second) refl refl
    go false false false w x false true = either m second (is 125 second) (Take kinds.Prefix 1) (Refuse UnexpectedToken) refl refl
    go false false false w x false false = form_or_fits m second (form_of a second)

target_fits : (first second : Option ℕ) → fits mode.Target second (target first second) ≡ true
target_fits first second = go (is 61 first) (is 43 first && is 61 second) (is 91 first) (is 46 first)
  where
    go : (t u v w : Bool) → fits mode.Target second (if t then Take kinds.Assign 1 else if u then Take kinds.AddAssign 2 else if v then Take kinds.Open 1 else
        if w then member second (Take kinds.Otherwise 0) else Take kinds.Otherwise 0) ≡ true
    go true u v w = refl
    go false true v w = refl
    go false false true w = refl
    go false false false true = member_by mode.Target second (Take kinds.Otherwise 0) (starts second) refl refl
    go false false false false = refl

pub begins_fits : (m : LexMode) (first second third : Option ℕ) → fits m second (begins m first second third) ≡ true
begins_fits mode.Command first second third = between_fits mode.Command first second third
begins_fits mode.Argument first second third = between_fits mode.Argument first second third
begins_fits mode.Pattern first second third = between_fits mode.Pattern first second third
begins_fits mode.Condition first second third = between_fits mode.Condition first second third
begins_fits mode.Value first second third = between_fits mode.Value first second third
begins_fits mode.Word first second third = piece_fits mode.Word first second third
begins_fits (mode.Quoted opening) first second third = piece_fits (mode.Quoted opening) first second third
begins_fits mode.Group first second third = piece_fits mode.Group first second third
begins_fits (mode.Braced end) first second third = piece_fits (mode.Braced end) first second third
begins_fits mode.Subscript first second third = piece_fits mode.Subscript first second third
begins_fits mode.Arithmetic first second third = piece_fits mode.Arithmetic first second third
begins_fits mode.LoopArithmetic first second third = piece_fits mode.LoopArithmetic first second third
begins_fits mode.Parentheses first second third = piece_fits mode.Parentheses first second third
begins_fits (mode.HereBody tabs expands) first second third = piece_fits (mode.HereBody tabs expands) first second third
begins_fits mode.Parameter first second third = parameter_fits mode.Parameter first second third
begins_fits mode.Form first second third = form_fits mode.Form first second third
begins_fits mode.Target first second third = target_fits first second
