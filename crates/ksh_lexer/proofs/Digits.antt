-- A digit belongs to a redirection only before `<` or `>`.
use Rattle.std.proofs.Common.{◌≡◌, ℕ, Bool, true, false, ◌||◌, ◌&&◌, ◌==◌, Option, Some, None, refl, ap, arith, if◌then◌else◌}
use Rattle.std.proofs.lemmas.Bool.Decides.{nat_tests}
use Rattle.ksh_lexer.specs.declared.outer.Begins.{Begins}
use Rattle.ksh_lexer.specs.declared.outer.Begins.TheVariants.{Take, Refuse, Single, Run, Digit, Digits, Name, Member}
use Rattle.ksh_lexer.specs.declared.kind.TokenKind.TheVariants as kinds
use Rattle.ksh_lexer.specs.declared.fault.SyntaxKind.TheVariants.{NotInProfile, BadName, UnexpectedToken}
use Rattle.ksh_lexer.specs.Inside.{at_end, backslash, cooked, dollar, double_quote, escapes, is_raw, own, piece, quotes_singly, raw}
use Rattle.ksh_lexer.specs.declared.mode.LexMode.{LexMode}
use Rattle.ksh_lexer.specs.declared.mode.LexMode.TheVariants as mode
use Rattle.ksh_lexer.specs.declared.kind.Operator.{Operator}
use Rattle.ksh_lexer.specs.declared.kind.Form.{Form}
use Rattle.ksh_lexer.specs.Between.{between, greater, less, operator, operator_or, word}
use Rattle.ksh_lexer.specs.Parameters.{bracket, form, form_of, form_or, begins_path, is_measured, is_other_special, length_or_special, member, parameter, starts, target_or_special}
use Rattle.ksh_lexer.specs.Bytes.{is, is_digit, starts_name}
use Rattle.ksh_lexer.specs.Begin.{begins}

abbrev pub digit_before : Option ℕ → Option ℕ → Bool
digit_before None second = false
digit_before (Some b) second = is_digit b && (is 60 second || is 62 second)

abbrev never : Begins → Bool
never Digit = false
never _ = true

either : (t : Bool) (x y : Begins) → never x ≡ true → never y ≡ true → never (if t then x else y) ≡ true
either true x y e f = e
either false x y e f = f

raw_never : (first : Option ℕ) → never (raw first) ≡ true
raw_never None = refl
raw_never (Some b) = grind (arith, nat_tests)

at_end_never : (m : LexMode) → never (at_end m) ≡ true
at_end_never m = grind (arith, nat_tests)

backslash_never : (m : LexMode) (second : Option ℕ) → never (backslash m second) ≡ true
backslash_never m None = refl
backslash_never m (Some b) =
    either (b == 0) (Take kinds.Plain 1) (if b == 10 then Take kinds.Joined 2 else if escapes m b then Take kinds.Escaped 2 else Run) refl
    (either (b == 10) (Take kinds.Joined 2) (if escapes m b then Take kinds.Escaped 2 else Run) refl
    (either (escapes m b) (Take kinds.Escaped 2) Run refl refl))

dollar_never : (m : LexMode) (second third : Option ℕ) → never (dollar m second third) ≡ true
dollar_never m None third = refl
dollar_never m (Some b) third = grind (arith, nat_tests)

double_quote_never : (m : LexMode) → never (double_quote m) ≡ true
double_quote_never m = grind (arith, nat_tests)

own_never : (m : LexMode) (b : ℕ) (second : Option ℕ) → never (own m b second) ≡ true
own_never mode.Word b second = grind (arith, nat_tests)
own_never mode.Group b second = grind (arith, nat_tests)
own_never (mode.Braced end) b second = grind (arith, nat_tests)
own_never mode.Subscript b second = grind (arith, nat_tests)
own_never mode.Arithmetic b second = grind (arith, nat_tests)
own_never mode.LoopArithmetic b second = grind (arith, nat_tests)
own_never mode.Parentheses b second = grind (arith, nat_tests)
own_never (mode.HereBody tabs expands) b second = grind (arith, nat_tests)
own_never mode.Command b second = refl
own_never mode.Argument b second = refl
own_never mode.Pattern b second = refl
own_never mode.Condition b second = refl
own_never mode.Value b second = refl
own_never (mode.Quoted opening) b second = refl
own_never mode.Parameter b second = refl
own_never mode.Form b second = refl
own_never mode.Target b second = refl

single_never : (t : Bool) → never (if t then Single else Run) ≡ true
single_never true = refl
single_never false = refl

cooked_never : (m : LexMode) (first second third : Option ℕ) → never (cooked m first second third) ≡ true
cooked_never m None second third = at_end_never m
cooked_never m (Some b) second third = go (b == 0) (b == 92) (b == 36) (b == 96) (b == 39) (b == 34)
  where
    go : (t u v w x y : Bool) → never (if t then Refuse NotInProfile else if u then backslash m second else if v then dollar m second third else
        if w then Take kinds.Backquote 1 else if x then (if quotes_singly m then Single else Run) else if y then double_quote m else own m b second) ≡ true
    go true u v w x y = refl
    go false true v w x y = backslash_never m second
    go false false true w x y = dollar_never m second third
    go false false false true x y = refl
    go false false false false true y = single_never (quotes_singly m)
    go false false false false false true = double_quote_never m
    go false false false false false false = own_never m b second

piece_never : (m : LexMode) (first second third : Option ℕ) → never (piece m first second third) ≡ true
piece_never m first second third = either (is_raw m) (raw first) (cooked m first second third) (raw_never first) (cooked_never m first second third)

no_piece : (m : LexMode) (a b c : Option ℕ) → piece m a b c ≡ Digit → ⊥
no_piece m a b c e =
    let f : never (piece m a b c) ≡ false = ap never e in
    let t = piece_never m a b c in
    cc

word_digit : (m : LexMode) (b : ℕ) (second : Option ℕ) → word m b second ≡ Digit → (is_digit b && (is 60 second || is 62 second)) ≡ true
word_digit mode.Condition b second e = cc
word_digit mode.Command b second e = grind (arith, nat_tests)
word_digit mode.Argument b second e = grind (arith, nat_tests)
word_digit mode.Pattern b second e = grind (arith, nat_tests)
word_digit mode.Value b second e = grind (arith, nat_tests)
word_digit mode.Parameter b second e = grind (arith, nat_tests)
word_digit mode.Form b second e = grind (arith, nat_tests)
word_digit mode.Target b second e = grind (arith, nat_tests)
word_digit mode.Word b second e = grind (arith, nat_tests)
word_digit (mode.Quoted opening) b second e = grind (arith, nat_tests)
word_digit mode.Group b second e = grind (arith, nat_tests)
word_digit (mode.Braced end) b second e = grind (arith, nat_tests)
word_digit mode.Subscript b second e = grind (arith, nat_tests)
word_digit mode.Arithmetic b second e = grind (arith, nat_tests)
word_digit mode.LoopArithmetic b second e = grind (arith, nat_tests)
word_digit mode.Parentheses b second e = grind (arith, nat_tests)
word_digit (mode.HereBody tabs expands) b second e = grind (arith, nat_tests)

less_never : (second third : Option ℕ) → never (less second third) ≡ true
less_never second third = grind (arith, nat_tests)

greater_never : (second : Option ℕ) → never (greater second) ≡ true
greater_never second = grind (arith, nat_tests)

operator_digit : (m : LexMode) (b : ℕ) (second : Option ℕ) (o : Option (Operator × ℕ)) → operator_or (word m b second) o ≡ Digit → (is_digit b && (is 60 second || is 62 second)) ≡ true
operator_digit m b second None e = word_digit m b second e
operator_digit m b second (Some o) e = cc

refuted : (b : Begins) → never b ≡ true → b ≡ Digit → ⊥
refuted b n e =
    let f : never b ≡ false = ap never e in
    cc

between_digit : (m : LexMode) (b : ℕ) (second third : Option ℕ) → between m (Some b) second third ≡ Digit → (is_digit b && (is 60 second || is 62 second)) ≡ true
between_digit m b second third = go (b == 0) (b == 10) (b == 96) (b == 60) (b == 62)
  where
    go : (t u v w x : Bool) → (if t then Refuse NotInProfile else if u then Take kinds.Newline 1 else if v then Take kinds.Backquote 1 else
        if w then less second third else if x then greater second else operator_or (word m b second) (operator m b second)) ≡ Digit
        → (is_digit b && (is 60 second || is 62 second)) ≡ true
    go true u v w x e = cc
    go false true v w x e = cc
    go false false true w x e = cc
    go false false false true x e = absurd (refuted (less second third) (less_never second third) e)
    go false false false false true e = absurd (refuted (greater second) (greater_never second) e)
    go false false false false false e = operator_digit m b second (operator m b second) e

parameter_digit : (a : ℕ) (b c : Option ℕ) → parameter (Some a) b c ≡ Digit → ⊥
parameter_digit a b c = go (a == 0) (a == 33) (a == 35) (is_digit a) (a == 64 || (a == 42 || (a == 63 || (a == 36 || a == 45)))) (a == 46 || starts_name a)
  where
    go : (t u v w x y : Bool) → (if t then Refuse NotInProfile else if u then target_or_special b else if v then length_or_special b c else
        if w then Digits else if x then Take kinds.Special 1 else if y then Name else Refuse BadName) ≡ Digit → ⊥
    go true u v w x y e = cc
    go false true v w x y e = refuted (target_or_special b) (either (begins_path b) (Take kinds.Target 1) (Take kinds.Special 1) refl refl) e
    go false false true w x y e = refuted (length_or_special b c) (either (is_measured b || (is_other_special b && is 125 c)) (Take kinds.Length 1) (Take kinds.Special 1) refl refl) e
    go false false false true x y e = cc
    go false false false false true y e = cc
    go false false false false false true e = cc
    go false false false false false false e = cc

form_or_never : (o : Option (Form × ℕ)) → never (form_or (Refuse UnexpectedToken) o) ≡ true
form_or_never None = refl
form_or_never (Some f) = refl

form_digit : (a : ℕ) (b c : Option ℕ) → form (Some a) b c ≡ Digit → ⊥
form_digit a b c = go (a == 0) (a == 125) (a == 91) (a == 46) (a == 64)
  where
    go : (t u v w x : Bool) → (if t then Refuse NotInProfile else if u then Take kinds.Close 1 else if v then bracket b c else
        if w then member b (Refuse UnexpectedToken) else if x then (if is 125 b then Take kinds.Prefix 1 else Refuse UnexpectedToken) else
        form_or (Refuse UnexpectedToken) (form_of a b)) ≡ Digit → ⊥
    go true u v w x e = cc
    go false true v w x e = cc
    go false false true w x e = refuted (bracket b c) (grind (arith, nat_tests)) e
    go false false false true x e = refuted (member b (Refuse UnexpectedToken)) (either (starts b) Member (Refuse UnexpectedToken) refl refl) e
    go false false false false true e = refuted (if is 125 b then Take kinds.Prefix 1 else Refuse UnexpectedToken) (either (is 125 b) (Take kinds.Prefix 1) (Refuse UnexpectedToken) refl refl) e
    go false false false false false e = refuted (form_or (Refuse UnexpectedToken) (form_of a b)) (form_or_never (form_of a b)) e

pub digit_only : (m : LexMode) (a b c : Option ℕ) → begins m a b c ≡ Digit → digit_before a b ≡ true
digit_only mode.Command None b c e = cc
digit_only mode.Command (Some a) b c e = between_digit mode.Command a b c e
digit_only mode.Argument None b c e = cc
digit_only mode.Argument (Some a) b c e = between_digit mode.Argument a b c e
digit_only mode.Pattern None b c e = cc
digit_only mode.Pattern (Some a) b c e = between_digit mode.Pattern a b c e
digit_only mode.Condition None b c e = cc
digit_only mode.Condition (Some a) b c e = between_digit mode.Condition a b c e
digit_only mode.Value None b c e = cc
digit_only mode.Value (Some a) b c e = between_digit mode.Value a b c e
digit_only mode.Parameter None b c e = cc
digit_only mode.Parameter (Some a) b c e = absurd (parameter_digit a b c e)
digit_only mode.Form None b c e = cc
digit_only mode.Form (Some a) b c e = absurd (form_digit a b c e)
digit_only mode.Target a b c e = grind (arith, nat_tests)
digit_only mode.Word a b c e = absurd (no_piece mode.Word a b c e)
digit_only (mode.Quoted opening) a b c e = absurd (no_piece (mode.Quoted opening) a b c e)
digit_only mode.Group a b c e = absurd (no_piece mode.Group a b c e)
digit_only (mode.Braced end) a b c e = absurd (no_piece (mode.Braced end) a b c e)
digit_only mode.Subscript a b c e = absurd (no_piece mode.Subscript a b c e)
digit_only mode.Arithmetic a b c e = absurd (no_piece mode.Arithmetic a b c e)
digit_only mode.LoopArithmetic a b c e = absurd (no_piece mode.LoopArithmetic a b c e)
digit_only mode.Parentheses a b c e = absurd (no_piece mode.Parentheses a b c e)
digit_only (mode.HereBody tabs expands) a b c e = absurd (no_piece (mode.HereBody tabs expands) a b c e)
