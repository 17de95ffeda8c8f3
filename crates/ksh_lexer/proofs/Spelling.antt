-- The bytes of tokens are what is told of them.
use Rattle.std.proofs.Common.{◌≡◌, ℕ, zero, suc, ◌+◌, ◌-◌, ◌<◌, ◌≤◌, Bool, true, false, ◌||◌, ◌&&◌, ◌==◌, List, [], ◌∷◌, length, take, drop, slice_index, Option, Some, None, Ok, Err, refl, ap, sym, ◌∙◌, subst, arith, if◌then◌else◌}
use Rattle.std.specs.Prelude.{nat_lt, slice_get}
use Rattle.std.proofs.lemmas.Bool.Decides.{nat_tests}
use Rattle.std.proofs.lemmas.List.{drop_more, drop-take}
use Rattle.std.proofs.lemmas.Option.{slice_get_within, get_or_from_slice_get}
use lib.Seq.{drop-drop, take-take}
use Rattle.ksh_lexer.specs.declared.outer.Begins.{Begins}
use Rattle.ksh_lexer.specs.declared.outer.Begins.TheVariants as begin
use Rattle.ksh_lexer.specs.declared.kind.Descriptor.{Descriptor}
use Rattle.ksh_lexer.specs.declared.kind.Descriptor.TheVariants as descriptor
use Rattle.ksh_lexer.specs.declared.kind.Token.{Token}
use Rattle.ksh_lexer.specs.declared.kind.TokenKind.{TokenKind}
use Rattle.ksh_lexer.specs.declared.kind.TokenKind.TheVariants as kinds
use Rattle.ksh_lexer.specs.declared.fault.SyntaxKind.TheVariants.{BadName, NotInProfile}
use Rattle.ksh_lexer.specs.declared.mode.LexMode.{LexMode}
use Rattle.ksh_lexer.specs.declared.scan.Class.TheVariants as class
use Rattle.ksh_lexer.specs.Begin.{begins_at}
use Rattle.ksh_lexer.specs.Between.{greater, less}
use Rattle.ksh_lexer.specs.Brackets.{after_bracket, continues_assignment}
use Rattle.ksh_lexer.specs.Bytes.{in_name, is, is_digit, is_special, starts_name}
use Rattle.ksh_lexer.specs.Class.{in_class}
use Rattle.ksh_lexer.specs.Escapes.{ansi_end}
use Rattle.ksh_lexer.specs.Names.{are_in_name, is_name, is_own_name, is_path}
use Rattle.ksh_lexer.specs.Parameters.{starts}
use Rattle.ksh_lexer.specs.Reach.{IsRun, at_byte, next, no_byte, reach, span}
use Rattle.ksh_lexer.specs.Spells.{IsSpelled, Spells, is_descriptor, is_one_special, is_spelled}
use Rattle.ksh_lexer.specs.Tok.{Answer, NamedBy, Stands, Tok, WordAt, WordBy, bare, bytes_between, fault, group, is_element, is_key, is_named, name, quoted, quoted_by, may_assign, redirect, redirect_by, token, with_descriptor, word_ends}
use Rattle.ksh_lexer.proofs.Fits.{begins_fits, fits, greater_fits, less_fits, nameless, stands_alone}
use Rattle.ksh_lexer.proofs.Present.{digit_there}

-- ---- tokens of one kind

nameless_spelled : (m : LexMode) (k : TokenKind) (from : ℕ) (bytes : List ℕ) → nameless m k ≡ true → is_spelled m k from bytes ≡ true
nameless_spelled m kinds.End from bytes h = refl
nameless_spelled m kinds.Newline from bytes h = refl
nameless_spelled m (kinds.Operator o) from bytes h = refl
nameless_spelled m (kinds.Redirect r descriptor.Default) from bytes h = refl
nameless_spelled m (kinds.Redirect r (descriptor.Digit n)) from bytes h = absurd cc
nameless_spelled m (kinds.Redirect r (descriptor.Named end)) from bytes h = absurd cc
nameless_spelled m kinds.Bare from bytes h = refl
nameless_spelled m kinds.Start from bytes h = refl
nameless_spelled m kinds.Element from bytes h = absurd cc
nameless_spelled m kinds.Key from bytes h = refl
nameless_spelled m kinds.WordEnd from bytes h = refl
nameless_spelled m kinds.Plain from bytes h = refl
nameless_spelled m kinds.Joined from bytes h = refl
nameless_spelled m kinds.Escaped from bytes h = refl
nameless_spelled m kinds.Single from bytes h = refl
nameless_spelled m (kinds.Ansi at) from bytes h = refl
nameless_spelled m kinds.OpenQuote from bytes h = refl
nameless_spelled m kinds.CloseQuote from bytes h = refl
nameless_spelled m kinds.Backquote from bytes h = refl
nameless_spelled m (kinds.Expand at) from bytes h = absurd cc
nameless_spelled m kinds.OpenParameter from bytes h = refl
nameless_spelled m kinds.OpenSubstitution from bytes h = refl
nameless_spelled m kinds.OpenArithmetic from bytes h = refl
nameless_spelled m kinds.Dollar from bytes h = refl
nameless_spelled m kinds.Open from bytes h = refl
nameless_spelled m kinds.Close from bytes h = refl
nameless_spelled m kinds.Separator from bytes h = refl
nameless_spelled m kinds.Length from bytes h = refl
nameless_spelled m kinds.Target from bytes h = refl
nameless_spelled m kinds.Name from bytes h = absurd cc
nameless_spelled m kinds.Digits from bytes h = refl
nameless_spelled m kinds.Special from bytes h = refl
nameless_spelled m (kinds.Form f) from bytes h = refl
nameless_spelled m (kinds.Items joined) from bytes h = refl
nameless_spelled m (kinds.Member at) from bytes h = absurd cc
nameless_spelled m kinds.Prefix from bytes h = refl
nameless_spelled m kinds.Assign from bytes h = h
nameless_spelled m kinds.AddAssign from bytes h = h
nameless_spelled m kinds.Otherwise from bytes h = refl

with_spelled : (m : LexMode) (d : Descriptor) (k : TokenKind) (from : ℕ) (bytes : List ℕ) → nameless m k ≡ true → is_descriptor d from bytes ≡ true → is_spelled m (with_descriptor d k) from bytes ≡ true
with_spelled m d kinds.End from bytes h i = nameless_spelled m kinds.End from bytes h
with_spelled m d kinds.Newline from bytes h i = nameless_spelled m kinds.Newline from bytes h
with_spelled m d (kinds.Operator o) from bytes h i = nameless_spelled m (kinds.Operator o) from bytes h
with_spelled m d (kinds.Redirect r e) from bytes h i = i
with_spelled m d kinds.Bare from bytes h i = nameless_spelled m kinds.Bare from bytes h
with_spelled m d kinds.Start from bytes h i = nameless_spelled m kinds.Start from bytes h
with_spelled m d kinds.Element from bytes h i = nameless_spelled m kinds.Element from bytes h
with_spelled m d kinds.Key from bytes h i = nameless_spelled m kinds.Key from bytes h
with_spelled m d kinds.WordEnd from bytes h i = nameless_spelled m kinds.WordEnd from bytes h
with_spelled m d kinds.Plain from bytes h i = nameless_spelled m kinds.Plain from bytes h
with_spelled m d kinds.Joined from bytes h i = nameless_spelled m kinds.Joined from bytes h
with_spelled m d kinds.Escaped from bytes h i = nameless_spelled m kinds.Escaped from bytes h
with_spelled m d kinds.Single from bytes h i = nameless_spelled m kinds.Single from bytes h
with_spelled m d (kinds.Ansi at) from bytes h i = nameless_spelled m (kinds.Ansi at) from bytes h
with_spelled m d kinds.OpenQuote from bytes h i = nameless_spelled m kinds.OpenQuote from bytes h
with_spelled m d kinds.CloseQuote from bytes h i = nameless_spelled m kinds.CloseQuote from bytes h
with_spelled m d kinds.Backquote from bytes h i = nameless_spelled m kinds.Backquote from bytes h
with_spelled m d (kinds.Expand at) from bytes h i = nameless_spelled m (kinds.Expand at) from bytes h
with_spelled m d kinds.OpenParameter from bytes h i = nameless_spelled m kinds.OpenParameter from bytes h
with_spelled m d kinds.OpenSubstitution from bytes h i = nameless_spelled m kinds.OpenSubstitution from bytes h
with_spelled m d kinds.OpenArithmetic from bytes h i = nameless_spelled m kinds.OpenArithmetic from bytes h
with_spelled m d kinds.Dollar from bytes h i = nameless_spelled m kinds.Dollar from bytes h
with_spelled m d kinds.Open from bytes h i = nameless_spelled m kinds.Open from bytes h
with_spelled m d kinds.Close from bytes h i = nameless_spelled m kinds.Close from bytes h
with_spelled m d kinds.Separator from bytes h i = nameless_spelled m kinds.Separator from bytes h
with_spelled m d kinds.Length from bytes h i = nameless_spelled m kinds.Length from bytes h
with_spelled m d kinds.Target from bytes h i = nameless_spelled m kinds.Target from bytes h
with_spelled m d kinds.Name from bytes h i = nameless_spelled m kinds.Name from bytes h
with_spelled m d kinds.Digits from bytes h i = nameless_spelled m kinds.Digits from bytes h
with_spelled m d kinds.Special from bytes h i = nameless_spelled m kinds.Special from bytes h
with_spelled m d (kinds.Form f) from bytes h i = nameless_spelled m (kinds.Form f) from bytes h
with_spelled m d (kinds.Items joined) from bytes h i = nameless_spelled m (kinds.Items joined) from bytes h
with_spelled m d (kinds.Member at) from bytes h i = nameless_spelled m (kinds.Member at) from bytes h
with_spelled m d kinds.Prefix from bytes h i = nameless_spelled m kinds.Prefix from bytes h
with_spelled m d kinds.Assign from bytes h i = nameless_spelled m kinds.Assign from bytes h
with_spelled m d kinds.AddAssign from bytes h i = nameless_spelled m kinds.AddAssign from bytes h
with_spelled m d kinds.Otherwise from bytes h i = nameless_spelled m kinds.Otherwise from bytes h

-- ---- bytes

both : (a b : Bool) → (a && b) ≡ true → (a ≡ true) × (b ≡ true)
both true b h = (refl, h)
both false b h = absurd cc

either_left : (a b : Bool) → a ≡ true → (a || b) ≡ true
either_left a b h = ap (λ t. t || b) h

either_right : (a b : Bool) → b ≡ true → (a || b) ≡ true
either_right true b h = refl
either_right false b h = h

there : (text : List ℕ) (k : ℕ) (o : Option ℕ) → slice_get text k ≡ o → starts o ≡ true → (k < length text) × (starts_name (slice_index text k) ≡ true)
there text k None e h = absurd cc
there text k (Some b) e h = (slice_get_within text k b e, ap starts_name (get_or_from_slice_get text k b 0 e) ∙ h)

alone_there : (text : List ℕ) (k : ℕ) (o : Option ℕ) → slice_get text k ≡ o → stands_alone o ≡ true → (k < length text) × (is_special (slice_index text k) ≡ true)
alone_there text k None e h = absurd cc
alone_there text k (Some b) e h = (slice_get_within text k b e, ap is_special (get_or_from_slice_get text k b 0 e) ∙ h)

goes_on : (b : ℕ) → starts_name b ≡ true → in_name b ≡ true
goes_on b h = either_left (starts_name b) (is_digit b) h

one_more : (text : List ℕ) (k n : ℕ) → k < length text → take (suc n) (drop k text) ≡ slice_index text k ∷ take n (drop (k + 1) text)
one_more text k n lt = ap (λ xs. take (suc n) xs) (drop_more text k 0 lt)

all_in_name : (text : List ℕ) (k n : ℕ) → k + n ≤ length text → ((i : ℕ) → k ≤ i → i < k + n → in_name (slice_index text i) ≡ true) → are_in_name (take n (drop k text)) ≡ true
all_in_name text k zero h each = refl
all_in_name text k (suc n) h each =
    let here : in_name (slice_index text k) ≡ true = each k (omega arith) (omega arith) in
    let rest : are_in_name (take n (drop (k + 1) text)) ≡ true = all_in_name text (k + 1) n (omega (arith, h)) (λ i low high. each i (omega (arith, low)) (omega (arith, high))) in
    ap are_in_name (one_more text k n (omega (arith, h))) ∙ ap (λ t. t && are_in_name (take n (drop (k + 1) text))) here ∙ rest

-- a letter and a run of such bytes are a name
run_named : (text : List ℕ) (from n : ℕ) → from + suc n ≤ length text → starts_name (slice_index text from) ≡ true → ((i : ℕ) → from ≤ i → i < from + suc n → in_name (slice_index text i) ≡ true)
    → is_own_name (take (suc n) (drop from text)) ≡ true
run_named text from n within first each =
    let rest : are_in_name (take n (drop (from + 1) text)) ≡ true = all_in_name text (from + 1) n (omega (arith, within)) (λ i low high. each i (omega (arith, low)) (omega (arith, high))) in
    ap is_own_name (one_more text from n (omega (arith, within))) ∙ ap (λ t. t && are_in_name (take n (drop (from + 1) text))) first ∙ rest

run_name_by : (text : List ℕ) (from end n : ℕ) → end - from ≡ n → from < end → starts_name (slice_index text from) ≡ true → IsRun (at_byte (in_class class.Name)) text from end
    → is_own_name (bytes_between text from end) ≡ true
run_name_by text from end zero e lt first run = absurd (let f : ⊥ = omega (arith, e, lt) in f)
run_name_by text from end (suc n) e lt first run =
    ap (λ k. is_own_name (take k (drop from text))) e
    ∙ run_named text from n (omega (arith, e, run.within)) first (λ i low high. run.each i low (omega (arith, e, high)))

-- a run goes on behind a letter
run_on : (text : List ℕ) (from end : ℕ) (t : Bool) → from ≤ end → nat_lt from end ≡ t → from < length text → starts_name (slice_index text from) ≡ true → IsRun (at_byte (in_class class.Name)) text from end → from < end
run_on text from end true le e lt first run = grind (arith, nat_tests)
run_on text from end false le e lt first run =
    let same : from ≡ end = grind (arith, nat_tests) in
    let out : in_name (slice_index text end) ≡ false = run.ends (omega (arith, same, lt)) in
    let more : in_name (slice_index text end) ≡ true = ap (λ k. in_name (slice_index text k)) (sym same) ∙ goes_on (slice_index text from) first in
    absurd (let f : true ≡ false = sym more ∙ out in cc)

run_name : (text : List ℕ) (from end : ℕ) → from < length text → starts_name (slice_index text from) ≡ true → IsRun (at_byte (in_class class.Name)) text from end
    → is_own_name (bytes_between text from end) ≡ true
run_name text from end lt first run = run_name_by text from end (end - from) refl (run_on text from end (nat_lt from end) run.ordered refl lt first run) first run

later_by : (t : Bool) (a b c : ℕ) → a < b → a < c → a < (if t then b else c)
later_by true a b c h i = h
later_by false a b c h i = i

next_later : (text : List ℕ) (k : ℕ) → k < next text k
next_later text k = later_by (slice_index text k == 92) k (k + 1) (k + 1 + span no_byte (drop (k + 1) text)) (omega arith) (omega arith)

reach_by : (a b c : Bool) (from x y : ℕ) → from < x → from < y → from ≤ (if a then from else if b then from + 1 else if c then x + 1 else y + 1)
reach_by true b c from x y h i = omega arith
reach_by false true c from x y h i = omega arith
reach_by false false true from x y h i = omega (arith, h)
reach_by false false false from x y h i = omega (arith, i)

reach_later : (text : List ℕ) (from width : ℕ) → from ≤ reach text from width
reach_later text from width =
    let one : from < next text from = next_later text from in
    let two : next text from < next text (next text from) = next_later text (next text from) in
    reach_by (width == 0) (width == 1) (width == 2) from (next text from) (next text (next text from)) one (omega (arith, one, two))

-- the bytes of a token from a place on
from_place : (text : List ℕ) (from at to : ℕ) → from ≤ at → at ≤ to → drop (at - from) (bytes_between text from to) ≡ bytes_between text at to
from_place text from at to low high =
    let long : to - from ≡ (at - from) + (to - at) = omega (arith, low, high) in
    let back : from + (at - from) ≡ at = omega (arith, low) in
    ap (λ n. drop (at - from) (take n (drop from text))) long ∙ drop-take (at - from) (to - at) (drop from text)
    ∙ ap (λ xs. take (to - at) xs) (drop-drop (at - from) from text) ∙ ap (λ k. take (to - at) (drop k text)) back

-- those behind the first, as far as another place
behind_first : (text : List ℕ) (from end to : ℕ) → from < end → end ≤ to → take (end - from - 1) (drop 1 (bytes_between text from to)) ≡ bytes_between text (from + 1) end
behind_first text from end to low high =
    let one : from + 1 - from ≡ 1 = omega arith in
    let less : end - from - 1 ≡ end - (from + 1) = omega arith in
    ap (λ n. take (end - from - 1) (drop n (bytes_between text from to))) (sym one)
    ∙ ap (λ xs. take (end - from - 1) xs) (from_place text from (from + 1) to (omega arith) (omega (arith, low, high)))
    ∙ take-take (end - from - 1) (to - (from + 1)) (drop (from + 1) text) (omega (arith, high))
    ∙ ap (λ n. take n (drop (from + 1) text)) less

-- ---- what stands at a place

same_ok : (t u : Token) → (let x : Answer = Ok t in x ≡ Ok u) → u ≡ t
same_ok t u e = cc

abbrev answer : Token → Answer
answer t = Ok t

-- a token of that kind and of those bytes
is_token : (m : LexMode) (text : List ℕ) (t : Token) (k : TokenKind) (from to : ℕ) → answer t ≡ token k from to → is_spelled m k from (bytes_between text from to) ≡ true → IsSpelled m text t
is_token m text t k from to e h = subst (λ u. IsSpelled m text u) (same_ok t (record { kind = k; from = from; to = to }) e) h

quoted_spelled : (m : LexMode) (text : List ℕ) (t : Token) (k : TokenKind) (from end : ℕ) (o : Option ℕ) → nameless m k ≡ true → answer t ≡ quoted_by k from end o → IsSpelled m text t
quoted_spelled m text t k from end None h e = absurd cc
quoted_spelled m text t k from end (Some b) h e = go (b == 39) e
  where
    go : (c : Bool) → answer t ≡ (if c then token k from (end + 1) else fault NotInProfile end) → IsSpelled m text t
    go true e = is_token m text t k from (end + 1) e (nameless_spelled m k from _ h)
    go false e = absurd cc

-- an operator behind its descriptor
redirect_spelled : (m : LexMode) (text : List ℕ) (t : Token) (d : Descriptor) (from place : ℕ) (second : Option ℕ) (b : Begins) → fits m second b ≡ true
    → ((to : ℕ) → place ≤ to → is_descriptor d from (bytes_between text from to) ≡ true) → answer t ≡ redirect_by d text from place b → IsSpelled m text t
redirect_spelled m text t d from place second (begin.Take k width) h i e =
    is_token m text t (with_descriptor d k) from (reach text place width) e (with_spelled m d k from _ h (i (reach text place width) (reach_later text place width)))
redirect_spelled m text t d from place second (begin.Refuse kind) h i e = absurd cc
redirect_spelled m text t d from place second (begin.Unclosed opening) h i e = absurd cc
redirect_spelled m text t d from place second begin.Digit h i e = absurd cc
redirect_spelled m text t d from place second begin.Brace h i e = absurd cc
redirect_spelled m text t d from place second begin.Start h i e = absurd cc
redirect_spelled m text t d from place second begin.Single h i e = absurd cc
redirect_spelled m text t d from place second begin.Ansi h i e = absurd cc
redirect_spelled m text t d from place second begin.Expand h i e = absurd cc
redirect_spelled m text t d from place second begin.Special h i e = absurd cc
redirect_spelled m text t d from place second begin.Group h i e = absurd cc
redirect_spelled m text t d from place second begin.Run h i e = absurd cc
redirect_spelled m text t d from place second begin.Name h i e = absurd cc
redirect_spelled m text t d from place second begin.Digits h i e = absurd cc
redirect_spelled m text t d from place second begin.Member h i e = absurd cc

operator_spelled : (m : LexMode) (text : List ℕ) (t : Token) (d : Descriptor) (from place : ℕ)
    → ((to : ℕ) → place ≤ to → is_descriptor d from (bytes_between text from to) ≡ true) → answer t ≡ redirect d text from place → IsSpelled m text t
operator_spelled m text t d from place i = go (is 60 (slice_get text place))
  where
    second : Option ℕ
    second = slice_get text (next text place)

    third : Option ℕ
    third = slice_get text (next text (next text place))

    go : (c : Bool) → answer t ≡ redirect_by d text from place (if c then less second third else greater second) → IsSpelled m text t
    go true e = redirect_spelled m text t d from place second (less second third) (less_fits m second third) i e
    go false e = redirect_spelled m text t d from place second (greater second) (greater_fits m second) i e

bare_spelled : (m : LexMode) (text : List ℕ) (t : Token) (from end : ℕ) → answer t ≡ bare text from end → IsSpelled m text t
bare_spelled m text t from end = go (nat_lt from end && word_ends (slice_get text end))
  where
    go : (c : Bool) → answer t ≡ (if c then token kinds.Bare from end else token kinds.Start from from) → IsSpelled m text t
    go true e = is_token m text t kinds.Bare from end e refl
    go false e = is_token m text t kinds.Start from from e refl

word_by_spelled : (m : LexMode) (text : List ℕ) (t : Token) (from path : ℕ) (element key : Bool) → is_element m text from path ≡ element → WordBy element key text from path (answer t) → IsSpelled m text t
word_by_spelled m text t from path true key e w =
    let may : (may_assign m ≡ true) × ((is 91 (slice_get text path) && (is_path (bytes_between text from path) && continues_assignment (after_bracket 0 (drop (path + 1) text)))) ≡ true) = both _ _ e in
    let rest : (is_path (bytes_between text from path) && continues_assignment (after_bracket 0 (drop (path + 1) text))) ≡ true = (both _ _ may.1).1 in
    is_token m text t kinds.Element from path w (ap (λ c. c && is_path (bytes_between text from path)) may.0 ∙ (both _ _ rest).0)
word_by_spelled m text t from path false true e w = is_token m text t kinds.Key from (from + 1) w refl
word_by_spelled m text t from path false false e w = bare_spelled m text t from w.0 w.2

word_spelled : (m : LexMode) (text : List ℕ) (t : Token) (from : ℕ) → WordAt m text from (answer t) → IsSpelled m text t
word_spelled m text t from w = word_by_spelled m text t from w.0 (is_element m text from w.0) (is_key m text from) refl w.2

-- ---- names

digit_small : (b : ℕ) → is_digit b ≡ true → nat_lt (b - 48) 10 ≡ true
digit_small b h = grind (arith, nat_tests)

named_name : (text : List ℕ) (from end : ℕ) → is_named text from end ≡ true → end ≤ length text → IsRun (at_byte (in_class class.Name)) text (from + 1) end → (from < end) × (is_own_name (bytes_between text (from + 1) end) ≡ true)
named_name text from end h within run =
    let first : (nat_lt (from + 1) end ≡ true) × ((starts_name (slice_index text (from + 1)) && (is 125 (slice_get text end) && (is 60 (slice_get text (next text end)) || is 62 (slice_get text (next text end))))) ≡ true) = both _ _ h in
    let one : nat_lt (from + 1) end ≡ true = first.0 in
    let low : from + 1 < end = grind (arith, nat_tests) in
    let starts : starts_name (slice_index text (from + 1)) ≡ true = (both _ _ first.1).0 in
    (omega (arith, low), run_name text (from + 1) end (omega (arith, low, within)) starts run)

named_spelled : (m : LexMode) (text : List ℕ) (t : Token) (from end : ℕ) (named : Bool) → is_named text from end ≡ named → IsRun (at_byte (in_class class.Name)) text (from + 1) end
    → NamedBy named m text from end (answer t) → IsSpelled m text t
named_spelled m text t from end true h run e =
    let n : (from < end) × (is_own_name (bytes_between text (from + 1) end) ≡ true) = named_name text from end h run.within run in
    let behind : end < next text end = next_later text end in
    operator_spelled m text t (descriptor.Named end) from (next text end)
    (λ to later. ap is_own_name (behind_first text from end to n.0 (omega (arith, later, behind))) ∙ n.1) e
named_spelled m text t from end false h run w = word_spelled m text t from w

name_spelled : (m : LexMode) (text : List ℕ) (t : Token) (from end : ℕ) (c : Bool) → is_name (bytes_between text from end) ≡ c
    → answer t ≡ (if c then token kinds.Name from end else fault BadName from) → IsSpelled m text t
name_spelled m text t from end true h e = is_token m text t kinds.Name from end e h
name_spelled m text t from end false h e = absurd cc

name_behind : (text : List ℕ) (from at end : ℕ) → from < at → starts (slice_get text at) ≡ true → IsRun (at_byte (in_class class.Name)) text at end
    → is_own_name (drop (at - from) (bytes_between text from end)) ≡ true
name_behind text from at end later h run =
    let first : (at < length text) × (starts_name (slice_index text at) ≡ true) = there text at (slice_get text at) refl h in
    ap is_own_name (from_place text from at end (omega (arith, later)) run.ordered) ∙ run_name text at end first.0 first.1 run

one_byte : (text : List ℕ) (from at : ℕ) → from < at → at < length text → drop (at - from) (bytes_between text from (at + 1)) ≡ slice_index text at ∷ []
one_byte text from at later lt =
    let one : at + 1 - at ≡ 1 = omega arith in
    from_place text from at (at + 1) (omega (arith, later)) (omega arith) ∙ ap (λ n. take n (drop at text)) one ∙ one_more text at 0 lt

special_behind : (text : List ℕ) (from at : ℕ) → from < at → stands_alone (slice_get text at) ≡ true → is_one_special (drop (at - from) (bytes_between text from (at + 1))) ≡ true
special_behind text from at later h =
    let first : (at < length text) × (is_special (slice_index text at) ≡ true) = alone_there text at (slice_get text at) refl h in
    ap is_one_special (one_byte text from at later first.0) ∙ first.1

group_spelled : (m : LexMode) (text : List ℕ) (t : Token) (from stop : ℕ) → answer t ≡ group text from stop → IsSpelled m text t
group_spelled m text t from stop = go (is 41 (slice_get text stop))
  where
    go : (c : Bool) → answer t ≡ (if c then token kinds.Open from (next text from + 1) else token kinds.Plain from (from + 1)) → IsSpelled m text t
    go true e = is_token m text t kinds.Open from (next text from + 1) e refl
    go false e = is_token m text t kinds.Plain from (from + 1) e refl

-- ---- the table

stands_spelled : (m : LexMode) (text : List ℕ) (t : Token) (from : ℕ) (b : Begins) → (b ≡ begin.Digit → is_digit (slice_index text from) ≡ true)
    → fits m (slice_get text (next text from)) b ≡ true → Stands m text from b (answer t) → IsSpelled m text t
stands_spelled m text t from (begin.Take k width) d h s = is_token m text t k from (reach text from width) s (nameless_spelled m k from _ h)
stands_spelled m text t from (begin.Refuse kind) d h s = absurd cc
stands_spelled m text t from (begin.Unclosed opening) d h s = absurd cc
stands_spelled m text t from begin.Digit d h s =
    operator_spelled m text t (descriptor.Digit (slice_index text from - 48)) from (next text from) (λ to later. digit_small (slice_index text from) (d refl)) s
stands_spelled m text t from begin.Brace d h s = named_spelled m text t from s.0 (is_named text from s.0) refl s.1 s.2
stands_spelled m text t from begin.Start d h s = word_spelled m text t from s
stands_spelled m text t from begin.Single d h s = quoted_spelled m text t kinds.Single from s.0 (slice_get text s.0) refl s.2
stands_spelled m text t from begin.Ansi d h s = quoted_spelled m text t (kinds.Ansi (next text from + 1)) from (ansi_end text (next text from + 1)) (slice_get text (ansi_end text (next text from + 1))) refl s
stands_spelled m text t from begin.Expand d h s =
    is_token m text t (kinds.Expand (next text from)) from s.0 s.2 (either_left _ _ (name_behind text from (next text from) s.0 (next_later text from) h s.1))
stands_spelled m text t from begin.Special d h s =
    is_token m text t (kinds.Expand (next text from)) from (next text from + 1) s (either_right _ _ (special_behind text from (next text from) (next_later text from) h))
stands_spelled m text t from begin.Group d h s = group_spelled m text t from s.0 s.2
stands_spelled m text t from begin.Run d h s = is_token m text t kinds.Plain from s.0 s.2 refl
stands_spelled m text t from begin.Name d h s = name_spelled m text t from s.0 (is_name (bytes_between text from s.0)) refl s.2
stands_spelled m text t from begin.Digits d h s = is_token m text t kinds.Digits from s.0 s.2 refl
stands_spelled m text t from begin.Member d h s =
    is_token m text t (kinds.Member (next text from)) from s.0 s.2 (name_behind text from (next text from) s.0 (next_later text from) h s.1)

pub spells : Spells
spells m text at t tok =
    stands_spelled m text t tok.0 (begins_at m text tok.0) (λ e. digit_there m text tok.0 e)
    (begins_fits m (slice_get text tok.0) (slice_get text (next text tok.0)) (slice_get text (next text (next text tok.0)))) tok.2
