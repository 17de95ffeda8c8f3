-- Where tokens end, and which of them come between words alone. What begins at a place can't be named here, so the tables are walked
-- by their conditions.
use Rattle.std.proofs.Common.{◌≡◌, ℕ, ◌+◌, ◌-◌, ◌<◌, ◌≤◌, Bool, true, false, ◌⊎◌, ◌||◌, ◌&&◌, ◌==◌, List, [], ◌∷◌, length, take, drop, slice_index, Option, Some, None, Ok, refl, ap, sym, ◌∙◌, subst, arith, inl, inr, if◌then◌else◌}
use Rattle.std.specs.Prelude.{nat_lt, slice_get, bytes_eq}
use Rattle.std.proofs.lemmas.Bool.Decides.{nat_tests}
use Rattle.std.proofs.lemmas.List.{drop_more}
use Rattle.std.proofs.lemmas.Option.{slice_get_within, get_or_from_slice_get}
use Rattle.ksh_lexer.specs.declared.kind.Descriptor.{Descriptor}
use Rattle.ksh_lexer.specs.declared.kind.Descriptor.TheVariants as descriptor
use Rattle.ksh_lexer.specs.declared.kind.Form.{Form}
use Rattle.ksh_lexer.specs.declared.kind.Form.TheVariants as goes
use Rattle.ksh_lexer.specs.declared.kind.Operator.{Operator}
use Rattle.ksh_lexer.specs.declared.kind.Operator.TheVariants as op
use Rattle.ksh_lexer.specs.declared.kind.Redirection.{Redirection}
use Rattle.ksh_lexer.specs.declared.kind.Redirection.TheVariants as operator
use Rattle.ksh_lexer.specs.declared.kind.Token.{Token}
use Rattle.ksh_lexer.specs.declared.kind.TokenKind.{TokenKind}
use Rattle.ksh_lexer.specs.declared.kind.TokenKind.TheVariants as kinds
use Rattle.ksh_lexer.specs.declared.fault.SyntaxKind.{SyntaxKind}
use Rattle.ksh_lexer.specs.declared.mode.LexMode.{LexMode}
use Rattle.ksh_lexer.specs.declared.mode.LexMode.TheVariants as mode
use Rattle.ksh_lexer.specs.Begin.{begins}
use Rattle.ksh_lexer.specs.Between as outer
use Rattle.ksh_lexer.specs.Bytes.{ends_word, is, is_digit, is_special, starts_name}
use Rattle.ksh_lexer.specs.Escapes.{ansi_end}
use Rattle.ksh_lexer.specs.Inside as inside
use Rattle.ksh_lexer.specs.Parameters as braces
use Rattle.ksh_lexer.specs.Reach.{next, reach}
use Rattle.ksh_lexer.specs.Tok.{Answer, NamedBy, Stands, Tok, WordAt, WordBy, bare, bytes_between, fault, group, is_element, is_key, is_named, name, quoted_by, redirect, redirect_by, token, word_ends}
use Rattle.ksh_lexer.specs.Names.{is_name}

-- ---- what is told of a token

abbrev pub is_there : Option ℕ → Bool
is_there None = false
is_there (Some b) = true

-- words and operators are looked for
abbrev pub is_outer : LexMode → Bool
is_outer mode.Command = true
is_outer mode.Argument = true
is_outer mode.Pattern = true
is_outer mode.Condition = true
is_outer mode.Value = true
is_outer _ = false

abbrev pub is_condition : LexMode → Bool
is_condition mode.Condition = true
is_condition _ = false

abbrev pub is_parameter : LexMode → Bool
is_parameter mode.Parameter = true
is_parameter _ = false

-- the operators that compare are one byte
abbrev pub compared : Redirection → List ℕ → Bool
compared operator.Input bytes = bytes_eq bytes (60 ∷ [])
compared operator.Output bytes = bytes_eq bytes (62 ∷ [])
compared _ bytes = true

abbrev pub is_shown : LexMode → TokenKind → List ℕ → Bool
is_shown m (kinds.Operator o) bytes = is_outer m
is_shown m (kinds.Redirect r d) bytes = if is_condition m then compared r bytes else true
is_shown m kinds.Name bytes = is_parameter m
is_shown m _ bytes = true

-- it has no bytes, or ends within the text
pub record Found (m : LexMode) (text : List ℕ) (t : Token) : Type 0 where
  pub within : (t.to ≤ length text) ⊎ (t.to ≡ t.from)
  pub shown : is_shown m t.kind (bytes_between text t.from t.to) ≡ true

-- ---- choices

abbrev answer : Token → Answer
answer t = Ok t

pub both : (a b : Bool) → (a && b) ≡ true → (a ≡ true) × (b ≡ true)
both true b h = (refl, h)
both false b h = absurd cc

is_gives : (n : ℕ) (o : Option ℕ) → is n o ≡ true → is_there o ≡ true
is_gives n None h = absurd cc
is_gives n (Some b) h = refl

behind_is : (t : Bool) (n : ℕ) (o : Option ℕ) → (t && is n o) ≡ true → is_there o ≡ true
behind_is t n o h = is_gives n o (both t _ h).1

one_of : (n k : ℕ) (o : Option ℕ) → (is n o || is k o) ≡ true → is_there o ≡ true
one_of n k None h = absurd cc
one_of n k (Some b) h = refl

any_way : (t : Bool) → (if t then true else true) ≡ true
any_way true = refl
any_way false = refl

some_way : (t b : Bool) → b ≡ true → (if t then b else true) ≡ true
some_way true b h = h
some_way false b h = refl

no_way : (t b : Bool) → t ≡ false → (if t then b else true) ≡ true
no_way true b h = absurd cc
no_way false b h = refl

choose : {B G : Type 0} (S : B → Type 0) (u : Bool) (x y : B) → (u ≡ true → S x → G) → (u ≡ false → S y → G) → S (if u then x else y) → G
choose S true x y f g = f refl
choose S false x y f g = g refl

by_option : {A B G : Type 0} (S : B → Type 0) (f : Option A → B) (o : Option A) → (S (f None) → G) → ((x : A) → o ≡ Some x → S (f (Some x)) → G) → S (f o) → G
by_option S f None n s = n
by_option S f (Some x) n s = s x refl

ends_there : (text : List ℕ) (k : ℕ) (o : Option ℕ) → slice_get text k ≡ o → is_there o ≡ true → k + 1 ≤ length text
ends_there text k None e h = absurd cc
ends_there text k (Some b) e h = let lt : k < length text = slice_get_within text k b e in omega (arith, lt)

one_byte : (text : List ℕ) (k b : ℕ) → slice_get text k ≡ Some b → bytes_between text k (k + 1) ≡ b ∷ []
one_byte text k b e =
    let one : k + 1 - k ≡ 1 = omega arith in
    let lt : k < length text = slice_get_within text k b e in
    ap (λ n. take n (drop k text)) one ∙ ap (λ xs. take 1 xs) (drop_more text k 0 lt) ∙ ap (λ c. c ∷ []) (get_or_from_slice_get text k b 0 e)

same_ok : (t u : Token) → (let x : Answer = Ok t in x ≡ Ok u) → u ≡ t
same_ok t u e = cc

-- an operator takes one byte, or two that are there
abbrev wide : Option ℕ → ℕ → Bool
wide b w = w == 1 || (w == 2 && is_there b)

abbrev wide_or_none : Option ℕ → Option (Operator × ℕ) → Bool
wide_or_none b None = true
wide_or_none b (Some o) = wide b o.1

operator_wide : (m : LexMode) (a : ℕ) (b : Option ℕ) → wide b (outer.parenthesis m b).1 ≡ true → wide_or_none b (outer.operator m a b) ≡ true
operator_wide m a None p = go (a == 59) (a == 38) (a == 124) (a == 40) (a == 41)
  where
    go : (t u v w x : Bool) → wide_or_none None (if t then Some (op.Semicolon, 1) else if u then Some (op.Ampersand, 1) else if v then Some (op.Bar, 1) else
        if w then Some (outer.parenthesis m None) else if x then Some (op.CloseParenthesis, 1) else None) ≡ true
    go true u v w x = refl
    go false true v w x = refl
    go false false true w x = refl
    go false false false true x = p
    go false false false false true = refl
    go false false false false false = refl
operator_wide m a (Some b) p = go (a == 59) (a == 38) (a == 124) (a == 40) (a == 41) (b == 59) (b == 38) (b == 124)
  where
    go : (t u v w x y z s : Bool) → wide_or_none (Some b) (
        if t then Some (if y then (op.DoubleSemicolon, 2) else if z then (op.SemicolonAmpersand, 2) else (op.Semicolon, 1)) else
        if u then Some (if z then (op.AndIf, 2) else (op.Ampersand, 1)) else
        if v then Some (if s then (op.OrIf, 2) else if z then (op.BarAmpersand, 2) else (op.Bar, 1)) else
        if w then Some (outer.parenthesis m (Some b)) else if x then Some (op.CloseParenthesis, 1) else None) ≡ true
    go true u v w x true z s = refl
    go true u v w x false true s = refl
    go true u v w x false false s = refl
    go false true v w x y true s = refl
    go false true v w x y false s = refl
    go false false true w x y z true = refl
    go false false true w x y true false = refl
    go false false true w x y false false = refl
    go false false false true x y z s = p
    go false false false false true y z s = refl
    go false false false false false y z s = refl

-- `((` takes two bytes
parentheses : (b : Option ℕ) → wide_or_none b (Some (if is 40 b then (op.DoubleParenthesis, 2) else (op.OpenParenthesis, 1))) ≡ true
parentheses None = refl
parentheses (Some b) = go (b == 40)
  where
    go : (t : Bool) → wide_or_none (Some b) (Some (if t then (op.DoubleParenthesis, 2) else (op.OpenParenthesis, 1))) ≡ true
    go true = refl
    go false = refl

abbrev form_or_none : Option ℕ → Option (Form × ℕ) → Bool
form_or_none b None = true
form_or_none b (Some f) = wide b f.1

colon_wide : (b : Option ℕ) → wide b (braces.colon b).1 ≡ true
colon_wide None = refl
colon_wide (Some b) = go (b == 45) (b == 61) (b == 63) (b == 43)
  where
    go : (t u v w : Bool) → form_or_none (Some b) (Some (if t then (goes.Instead true, 2) else if u then (goes.Assign true, 2) else if v then (goes.Fault true, 2) else if w then (goes.Other true, 2) else (goes.Slice, 1))) ≡ true
    go true u v w = refl
    go false true v w = refl
    go false false true w = refl
    go false false false true = refl
    go false false false false = refl

replacement_wide : (b : Option ℕ) → wide b (braces.replacement b).1 ≡ true
replacement_wide None = refl
replacement_wide (Some b) = go (b == 47) (b == 35) (b == 37)
  where
    go : (t u v : Bool) → form_or_none (Some b) (Some (if t then (goes.ReplaceAll, 2) else if u then (goes.ReplaceFront, 2) else if v then (goes.ReplaceTail, 2) else (goes.ReplaceFirst, 1))) ≡ true
    go true u v = refl
    go false true v = refl
    go false false true = refl
    go false false false = refl

cut_wide : (b : Option ℕ) (n : ℕ) (tail : Bool) → form_or_none b (Some (if is n b then (goes.Cut tail true, 2) else (goes.Cut tail false, 1))) ≡ true
cut_wide None n tail = refl
cut_wide (Some b) n tail = go (b == n)
  where
    go : (t : Bool) → form_or_none (Some b) (Some (if t then (goes.Cut tail true, 2) else (goes.Cut tail false, 1))) ≡ true
    go true = refl
    go false = refl

form_wide : (a : ℕ) (b : Option ℕ) → form_or_none b (braces.form_of a b) ≡ true
form_wide a b = go (a == 58) (a == 47) (a == 45) (a == 61) (a == 63) (a == 43) (a == 35) (a == 37)
  where
    go : (t u v w x y z s : Bool) → form_or_none b (if t then Some (braces.colon b) else if u then Some (braces.replacement b) else if v then Some (goes.Instead false, 1) else if w then Some (goes.Assign false, 1) else
        if x then Some (goes.Fault false, 1) else if y then Some (goes.Other false, 1) else if z then Some (if is 35 b then (goes.Cut false true, 2) else (goes.Cut false false, 1)) else
        if s then Some (if is 37 b then (goes.Cut true true, 2) else (goes.Cut true false, 1)) else None) ≡ true
    go true u v w x y z s = colon_wide b
    go false true v w x y z s = replacement_wide b
    go false false true w x y z s = refl
    go false false false true x y z s = refl
    go false false false false true y z s = refl
    go false false false false false true z s = refl
    go false false false false false false true s = cut_wide b 35 false
    go false false false false false false false true = cut_wide b 37 true
    go false false false false false false false false = refl

module _ (text : List ℕ) (t : Token) (from : ℕ) where
  abbrev Goal : LexMode → Type 0
  Goal m = Found m text t

  no : {G : Type 0} (k : SyntaxKind) (n : ℕ) → answer t ≡ fault k n → G
  no k n e = absurd cc

  made : (m : LexMode) (k : TokenKind) (to : ℕ) → (to ≤ length text) ⊎ (to ≡ from) → is_shown m k (bytes_between text from to) ≡ true → answer t ≡ token k from to → Goal m
  made m k to w h e = subst (λ u. Found m text u) (same_ok t (record { kind = k; from = from; to = to }) e) (record { within = w; shown = h })

  zero : (m : LexMode) (k : TokenKind) → is_shown m k (bytes_between text from from) ≡ true → answer t ≡ token k from from → Goal m
  zero m k h e = made m k from (inr refl) h e

  one : (m : LexMode) (k : TokenKind) (a : ℕ) → slice_get text from ≡ Some a → is_shown m k (bytes_between text from (from + 1)) ≡ true → answer t ≡ token k from (from + 1) → Goal m
  one m k a ea h e = made m k (from + 1) (inl (ends_there text from (Some a) ea refl)) h e

  two : (m : LexMode) (k : TokenKind) (b : Option ℕ) → slice_get text (next text from) ≡ b → is_there b ≡ true → is_shown m k (bytes_between text from (next text from + 1)) ≡ true
      → answer t ≡ token k from (next text from + 1) → Goal m
  two m k b eb hb h e = made m k (next text from + 1) (inl (ends_there text (next text from) b eb hb)) h e

  three : (m : LexMode) (k : TokenKind) (c : Option ℕ) → slice_get text (next text (next text from)) ≡ c → is_there c ≡ true → is_shown m k (bytes_between text from (next text (next text from) + 1)) ≡ true
      → answer t ≡ token k from (next text (next text from) + 1) → Goal m
  three m k c ec hc h e = made m k (next text (next text from) + 1) (inl (ends_there text (next text (next text from)) c ec hc)) h e

  -- ---- words, quotings and redirections

  bare_found : (m : LexMode) (end : ℕ) → end ≤ length text → answer t ≡ bare text from end → Goal m
  bare_found m end w = choose (λ x. answer t ≡ x) (nat_lt from end && word_ends (slice_get text end)) (token kinds.Bare from end) (token kinds.Start from from)
      (λ _ e. made m kinds.Bare end (inl w) refl e) (λ _ e. zero m kinds.Start refl e)

  word_by_found : (m : LexMode) (path : ℕ) (element key : Bool) → path ≤ length text → is_key m text from ≡ key → WordBy element key text from path (answer t) → Goal m
  word_by_found m path true key w k e = made m kinds.Element path (inl w) refl e
  word_by_found m path false true w k e =
      let open_bracket : is 91 (slice_get text from) ≡ true = (both _ _ (both _ _ k).1).0 in
      made m kinds.Key (from + 1) (inl (ends_there text from (slice_get text from) refl (is_gives 91 _ open_bracket))) refl e
  word_by_found m path false false w k e = bare_found m e.0 e.1.within e.2

  word_found : (m : LexMode) → WordAt m text from (answer t) → Goal m
  word_found m w = word_by_found m w.0 (is_element m text from w.0) (is_key m text from) w.1.within refl w.2

  quoted_found : (m : LexMode) (k : TokenKind) (end : ℕ) (o : Option ℕ) → slice_get text end ≡ o → ((bytes : List ℕ) → is_shown m k bytes ≡ true) → answer t ≡ quoted_by k from end o → Goal m
  quoted_found m k end None eo h e = absurd cc
  quoted_found m k end (Some b) eo h e =
      choose (λ x. answer t ≡ x) (b == 39) (token k from (end + 1)) _ (λ _ f. made m k (end + 1) (inl (ends_there text end (Some b) eo refl)) (h _) f) (λ _ f. no _ _ f) e

  group_found : (m : LexMode) (a : ℕ) (b : Option ℕ) (stop : ℕ) → slice_get text from ≡ Some a → slice_get text (next text from) ≡ b → is_there b ≡ true → answer t ≡ group text from stop → Goal m
  group_found m a b stop ea eb hb =
      choose (λ x. answer t ≡ x) (is 41 (slice_get text stop)) (token kinds.Open from (next text from + 1)) (token kinds.Plain from (from + 1))
      (λ _ e. two m kinds.Open b eb hb refl e) (λ _ e. one m kinds.Plain a ea refl e)

  name_found : (m : LexMode) (end : ℕ) → is_parameter m ≡ true → end ≤ length text → answer t ≡ name text from end → Goal m
  name_found m end p w = choose (λ x. answer t ≡ x) (is_name (bytes_between text from end)) (token kinds.Name from end) _ (λ _ e. made m kinds.Name end (inl w) p e) (λ _ e. no _ _ e)

  -- the operator of a redirection behind a descriptor, in no condition
  operator_made : (m : LexMode) (d : Descriptor) (r : Redirection) (to : ℕ) → is_condition m ≡ false → to ≤ length text → answer t ≡ token (kinds.Redirect r d) from to → Goal m
  operator_made m d r to c w e = made m (kinds.Redirect r d) to (inl w) (no_way (is_condition m) _ c) e

  pick : {B G : Type 0} (S : B → Answer) (u : Bool) (x y : B) → (u ≡ true → answer t ≡ S x → G) → (u ≡ false → answer t ≡ S y → G) → answer t ≡ S (if u then x else y) → G
  pick S true x y f g = f refl
  pick S false x y f g = g refl

  less_behind : (m : LexMode) (d : Descriptor) (place a : ℕ) (b c : Option ℕ) → is_condition m ≡ false → slice_get text place ≡ Some a → slice_get text (next text place) ≡ b → slice_get text (next text (next text place)) ≡ c
      → answer t ≡ redirect_by d text from place (outer.less b c) → Goal m
  less_behind m d place a b c n ea eb ec =
      pick (redirect_by d text from place) (is 40 b || is 35 b) _ _ (λ _ e. no _ _ e)
      (λ _. pick (redirect_by d text from place) (is 60 b) _ _ (λ hb. pick (redirect_by d text from place) (is 45 c) _ _
      (λ hc e. operator_made m d operator.HereTabs (next text (next text place) + 1) n (ends_there text _ c ec (is_gives 45 c hc)) e)
      (λ _. pick (redirect_by d text from place) (is 60 c) _ _ (λ hc e. operator_made m d operator.HereString (next text (next text place) + 1) n (ends_there text _ c ec (is_gives 60 c hc)) e)
      (λ _ e. operator_made m d operator.HereDocument (next text place + 1) n (ends_there text _ b eb (is_gives 60 b hb)) e)))
      (λ _. pick (redirect_by d text from place) (is 62 b) _ _ (λ hb e. operator_made m d operator.ReadWrite (next text place + 1) n (ends_there text _ b eb (is_gives 62 b hb)) e)
      (λ _. pick (redirect_by d text from place) (is 38 b) _ _ (λ hb e. operator_made m d operator.CopyInput (next text place + 1) n (ends_there text _ b eb (is_gives 38 b hb)) e)
      (λ _ e. operator_made m d operator.Input (place + 1) n (ends_there text _ (Some a) ea refl) e))))

  greater_behind : (m : LexMode) (d : Descriptor) (place a : ℕ) (b : Option ℕ) → is_condition m ≡ false → slice_get text place ≡ Some a → slice_get text (next text place) ≡ b
      → answer t ≡ redirect_by d text from place (outer.greater b) → Goal m
  greater_behind m d place a b n ea eb =
      pick (redirect_by d text from place) (is 40 b || (is 35 b || is 59 b)) _ _ (λ _ e. no _ _ e)
      (λ _. pick (redirect_by d text from place) (is 124 b) _ _ (λ hb e. operator_made m d operator.Clobber (next text place + 1) n (ends_there text _ b eb (is_gives 124 b hb)) e)
      (λ _. pick (redirect_by d text from place) (is 62 b) _ _ (λ hb e. operator_made m d operator.Append (next text place + 1) n (ends_there text _ b eb (is_gives 62 b hb)) e)
      (λ _. pick (redirect_by d text from place) (is 38 b) _ _ (λ hb e. operator_made m d operator.CopyOutput (next text place + 1) n (ends_there text _ b eb (is_gives 38 b hb)) e)
      (λ _ e. operator_made m d operator.Output (place + 1) n (ends_there text _ (Some a) ea refl) e))))

  redirect_found : (m : LexMode) (d : Descriptor) (place : ℕ) (a : Option ℕ) → is_condition m ≡ false → slice_get text place ≡ a → is_there a ≡ true → answer t ≡ redirect d text from place → Goal m
  redirect_found m d place None n ea h = absurd cc
  redirect_found m d place (Some a) n ea h =
      pick (redirect_by d text from place) (is 60 (slice_get text place)) _ _ (λ _. less_behind m d place a _ _ n ea refl refl) (λ _. greater_behind m d place a _ n ea refl)

  named_found : (m : LexMode) (end : ℕ) (named : Bool) → is_condition m ≡ false → is_named text from end ≡ named → NamedBy named m text from end (answer t) → Goal m
  named_found m end true n h e =
      let first : (nat_lt (from + 1) end ≡ true) × ((starts_name (slice_index text (from + 1)) && (is 125 (slice_get text end) && (is 60 (slice_get text (next text end)) || is 62 (slice_get text (next text end))))) ≡ true) = both _ _ h in
      let rest : (is 125 (slice_get text end) && (is 60 (slice_get text (next text end)) || is 62 (slice_get text (next text end)))) ≡ true = (both _ _ first.1).1 in
      let behind : (is 60 (slice_get text (next text end)) || is 62 (slice_get text (next text end))) ≡ true = (both _ _ rest).1 in
      redirect_found m (descriptor.Named end) (next text end) (slice_get text (next text end)) n refl (one_of 60 62 _ behind) e
  named_found m end false n h w = word_found m w

  -- ---- the tables

  stand : {B G : Type 0} (S : B → Answer → Type 0) (u : Bool) (x y : B) → (u ≡ true → S x (answer t) → G) → (u ≡ false → S y (answer t) → G) → S (if u then x else y) (answer t) → G
  stand S true x y f g = f refl
  stand S false x y f g = g refl

  less_found : (m : LexMode) (a : ℕ) (b c : Option ℕ) → slice_get text from ≡ Some a → slice_get text (next text from) ≡ b → slice_get text (next text (next text from)) ≡ c → (a == 60) ≡ true
      → Stands m text from (outer.less b c) (answer t) → Goal m
  less_found m a b c ea eb ec ha =
      stand (Stands m text from) (is 40 b || is 35 b) _ _ (λ _ e. no _ _ e)
      (λ _. stand (Stands m text from) (is 60 b) _ _ (λ hb. stand (Stands m text from) (is 45 c) _ _
      (λ hc e. three m (kinds.Redirect operator.HereTabs descriptor.Default) c ec (is_gives 45 c hc) (any_way (is_condition m)) e)
      (λ _. stand (Stands m text from) (is 60 c) _ _ (λ hc e. three m (kinds.Redirect operator.HereString descriptor.Default) c ec (is_gives 60 c hc) (any_way (is_condition m)) e)
      (λ _ e. two m (kinds.Redirect operator.HereDocument descriptor.Default) b eb (is_gives 60 b hb) (any_way (is_condition m)) e)))
      (λ _. stand (Stands m text from) (is 62 b) _ _ (λ hb e. two m (kinds.Redirect operator.ReadWrite descriptor.Default) b eb (is_gives 62 b hb) (any_way (is_condition m)) e)
      (λ _. stand (Stands m text from) (is 38 b) _ _ (λ hb e. two m (kinds.Redirect operator.CopyInput descriptor.Default) b eb (is_gives 38 b hb) (any_way (is_condition m)) e)
      (λ _ e. one m (kinds.Redirect operator.Input descriptor.Default) a ea (some_way (is_condition m) _ alone) e))))
    where
      alone : bytes_eq (bytes_between text from (from + 1)) (60 ∷ []) ≡ true
      alone = let same : a ≡ 60 = grind (arith, nat_tests) in ap (λ bytes. bytes_eq bytes (60 ∷ [])) (one_byte text from a ea ∙ ap (λ x. x ∷ []) same)

  greater_found : (m : LexMode) (a : ℕ) (b : Option ℕ) → slice_get text from ≡ Some a → slice_get text (next text from) ≡ b → (a == 62) ≡ true → Stands m text from (outer.greater b) (answer t) → Goal m
  greater_found m a b ea eb ha =
      stand (Stands m text from) (is 40 b || (is 35 b || is 59 b)) _ _ (λ _ e. no _ _ e)
      (λ _. stand (Stands m text from) (is 124 b) _ _ (λ hb e. two m (kinds.Redirect operator.Clobber descriptor.Default) b eb (is_gives 124 b hb) (any_way (is_condition m)) e)
      (λ _. stand (Stands m text from) (is 62 b) _ _ (λ hb e. two m (kinds.Redirect operator.Append descriptor.Default) b eb (is_gives 62 b hb) (any_way (is_condition m)) e)
      (λ _. stand (Stands m text from) (is 38 b) _ _ (λ hb e. two m (kinds.Redirect operator.CopyOutput descriptor.Default) b eb (is_gives 38 b hb) (any_way (is_condition m)) e)
      (λ _ e. one m (kinds.Redirect operator.Output descriptor.Default) a ea (some_way (is_condition m) _ alone) e))))
    where
      alone : bytes_eq (bytes_between text from (from + 1)) (62 ∷ []) ≡ true
      alone = let same : a ≡ 62 = grind (arith, nat_tests) in ap (λ bytes. bytes_eq bytes (62 ∷ [])) (one_byte text from a ea ∙ ap (λ x. x ∷ []) same)

  -- as many bytes as an operator takes
  took : (m : LexMode) (k : TokenKind) (a w : ℕ) (b : Option ℕ) → slice_get text from ≡ Some a → slice_get text (next text from) ≡ b → wide b w ≡ true → ((bytes : List ℕ) → is_shown m k bytes ≡ true)
      → answer t ≡ token k from (reach text from w) → Goal m
  took m k a w b ea eb hw h e = go (w == 1) (w == 2) refl refl hw
    where
      go : (u v : Bool) → (w == 1) ≡ u → (w == 2) ≡ v → (u || (v && is_there b)) ≡ true → Goal m
      go true v eu ev g = let same : w ≡ 1 = grind (arith, nat_tests) in one m k a ea (h _) (e ∙ ap (λ n. token k from (reach text from n)) same)
      go false true eu ev g = let same : w ≡ 2 = grind (arith, nat_tests) in two m k b eb g (h _) (e ∙ ap (λ n. token k from (reach text from n)) same)
      go false false eu ev g = absurd cc

  operator_found : (m : LexMode) (a : ℕ) (b : Option ℕ) (o : Operator × ℕ) → is_outer m ≡ true → slice_get text from ≡ Some a → slice_get text (next text from) ≡ b
      → wide_or_none b (outer.operator m a b) ≡ true → outer.operator m a b ≡ Some o → answer t ≡ token (kinds.Operator o.0) from (reach text from o.1) → Goal m
  operator_found m a b o h ea eb w eo e = took m (kinds.Operator o.0) a o.1 b ea eb (sym (ap (wide_or_none b) eo) ∙ w) (λ bytes. h) e

  digit_found : (m : LexMode) (b : Option ℕ) → is_condition m ≡ false → slice_get text (next text from) ≡ b → is_there b ≡ true → answer t ≡ redirect (descriptor.Digit (slice_index text from - 48)) text from (next text from) → Goal m
  digit_found m b n eb hb e = redirect_found m (descriptor.Digit (slice_index text from - 48)) (next text from) b n eb hb e

  between_found : (m : LexMode) (a b c : Option ℕ) → is_outer m ≡ true → slice_get text from ≡ a → slice_get text (next text from) ≡ b → slice_get text (next text (next text from)) ≡ c
      → wide b (outer.parenthesis m b).1 ≡ true → ((x : ℕ) → Stands m text from (outer.word m x b) (answer t) → Goal m) → Stands m text from (outer.between m a b c) (answer t) → Goal m
  between_found m None b c h ea eb ec p words e = zero m kinds.End refl e
  between_found m (Some a) b c h ea eb ec p words e =
      stand (Stands m text from) (a == 0) _ _ (λ _ e. no _ _ e)
      (λ _. stand (Stands m text from) (a == 10) _ _ (λ _ e. one m kinds.Newline a ea refl e)
      (λ _. stand (Stands m text from) (a == 96) _ _ (λ _ e. one m kinds.Backquote a ea refl e)
      (λ _. stand (Stands m text from) (a == 60) _ _ (λ ha. less_found m a b c ea eb ec ha)
      (λ _. stand (Stands m text from) (a == 62) _ _ (λ ha. greater_found m a b ea eb ha)
      (λ _. by_option (λ x. Stands m text from x (answer t)) (outer.operator_or _) (outer.operator m a b) (words a)
      (λ o eo e. operator_found m a b o h ea eb (operator_wide m a b p) eo e)))))) e

  -- a digit, or perhaps `{name}`, before a redirection
  digit_or_word : (m : LexMode) (b : Option ℕ) (x : ℕ) → is_condition m ≡ false → slice_get text (next text from) ≡ b → Stands m text from (outer.word mode.Command x b) (answer t) → Goal m
  digit_or_word m b x n eb =
      stand (Stands m text from) (is_digit x && (is 60 b || is 62 b)) _ _ (λ h e. digit_found m b n eb (one_of 60 62 b (both _ _ h).1) e)
      (λ _. stand (Stands m text from) (x == 123) _ _ (λ _ e. named_found m e.0 (is_named text from e.0) n refl e.2) (λ _ e. word_found m e))

  -- ---- inside words

  raw_found : (m : LexMode) (a : Option ℕ) → slice_get text from ≡ a → Stands m text from (inside.raw a) (answer t) → Goal m
  raw_found m None ea e = zero m kinds.End refl e
  raw_found m (Some a) ea e =
      stand (Stands m text from) (a == 0) _ _ (λ _ e. no _ _ e)
      (λ _. stand (Stands m text from) (a == 10) _ _ (λ _ e. one m kinds.Plain a ea refl e) (λ _ e. made m kinds.Plain e.0 (inl e.1.within) refl e.2)) e

  at_end_found : (m : LexMode) → Stands m text from (inside.at_end m) (answer t) → Goal m
  at_end_found mode.Command e = zero _ kinds.End refl e
  at_end_found mode.Argument e = zero _ kinds.End refl e
  at_end_found mode.Pattern e = zero _ kinds.End refl e
  at_end_found mode.Condition e = zero _ kinds.End refl e
  at_end_found mode.Value e = zero _ kinds.End refl e
  at_end_found mode.Word e = zero _ kinds.WordEnd refl e
  at_end_found (mode.Quoted opening) e = no _ _ e
  at_end_found mode.Group e = zero _ kinds.End refl e
  at_end_found (mode.Braced end) e = zero _ kinds.End refl e
  at_end_found mode.Subscript e = zero _ kinds.End refl e
  at_end_found mode.Arithmetic e = zero _ kinds.End refl e
  at_end_found mode.LoopArithmetic e = zero _ kinds.End refl e
  at_end_found mode.Parentheses e = zero _ kinds.End refl e
  at_end_found (mode.HereBody tabs expands) e = zero _ kinds.End refl e
  at_end_found mode.Parameter e = zero _ kinds.End refl e
  at_end_found mode.Form e = zero _ kinds.End refl e
  at_end_found mode.Target e = zero _ kinds.End refl e

  -- a run of plain bytes
  ran : (m : LexMode) → (end : ℕ) × (end ≤ length text) × (answer t ≡ token kinds.Plain from end) → Goal m
  ran m e = made m kinds.Plain e.0 (inl e.1) refl e.2

  backslash_found : (m : LexMode) (a : ℕ) (b : Option ℕ) → slice_get text from ≡ Some a → slice_get text (next text from) ≡ b → Stands m text from (inside.backslash m b) (answer t) → Goal m
  backslash_found m a None ea eb e = one m kinds.Plain a ea refl e
  backslash_found m a (Some b) ea eb e =
      stand (Stands m text from) (b == 0) _ _ (λ _ e. one m kinds.Plain a ea refl e)
      (λ _. stand (Stands m text from) (b == 10) _ _ (λ _ e. two m kinds.Joined (Some b) eb refl refl e)
      (λ _. stand (Stands m text from) (inside.escapes m b) _ _ (λ _ e. two m kinds.Escaped (Some b) eb refl refl e) (λ _ e. ran m (e.0, e.1.within, e.2)))) e

  dollar_found : (m : LexMode) (a : ℕ) (b c : Option ℕ) → slice_get text from ≡ Some a → slice_get text (next text from) ≡ b → slice_get text (next text (next text from)) ≡ c
      → Stands m text from (inside.dollar m b c) (answer t) → Goal m
  dollar_found m a None c ea eb ec e = one m kinds.Dollar a ea refl e
  dollar_found m a (Some b) c ea eb ec e =
      stand (Stands m text from) (b == 40) _ _
      (λ _. stand (Stands m text from) (is 40 c) _ _ (λ h e. three m kinds.OpenArithmetic c ec (is_gives 40 c h) refl e) (λ _ e. two m kinds.OpenSubstitution (Some b) eb refl refl e))
      (λ _. stand (Stands m text from) (b == 123) _ _ (λ _ e. two m kinds.OpenParameter (Some b) eb refl refl e)
      (λ _. stand (Stands m text from) (b == 39 && inside.quotes_singly m) _ _ (λ _ e. quoted_found m (kinds.Ansi (next text from + 1)) (ansi_end text (next text from + 1)) _ refl (λ bytes. refl) e)
      (λ _. stand (Stands m text from) (b == 34 && inside.quotes_singly m) _ _ (λ _ e. two m kinds.OpenQuote (Some b) eb refl refl e)
      (λ _. stand (Stands m text from) (starts_name b) _ _ (λ _ e. made m (kinds.Expand (next text from)) e.0 (inl e.1.within) refl e.2)
      (λ _. stand (Stands m text from) (is_special b) _ _ (λ _ e. two m (kinds.Expand (next text from)) (Some b) eb refl refl e) (λ _ e. one m kinds.Dollar a ea refl e)))))) e

  double_quote_found : (m : LexMode) (a : ℕ) → slice_get text from ≡ Some a → Stands m text from (inside.double_quote m) (answer t) → Goal m
  double_quote_found mode.Command a ea e = one _ kinds.OpenQuote a ea refl e
  double_quote_found mode.Argument a ea e = one _ kinds.OpenQuote a ea refl e
  double_quote_found mode.Pattern a ea e = one _ kinds.OpenQuote a ea refl e
  double_quote_found mode.Condition a ea e = one _ kinds.OpenQuote a ea refl e
  double_quote_found mode.Value a ea e = one _ kinds.OpenQuote a ea refl e
  double_quote_found mode.Word a ea e = one _ kinds.OpenQuote a ea refl e
  double_quote_found (mode.Quoted opening) a ea e = one _ kinds.CloseQuote a ea refl e
  double_quote_found mode.Group a ea e = one _ kinds.OpenQuote a ea refl e
  double_quote_found (mode.Braced end) a ea e = one _ kinds.OpenQuote a ea refl e
  double_quote_found mode.Subscript a ea e = one _ kinds.OpenQuote a ea refl e
  double_quote_found mode.Arithmetic a ea e = one _ kinds.OpenQuote a ea refl e
  double_quote_found mode.LoopArithmetic a ea e = one _ kinds.OpenQuote a ea refl e
  double_quote_found mode.Parentheses a ea e = one _ kinds.OpenQuote a ea refl e
  double_quote_found (mode.HereBody tabs expands) a ea e = ran _ (e.0, e.1.within, e.2)
  double_quote_found mode.Parameter a ea e = one _ kinds.OpenQuote a ea refl e
  double_quote_found mode.Form a ea e = one _ kinds.OpenQuote a ea refl e
  double_quote_found mode.Target a ea e = one _ kinds.OpenQuote a ea refl e

  tilde_found : (m : LexMode) (a : ℕ) (b : Option ℕ) → Stands m text from (inside.refuses_tilde a b) (answer t) → Goal m
  tilde_found m a b = stand (Stands m text from) (a == 126 && is 40 b) _ _ (λ _ e. no _ _ e) (λ _ e. ran m (e.0, e.1.within, e.2))

  arithmetic_found : (m : LexMode) (a : ℕ) (b : Option ℕ) → slice_get text from ≡ Some a → slice_get text (next text from) ≡ b → Stands m text from (inside.arithmetic a b) (answer t) → Goal m
  arithmetic_found m a b ea eb =
      stand (Stands m text from) (a == 40) _ _ (λ _ e. one m kinds.Open a ea refl e)
      (λ _. stand (Stands m text from) (a == 41 && is 41 b) _ _ (λ h e. two m kinds.Close b eb (behind_is (a == 41) 41 b h) refl e) (λ _ e. ran m (e.0, e.1.within, e.2)))

  own_found : (m : LexMode) (a : ℕ) (b : Option ℕ) → slice_get text from ≡ Some a → slice_get text (next text from) ≡ b → Stands m text from (inside.own m a b) (answer t) → Goal m
  own_found mode.Word a b ea eb e =
      stand (Stands mode.Word text from) (ends_word a) _ _ (λ _ e. zero _ kinds.WordEnd refl e)
      (λ _. stand (Stands mode.Word text from) (inside.opens_group a && is 40 b) _ _ (λ h e. group_found _ a b e.0 ea eb (behind_is (inside.opens_group a) 40 b h) e.2) (λ _. tilde_found mode.Word a b)) e
  own_found mode.Group a b ea eb e =
      stand (Stands mode.Group text from) (a == 40) _ _ (λ _ e. one _ kinds.Open a ea refl e)
      (λ _. stand (Stands mode.Group text from) (a == 41) _ _ (λ _ e. one _ kinds.Close a ea refl e) (λ _. tilde_found mode.Group a b)) e
  own_found (mode.Braced end) a b ea eb e =
      stand (Stands (mode.Braced end) text from) (a == 125) _ _ (λ _ e. one _ kinds.Close a ea refl e)
      (λ _. stand (Stands (mode.Braced end) text from) (inside.parts_braced end a) _ _ (λ _ e. one _ kinds.Separator a ea refl e) (λ _. tilde_found (mode.Braced end) a b)) e
  own_found mode.Subscript a b ea eb e =
      stand (Stands mode.Subscript text from) (a == 91) _ _ (λ _ e. one _ kinds.Open a ea refl e)
      (λ _. stand (Stands mode.Subscript text from) (a == 93) _ _ (λ _ e. one _ kinds.Close a ea refl e) (λ _ e. ran _ (e.0, e.1.within, e.2))) e
  own_found mode.Arithmetic a b ea eb e = arithmetic_found mode.Arithmetic a b ea eb e
  own_found mode.LoopArithmetic a b ea eb e =
      stand (Stands mode.LoopArithmetic text from) (a == 59) _ _ (λ _ e. one _ kinds.Separator a ea refl e) (λ _. arithmetic_found mode.LoopArithmetic a b ea eb) e
  own_found mode.Parentheses a b ea eb e =
      stand (Stands mode.Parentheses text from) (a == 40) _ _ (λ _ e. one _ kinds.Open a ea refl e)
      (λ _. stand (Stands mode.Parentheses text from) (a == 41) _ _ (λ _ e. one _ kinds.Close a ea refl e) (λ _ e. ran _ (e.0, e.1.within, e.2))) e
  own_found (mode.HereBody tabs expands) a b ea eb e =
      stand (Stands (mode.HereBody tabs expands) text from) (a == 10) _ _ (λ _ e. one _ kinds.Plain a ea refl e) (λ _ e. ran _ (e.0, e.1.within, e.2)) e
  own_found mode.Command a b ea eb e = ran _ (e.0, e.1.within, e.2)
  own_found mode.Argument a b ea eb e = ran _ (e.0, e.1.within, e.2)
  own_found mode.Pattern a b ea eb e = ran _ (e.0, e.1.within, e.2)
  own_found mode.Condition a b ea eb e = ran _ (e.0, e.1.within, e.2)
  own_found mode.Value a b ea eb e = ran _ (e.0, e.1.within, e.2)
  own_found (mode.Quoted opening) a b ea eb e = ran _ (e.0, e.1.within, e.2)
  own_found mode.Parameter a b ea eb e = ran _ (e.0, e.1.within, e.2)
  own_found mode.Form a b ea eb e = ran _ (e.0, e.1.within, e.2)
  own_found mode.Target a b ea eb e = ran _ (e.0, e.1.within, e.2)

  cooked_found : (m : LexMode) (a b c : Option ℕ) → slice_get text from ≡ a → slice_get text (next text from) ≡ b → slice_get text (next text (next text from)) ≡ c
      → Stands m text from (inside.cooked m a b c) (answer t) → Goal m
  cooked_found m None b c ea eb ec e = at_end_found m e
  cooked_found m (Some a) b c ea eb ec e =
      stand (Stands m text from) (a == 0) _ _ (λ _ e. no _ _ e)
      (λ _. stand (Stands m text from) (a == 92) _ _ (λ _. backslash_found m a b ea eb)
      (λ _. stand (Stands m text from) (a == 36) _ _ (λ _. dollar_found m a b c ea eb ec)
      (λ _. stand (Stands m text from) (a == 96) _ _ (λ _ e. one m kinds.Backquote a ea refl e)
      (λ _. stand (Stands m text from) (a == 39) _ _
      (λ _. stand (Stands m text from) (inside.quotes_singly m) _ _ (λ _ e. quoted_found m kinds.Single e.0 _ refl (λ bytes. refl) e.2) (λ _ e. ran m (e.0, e.1.within, e.2)))
      (λ _. stand (Stands m text from) (a == 34) _ _ (λ _. double_quote_found m a ea) (λ _. own_found m a b ea eb)))))) e

  piece_found : (m : LexMode) (a b c : Option ℕ) → slice_get text from ≡ a → slice_get text (next text from) ≡ b → slice_get text (next text (next text from)) ≡ c
      → Stands m text from (inside.piece m a b c) (answer t) → Goal m
  piece_found m a b c ea eb ec = stand (Stands m text from) (inside.is_raw m) _ _ (λ _. raw_found m a ea) (λ _. cooked_found m a b c ea eb ec)

  -- ---- in parameters, and behind paths

  parameter_found : (m : LexMode) (a b c : Option ℕ) → is_parameter m ≡ true → slice_get text from ≡ a → Stands m text from (braces.parameter a b c) (answer t) → Goal m
  parameter_found m None b c p ea e = zero m kinds.End refl e
  parameter_found m (Some a) b c p ea e =
      stand (Stands m text from) (a == 0) _ _ (λ _ e. no _ _ e)
      (λ _. stand (Stands m text from) (a == 33) _ _ (λ _. stand (Stands m text from) (braces.begins_path b) _ _ (λ _ e. one m kinds.Target a ea refl e) (λ _ e. one m kinds.Special a ea refl e))
      (λ _. stand (Stands m text from) (a == 35) _ _
      (λ _. stand (Stands m text from) (braces.is_measured b || (braces.is_other_special b && is 125 c)) _ _ (λ _ e. one m kinds.Length a ea refl e) (λ _ e. one m kinds.Special a ea refl e))
      (λ _. stand (Stands m text from) (is_digit a) _ _ (λ _ e. made m kinds.Digits e.0 (inl e.1.within) refl e.2)
      (λ _. stand (Stands m text from) (a == 64 || (a == 42 || (a == 63 || (a == 36 || a == 45)))) _ _ (λ _ e. one m kinds.Special a ea refl e)
      (λ _. stand (Stands m text from) (a == 46 || starts_name a) _ _ (λ _ e. name_found m e.0 p e.1.within e.2) (λ _ e. no _ _ e)))))) e

  member_made : (m : LexMode) → (end : ℕ) × (end ≤ length text) × (answer t ≡ token (kinds.Member (next text from)) from end) → Goal m
  member_made m e = made m (kinds.Member (next text from)) e.0 (inl e.1) refl e.2

  form_found : (m : LexMode) (a b c : Option ℕ) → slice_get text from ≡ a → slice_get text (next text from) ≡ b → slice_get text (next text (next text from)) ≡ c
      → Stands m text from (braces.form a b c) (answer t) → Goal m
  form_found m None b c ea eb ec e = zero m kinds.End refl e
  form_found m (Some a) b c ea eb ec e =
      stand (Stands m text from) (a == 0) _ _ (λ _ e. no _ _ e)
      (λ _. stand (Stands m text from) (a == 125) _ _ (λ _ e. one m kinds.Close a ea refl e)
      (λ _. stand (Stands m text from) (a == 91) _ _
      (λ _. stand (Stands m text from) (is 64 b && is 93 c) _ _ (λ h e. three m (kinds.Items false) c ec (behind_is (is 64 b) 93 c h) refl e)
      (λ _. stand (Stands m text from) (is 42 b && is 93 c) _ _ (λ h e. three m (kinds.Items true) c ec (behind_is (is 42 b) 93 c h) refl e) (λ _ e. one m kinds.Open a ea refl e)))
      (λ _. stand (Stands m text from) (a == 46) _ _ (λ _. stand (Stands m text from) (braces.starts b) _ _ (λ _ e. member_made m (e.0, e.1.within, e.2)) (λ _ e. no _ _ e))
      (λ _. stand (Stands m text from) (a == 64) _ _ (λ _. stand (Stands m text from) (is 125 b) _ _ (λ _ e. one m kinds.Prefix a ea refl e) (λ _ e. no _ _ e))
      (λ _. by_option (λ x. Stands m text from x (answer t)) (braces.form_or _) (braces.form_of a b) (λ e. no _ _ e)
      (λ f ef e. took m (kinds.Form f.0) a f.1 b ea eb (sym (ap (form_or_none b) ef) ∙ form_wide a b) (λ bytes. refl) e)))))) e

  target_found : (m : LexMode) (a b : Option ℕ) → slice_get text from ≡ a → slice_get text (next text from) ≡ b → Stands m text from (braces.target a b) (answer t) → Goal m
  target_found m None b ea eb e = zero m kinds.Otherwise refl e
  target_found m (Some a) b ea eb e =
      stand (Stands m text from) (a == 61) _ _ (λ _ e. one m kinds.Assign a ea refl e)
      (λ _. stand (Stands m text from) (a == 43 && is 61 b) _ _ (λ h e. two m kinds.AddAssign b eb (behind_is (a == 43) 61 b h) refl e)
      (λ _. stand (Stands m text from) (a == 91) _ _ (λ _ e. one m kinds.Open a ea refl e)
      (λ _. stand (Stands m text from) (a == 46) _ _
      (λ _. stand (Stands m text from) (braces.starts b) _ _ (λ _ e. member_made m (e.0, e.1.within, e.2)) (λ _ e. zero m kinds.Otherwise refl e)) (λ _ e. zero m kinds.Otherwise refl e)))) e

  -- ---- all

  stands_found : (m : LexMode) (a b c : Option ℕ) → slice_get text from ≡ a → slice_get text (next text from) ≡ b → slice_get text (next text (next text from)) ≡ c
      → Stands m text from (begins m a b c) (answer t) → Goal m
  stands_found mode.Command a b c ea eb ec e = between_found mode.Command a b c refl ea eb ec (parentheses b) (λ x. digit_or_word mode.Command b x refl eb) e
  stands_found mode.Argument a b c ea eb ec e = between_found mode.Argument a b c refl ea eb ec (parentheses b) (λ x. digit_or_word mode.Argument b x refl eb) e
  stands_found mode.Pattern a b c ea eb ec e = between_found mode.Pattern a b c refl ea eb ec refl (λ x. digit_or_word mode.Pattern b x refl eb) e
  stands_found mode.Condition a b c ea eb ec e = between_found mode.Condition a b c refl ea eb ec (parentheses b) (λ x w. word_found mode.Condition w) e
  stands_found mode.Value a b c ea eb ec e = between_found mode.Value a b c refl ea eb ec (parentheses b) (λ x. digit_or_word mode.Value b x refl eb) e
  stands_found mode.Word a b c ea eb ec e = piece_found mode.Word a b c ea eb ec e
  stands_found (mode.Quoted opening) a b c ea eb ec e = piece_found (mode.Quoted opening) a b c ea eb ec e
  stands_found mode.Group a b c ea eb ec e = piece_found mode.Group a b c ea eb ec e
  stands_found (mode.Braced end) a b c ea eb ec e = piece_found (mode.Braced end) a b c ea eb ec e
  stands_found mode.Subscript a b c ea eb ec e = piece_found mode.Subscript a b c ea eb ec e
  stands_found mode.Arithmetic a b c ea eb ec e = piece_found mode.Arithmetic a b c ea eb ec e
  stands_found mode.LoopArithmetic a b c ea eb ec e = piece_found mode.LoopArithmetic a b c ea eb ec e
  stands_found mode.Parentheses a b c ea eb ec e = piece_found mode.Parentheses a b c ea eb ec e
  stands_found (mode.HereBody tabs expands) a b c ea eb ec e = piece_found (mode.HereBody tabs expands) a b c ea eb ec e
  stands_found mode.Parameter a b c ea eb ec e = parameter_found mode.Parameter a b c refl ea e
  stands_found mode.Form a b c ea eb ec e = form_found mode.Form a b c ea eb ec e
  stands_found mode.Target a b c ea eb ec e = target_found mode.Target a b ea eb e

pub found : (m : LexMode) (text : List ℕ) (at : ℕ) (t : Token) → Tok m text at t → Found m text t
found m text at t h = stands_found text t h.0 m (slice_get text h.0) (slice_get text (next text h.0)) (slice_get text (next text (next text h.0))) refl refl refl h.2
