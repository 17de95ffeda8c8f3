-- No token of a condition is the name of a parameter.
use Rattle.std.specs.Prelude.{◌≡◌, ℕ, ◌+◌, Bool, true, false, ◌||◌, ◌&&◌, ◌==◌, nat_lt, List, slice_get, Option, Some, None, Ok, if◌then◌else◌}
use Rattle.std.proofs.Common.{refl, sym, ap, ◌∙◌}
use Rattle.ksh_lexer.specs.declared.kind.Token.{Token}
use Rattle.ksh_lexer.specs.declared.kind.TokenKind.{TokenKind}
use Rattle.ksh_lexer.specs.declared.kind.TokenKind.TheVariants as token
use Rattle.ksh_lexer.specs.declared.kind.Operator.{Operator}
use Rattle.ksh_lexer.specs.declared.kind.Redirection.TheVariants as redirection
use Rattle.ksh_lexer.specs.declared.kind.Descriptor.TheVariants.{Default}
use Rattle.ksh_lexer.specs.declared.fault.SyntaxKind.{SyntaxKind}
use Rattle.ksh_lexer.specs.declared.mode.LexMode.TheVariants as lex
use Rattle.ksh_lexer.specs.Between.{between, greater, less, operator, operator_or, word}
use Rattle.ksh_lexer.specs.Bytes.{is}
use Rattle.ksh_lexer.specs.Reach.{next, reach}
use Rattle.ksh_lexer.specs.Tok.{Stands, Tok, WordBy, fault, is_element, is_key, token as tok, word_ends}
use Rattle.note_moves.proofs.Fitting.{is_name}

-- what stands there is no name
module _ (text : List ℕ) (from : ℕ) (t : Token) where
  either : (c : Bool) (x y : _) → (Stands lex.Condition text from x (Ok t) → is_name t.kind ≡ false) → (Stands lex.Condition text from y (Ok t) → is_name t.kind ≡ false) → Stands lex.Condition text from (if c then x else y) (Ok t) → is_name t.kind ≡ false
  either true x y h i = h
  either false x y h i = i

  refused : {A : Type 0} {kind : SyntaxKind} → fault kind from ≡ Ok t → A
  refused h = cc

  taken : (k : TokenKind) (width : ℕ) → is_name k ≡ false → tok k from (reach text from width) ≡ Ok t → is_name t.kind ≡ false
  taken k width f h =
      let same : t ≡ record { kind = k; from = from; to = reach text from width } = cc in
      ap (λ (x : Token). is_name x.kind) same ∙ f

  less_no_name : (second third : Option ℕ) → Stands lex.Condition text from (less second third) (Ok t) → is_name t.kind ≡ false
  less_no_name second third =
      either (is 40 second || is 35 second) _ _ (λ h. refused (sym h))
      (either (is 60 second) _ _ (either (is 45 third) _ _ (λ h. taken (token.Redirect redirection.HereTabs Default) 3 refl (sym h))
      (either (is 60 third) _ _ (λ h. taken (token.Redirect redirection.HereString Default) 3 refl (sym h)) (λ h. taken (token.Redirect redirection.HereDocument Default) 2 refl (sym h))))
      (either (is 62 second) _ _ (λ h. taken (token.Redirect redirection.ReadWrite Default) 2 refl (sym h))
      (either (is 38 second) _ _ (λ h. taken (token.Redirect redirection.CopyInput Default) 2 refl (sym h)) (λ h. taken (token.Redirect redirection.Input Default) 1 refl (sym h)))))

  greater_no_name : (second : Option ℕ) → Stands lex.Condition text from (greater second) (Ok t) → is_name t.kind ≡ false
  greater_no_name second =
      either (is 40 second || (is 35 second || is 59 second)) _ _ (λ h. refused (sym h))
      (either (is 124 second) _ _ (λ h. taken (token.Redirect redirection.Clobber Default) 2 refl (sym h))
      (either (is 62 second) _ _ (λ h. taken (token.Redirect redirection.Append Default) 2 refl (sym h))
      (either (is 38 second) _ _ (λ h. taken (token.Redirect redirection.CopyOutput Default) 2 refl (sym h)) (λ h. taken (token.Redirect redirection.Output Default) 1 refl (sym h)))))

  bare_no_name : (b : Bool) (end : ℕ) → (if b then tok token.Bare from end else tok token.Start from from) ≡ Ok t → is_name t.kind ≡ false
  bare_no_name true end h = let e : t ≡ record { kind = token.Bare; from = from; to = end } = cc in ap (λ (x : Token). is_name x.kind) e
  bare_no_name false end h = let e : t ≡ record { kind = token.Start; from = from; to = from } = cc in ap (λ (x : Token). is_name x.kind) e

  word_no_name : (element key : Bool) (path : ℕ) → WordBy element key text from path (Ok t) → is_name t.kind ≡ false
  word_no_name true key path h = let e : t ≡ record { kind = token.Element; from = from; to = path } = cc in ap (λ (x : Token). is_name x.kind) e
  word_no_name false true path h = let e : t ≡ record { kind = token.Key; from = from; to = from + 1 } = cc in ap (λ (x : Token). is_name x.kind) e
  word_no_name false false path h = bare_no_name (nat_lt from h.0 && word_ends (slice_get text h.0)) h.0 (sym h.2)

  operator_no_name : (b : ℕ) (second : Option ℕ) (o : Option (Operator × ℕ)) → Stands lex.Condition text from (operator_or (word lex.Condition b second) o) (Ok t) → is_name t.kind ≡ false
  operator_no_name b second None h = word_no_name (is_element lex.Condition text from h.0) (is_key lex.Condition text from) h.0 h.2
  operator_no_name b second (Some o) h = taken (token.Operator o.0) o.1 refl (sym h)

  between_no_name : (first second third : Option ℕ) → Stands lex.Condition text from (between lex.Condition first second third) (Ok t) → is_name t.kind ≡ false
  between_no_name None second third = λ h. taken token.End 0 refl (sym h)
  between_no_name (Some b) second third =
      either (b == 0) _ _ (λ h. refused (sym h))
      (either (b == 10) _ _ (λ h. taken token.Newline 1 refl (sym h))
      (either (b == 96) _ _ (λ h. taken token.Backquote 1 refl (sym h))
      (either (b == 60) _ _ (less_no_name second third)
      (either (b == 62) _ _ (greater_no_name second) (operator_no_name b second (operator lex.Condition b second))))))

pub no_name : (text : List ℕ) (at : ℕ) (t : Token) → Tok lex.Condition text at t → is_name t.kind ≡ false
no_name text at t h = between_no_name text h.0 t (slice_get text h.0) (slice_get text (next text h.0)) (slice_get text (next text (next text h.0))) h.2
