-- What is seen next in a text, by its kind, and what becomes of what is open and awaited.
use Rattle.std.specs.Prelude.{◌≡◌, ℕ, Bool, true, false, ◌||◌, List, [], ◌∷◌, ◌++◌, Option, Some, None, Result, Ok}
use Rattle.std.proofs.Common.{refl, sym, ◌∙◌, ap, subst}
use Rattle.ksh_grammar.proofs.Begins.{and_left, and_right}
use Rattle.ksh_lexer.specs.declared.fault.SyntaxFault.{SyntaxFault}
use Rattle.ksh_lexer.specs.declared.here.Body.{Body}
use Rattle.ksh_lexer.specs.declared.here.HereDocument.{HereDocument}
use Rattle.ksh_lexer.specs.declared.kind.Token.{Token}
use Rattle.ksh_lexer.specs.declared.kind.TokenKind.{TokenKind}
use Rattle.ksh_lexer.specs.declared.kind.TokenKind.TheVariants as token
use Rattle.ksh_lexer.specs.Awaited.{Lexing, TakesFrom, missing}
use Rattle.ksh_lexer.specs.Tok.{Tok}
use Rattle.ksh_kinds.specs.Tokens.{is_bare, kind_of}
use Rattle.ksh_syntax.specs.declared.kind.Kind.{Kind}
use Rattle.ksh_syntax.specs.declared.kind.Kind.TheVariants as kind
use Rattle.ksh_syntax.specs.declared.kind.Mode.{Mode}
use Rattle.ksh_syntax.specs.declared.kind.Mode.TheVariants as mode
use Rattle.ksh_syntax.specs.Takes.{is_bare as is_plain_word}
use Rattle.ksh_scan.specs.declared.see.Seen.{Seen}
use Rattle.ksh_scan.specs.declared.state.Source.{Source}
use Rattle.ksh_scan.specs.declared.state.State.{State}
use Rattle.ksh_scan.specs.Openings.{in_backquotes}
use Rattle.ksh_scan.specs.Seeing.{at_place, backquote, bare_word, empty_token, goes_on, inside, is_between, is_word, lex_mode, lexed, one_or, outside, refused, role_of, text_of, without_body, Ends, EndsBody, EndsBy, Sees, SeesBy, TakesBody}
use Rattle.tree_moves.specs.HereWords.{same_bool}
use Rattle.note_moves.proofs.Conditions.{no_name}
use Rattle.note_moves.proofs.Fitting.{fits_word, is_inner, is_name, knows, token_fits, word_fits}

-- what the kind of a token tells of what was seen
pub record Facts (m : Mode) (n : Seen) : Type 0 where
  pub knows : knows n.token.kind n.kind ≡ true
  pub word : m ≡ mode.Condition → same_bool (is_bare n.token.kind) (is_plain_word n.kind) ≡ true

-- the same text goes on
pub record Stays (s at : State) : Type 0 where
  pub openings : at.source.openings ≡ s.source.openings
  pub here : at.here ≡ s.here
  pub outer : at.outer ≡ s.outer

-- a body ends
pub record Leaves (s at : State) (below : Source) : Type 0 where
  pub outer : s.outer ≡ at.outer ++ below ∷ []
  pub openings : at.source.openings ≡ below.openings
  pub here : at.here ≡ s.here

-- what is seen, by its kind
pub data Seeing (s : State) (n : Seen) (at : State) : Type 0 where
  stays_within : Stays s at → at.source.lexer.2 ≡ s.source.lexer.2 → n.body ≡ None → is_inner n.kind ≡ true → Seeing s n at
  begins_body : (h : HereDocument) (b : Body) → Stays s at → s.source.lexer.2 ≡ h ∷ at.source.lexer.2 → n.body ≡ Some b → n.kind ≡ kind.NewlineBodies → Seeing s n at
  next_body : (h : HereDocument) (b : Body) (below : Source) → Leaves s at below → below.lexer.2 ≡ h ∷ at.source.lexer.2 → n.body ≡ Some b → n.kind ≡ kind.BodyNext → Seeing s n at
  last_body : (below : Source) → Leaves s at below → below.lexer.2 ≡ at.source.lexer.2 → n.body ≡ None → n.kind ≡ kind.BodyLast → Seeing s n at

-- ---- bodies that are awaited

data Taken (one empty : Kind) (s : State) (n : Seen) (at : State) : Type 0 where
  some : (h : HereDocument) (b : Body) → s.source.lexer.2 ≡ h ∷ at.source.lexer.2 → n.body ≡ Some b → n.kind ≡ one → Taken one empty s n at
  none : s.source.lexer.2 ≡ at.source.lexer.2 → n.body ≡ None → n.kind ≡ empty → Taken one empty s n at

taken_by : (one empty : Kind) (s : State) (n : Seen) (at : State) (waits : List HereDocument) (body : Option Body) → s.source.lexer.2 ≡ waits → n.body ≡ body
    → n.kind ≡ one_or one empty body → TakesFrom s.source.lexer at.source.lexer waits body → Taken one empty s n at
taken_by one empty s n at (h ∷ more) (Some b) e f k takes = some h b (e ∙ sym (ap (λ (l : Lexing). h ∷ l.2) takes.1)) f k
taken_by one empty s n at [] None e f k takes = none (sym (ap (λ (l : Lexing). l.2) takes)) f k
taken_by one empty s n at (h ∷ more) None e f k takes = absurd takes
taken_by one empty s n at [] (Some b) e f k takes = absurd takes

taken : (one empty : Kind) (s : State) (t : Token) (n : Seen) (at : State) → TakesBody one empty s t (Ok n) at → Taken one empty s n at
taken one empty s t n at h = taken_by one empty s n at s.source.lexer.2 n.body refl refl (ap (λ (x : Seen). x.kind) h.2) h.0

token_taken : (one empty : Kind) (s : State) (t : Token) (n : Seen) (at : State) → TakesBody one empty s t (Ok n) at → n.token ≡ t
token_taken one empty s t n at h = ap (λ (x : Seen). x.token) h.2

-- a newline, and the end of a text
plain_facts : (m : Mode) (n : Seen) → knows n.token.kind n.kind ≡ true → same_bool (is_bare n.token.kind) (is_plain_word n.kind) ≡ true → Facts m n
plain_facts m n k w = record { knows = k; word = λ c. w }

facts_at : (m : Mode) (n : Seen) (tk : TokenKind) (k : Kind) → n.token.kind ≡ tk → n.kind ≡ k → knows tk k ≡ true → same_bool (is_bare tk) (is_plain_word k) ≡ true → Facts m n
facts_at m n tk k et ek h w = record {
  knows = ap (λ x. knows x n.kind) et ∙ (ap (knows tk) ek ∙ h);
  word = λ c. ap (λ x. same_bool (is_bare x) (is_plain_word n.kind)) et ∙ (ap (λ x. same_bool (is_bare tk) (is_plain_word x)) ek ∙ w);
}

-- ---- tokens

pub record Sight (s : State) (m : Mode) (n : Seen) (at : State) : Type 0 where
  pub facts : Facts m n
  pub seeing : Seeing s n at

newline_seen : (s : State) (m : Mode) (t : Token) (n : Seen) (at : State) → t.kind ≡ token.Newline → TakesBody kind.NewlineBodies kind.Newline (at_place s t.to) t (Ok n) at → Sight s m n at
newline_seen s m t n at e h = go (taken kind.NewlineBodies kind.Newline (at_place s t.to) t n at h)
  where
    stays : Stays s at
    stays = record {
      openings = ap (λ (z : State). z.source.openings) h.1;
      here = ap (λ (z : State). z.here) h.1;
      outer = ap (λ (z : State). z.outer) h.1;
    }

    newline : n.token.kind ≡ token.Newline
    newline = ap (λ (x : Token). x.kind) (token_taken kind.NewlineBodies kind.Newline (at_place s t.to) t n at h) ∙ e

    go : Taken kind.NewlineBodies kind.Newline (at_place s t.to) n at → Sight s m n at
    go (some d b w f k) = record { facts = facts_at m n token.Newline kind.NewlineBodies newline k refl refl; seeing = begins_body d b stays w f k }
    go (none w f k) = record { facts = facts_at m n token.Newline kind.Newline newline k refl refl; seeing = stays_within stays (sym w) f (ap is_inner k) }

end_seen : (s : State) (m : Mode) (t : Token) (n : Seen) (at : State) → t.kind ≡ token.End → n ≡ without_body kind.End t → at ≡ at_place s t.to → Sight s m n at
end_seen s m t n at e f g = record {
  facts = facts_at m n token.End kind.End (ap (λ (x : Seen). x.token.kind) f ∙ e) (ap (λ (x : Seen). x.kind) f) refl refl;
  seeing = stays_within (record { openings = ap (λ (z : State). z.source.openings) g; here = ap (λ (z : State). z.here) g; outer = ap (λ (z : State). z.outer) g })
      (ap (λ (z : State). z.source.lexer.2) g) (ap (λ (x : Seen). x.body) f) (ap (λ (x : Seen). is_inner x.kind) f);
}

body_seen : (s : State) (m : Mode) (t : Token) (n : Seen) (at : State) (more : List Source) (below : Source) → t.kind ≡ token.End → s.outer ≡ more ++ below ∷ []
    → TakesBody kind.BodyNext kind.BodyLast (record (at_place s t.to) { source = below; outer = more }) t (Ok n) at → Sight s m n at
body_seen s m t n at more below e o h = go (taken kind.BodyNext kind.BodyLast (record (at_place s t.to) { source = below; outer = more }) t n at h)
  where
    leaves : Leaves s at below
    leaves = record {
      outer = o ∙ sym (ap (λ (z : State). z.outer ++ below ∷ []) h.1);
      openings = ap (λ (z : State). z.source.openings) h.1;
      here = ap (λ (z : State). z.here) h.1;
    }

    end : n.token.kind ≡ token.End
    end = ap (λ (x : Token). x.kind) (token_taken kind.BodyNext kind.BodyLast (record (at_place s t.to) { source = below; outer = more }) t n at h) ∙ e

    go : Taken kind.BodyNext kind.BodyLast (record (at_place s t.to) { source = below; outer = more }) n at → Sight s m n at
    go (some d b w f k) = record { facts = facts_at m n token.End kind.BodyNext end k refl refl; seeing = next_body d b below leaves w f k }
    go (none w f k) = record { facts = facts_at m n token.End kind.BodyLast end k refl refl; seeing = last_body below leaves w f k }

ok_same : (n n' : Seen) (r : Result Seen SyntaxFault) → r ≡ Ok n → r ≡ Ok n' → n ≡ n'
ok_same n n' r h h' = cc

ends_seen : (s : State) (m : Mode) (t : Token) (r : Result Seen SyntaxFault) (n : Seen) (at : State) → t.kind ≡ token.End → r ≡ Ok n → EndsBody (at_place s t.to) t r at → Sight s m n at
ends_seen s m t r n at e f (outside o) = end_seen s m t n at e (ok_same n (without_body kind.End t) (Ok (without_body kind.End t)) f refl) refl
ends_seen s m t r n at e f (inside more below o h) = body_seen s m t n at more below e o (subst (λ x. TakesBody kind.BodyNext kind.BodyLast (record (at_place s t.to) { source = below; outer = more }) t x at) f h)

by_mode : (s : State) (m k : Mode) (t : Token) (n : Seen) (at : State) → t.kind ≡ token.End → EndsBy k (at_place s t.to) t (Ok n) at → Sight s m n at
by_mode s m mode.Body t n at e h = ends_seen s m t (Ok n) n at e refl h
by_mode s m _ t n at e h = end_seen s m t n at e (ok_same n (without_body kind.End t) (Ok n) refl h.0) h.1

by_missing : (s : State) (m : Mode) (t : Token) (n : Seen) (at : State) (f : Option SyntaxFault) → t.kind ≡ token.End → Ends f m (at_place s t.to) t (Ok n) at → Sight s m n at
by_missing s m t n at None e h = by_mode s m m t n at e h
by_missing s m t n at (Some f) e h = let wrong = h.0 in cc

-- what changes nothing but the place
placed : (s : State) (m : Mode) (n : Seen) (at : State) (from to : ℕ) → at ≡ at_place (at_place s from) to → n.body ≡ None → is_inner n.kind ≡ true → Facts m n → Sight s m n at
placed s m n at from to e b i f = record {
  facts = f;
  seeing = stays_within (record { openings = ap (λ (z : State). z.source.openings) e; here = ap (λ (z : State). z.here) e; outer = ap (λ (z : State). z.outer) e })
      (ap (λ (z : State). z.source.lexer.2) e) b i;
}

record Plain (m : Mode) (n : Seen) : Type 0 where
  body : n.body ≡ None
  inner : is_inner n.kind ≡ true
  facts : Facts m n

backquote_plain : (inq between word : Bool) (m : Mode) (t : Token) → t.kind ≡ token.Backquote → Plain m (backquote inq between word t)
backquote_plain true true word m t e = record { body = refl; inner = refl; facts = facts_at m (without_body kind.Backquote t) token.Backquote kind.Backquote e refl refl refl }
backquote_plain true false true m t e = record { body = refl; inner = refl; facts = plain_facts m (without_body kind.WordEnd (empty_token token.WordEnd t.from)) refl refl }
backquote_plain true false false m t e = record { body = refl; inner = refl; facts = facts_at m (without_body kind.End t) token.Backquote kind.End e refl refl refl }
backquote_plain false true word m t e = record { body = refl; inner = refl; facts = plain_facts m (without_body kind.Start (empty_token token.Start t.from)) refl refl }
backquote_plain false false word m t e = record { body = refl; inner = refl; facts = facts_at m (without_body kind.Backquote t) token.Backquote kind.Backquote e refl refl refl }

word_known : (tk : TokenKind) (k : Kind) → fits_word tk k ≡ true → is_name tk ≡ false → same_bool (is_bare tk) (is_plain_word k) ≡ true
word_known tk k h f = sym (ap (λ b. b || same_bool (is_bare tk) (is_plain_word k)) f) ∙ h

own_plain : (text : List ℕ) (m : Mode) (t : Token) → (m ≡ mode.Condition → is_name t.kind ≡ false) → Plain m (without_body (kind_of text m t) t)
own_plain text m t named =
    let f = token_fits text m t in
    record {
      body = refl;
      inner = and_right (knows t.kind (kind_of text m t)) (is_inner (kind_of text m t)) f;
      facts = record {
        knows = and_left (knows t.kind (kind_of text m t)) (is_inner (kind_of text m t)) f;
        word = λ c. word_known t.kind (kind_of text m t) (word_fits text m t c) (named c);
      };
    }

bare_plain : (goes : Bool) (text : List ℕ) (m : Mode) (t : Token) → (m ≡ mode.Condition → is_name t.kind ≡ false) → Plain m (bare_word goes text m t)
bare_plain true text m t named = own_plain text m (empty_token token.Start t.from) (λ c. refl)
bare_plain false text m t named = own_plain text m t named

plain_seen : (s : State) (m : Mode) (n n' : Seen) (at : State) (from to : ℕ) → at ≡ at_place (at_place s from) to → n ≡ n' → Plain m n' → Sight s m n at
plain_seen s m n n' at from to e is p =
    placed s m n at from to e (ap (λ (x : Seen). x.body) is ∙ p.body) (ap (λ (x : Seen). is_inner x.kind) is ∙ p.inner) (subst (Facts m) (sym is) p.facts)

own_seen : (s : State) (m : Mode) (t : Token) (r : Result Seen SyntaxFault) (n : Seen) (at : State) → (m ≡ mode.Condition → is_name t.kind ≡ false) → r ≡ Ok n
    → r ≡ Ok (without_body (kind_of (text_of s) m t) t) → at ≡ at_place s t.to → Sight s m n at
own_seen s m t r n at named e h f =
    let it : Seen = without_body (kind_of (text_of s) m t) t in
    plain_seen s m n it at t.to t.to f (ok_same n it r e h) (own_plain (text_of s) m t named)

by_kind : (s : State) (m : Mode) (t : Token) (n : Seen) (at : State) (k : TokenKind) → (m ≡ mode.Condition → is_name t.kind ≡ false) → t.kind ≡ k
    → SeesBy (role_of k) m (at_place s t.to) t (Ok n) at → Sight s m n at
by_kind s m t n at token.Newline named e h = newline_seen s m t n at e h
by_kind s m t n at token.End named e h = by_missing s m t n at (missing s.source.lexer.0 s.source.lexer.2) e h
by_kind s m t n at token.Backquote named e h =
    let it : Seen = backquote (in_backquotes s.source.openings) (is_between m) (is_word m) t in
    plain_seen s m n it at t.to it.token.to h.1 (ok_same n it (Ok n) refl h.0) (backquote_plain (in_backquotes s.source.openings) (is_between m) (is_word m) m t e)
by_kind s m t n at token.Bare named e h =
    let it : Seen = bare_word (goes_on (at_place s t.to) t.to) (text_of s) m t in
    plain_seen s m n it at t.to it.token.to h.1 (ok_same n it (Ok n) refl h.0) (bare_plain (goes_on (at_place s t.to) t.to) (text_of s) m t named)
by_kind s m t n at _ named e h = own_seen s m t (Ok n) n at named refl h.0 h.1

seen : (s : State) (m : Mode) (r : Result Seen SyntaxFault) (n : Seen) (at : State) → r ≡ Ok n → Sees s m r at → Sight s m n at
seen s m r n at e (lexed t tok by) =
    by_kind s m t n at t.kind
    (λ c. no_name s.source.lexer.0 s.source.lexer.1 t (subst (λ k. Tok (lex_mode s.source k) s.source.lexer.0 s.source.lexer.1 t) c tok)) refl
    (subst (λ x. SeesBy (role_of t.kind) m (at_place s t.to) t x at) e by)
seen s m r n at e (refused fault at_byte) = cc

pub is_seen : (s : State) (m : Mode) (n : Seen) (at : State) → Sees s m (Ok n) at → Sight s m n at
is_seen s m n at h = seen s m (Ok n) n at refl h
