-- One thing is seen next.
use Rattle.std.specs.Prelude.{◌≡◌, ℕ, ◌+◌, ◌<◌, Bool, true, false, nat_lt, List, [], ◌∷◌, ◌++◌, drop, length, Option, Some, None, Result, Ok, Err, if◌then◌else◌}
use Rattle.std.proofs.Common.{refl, sym, ◌∙◌, ap, subst, arith, inl, inr}
use Rattle.std.proofs.lemmas.Bool.{cases_lt}
use Rattle.bstr.specs.Bytes.{not_in}
use Rattle.ksh_lexer.specs.declared.fault.SyntaxFault.{SyntaxFault}
use Rattle.ksh_lexer.specs.declared.here.Body.{Body}
use Rattle.ksh_lexer.specs.declared.here.HereDocument.{HereDocument}
use Rattle.ksh_lexer.specs.declared.kind.Token.{Token}
use Rattle.ksh_lexer.specs.declared.kind.TokenKind.{TokenKind}
use Rattle.ksh_lexer.specs.declared.kind.TokenKind.TheVariants as token
use Rattle.ksh_lexer.specs.Awaited.{IsBody, Lexing, MissesIn, TakesFrom, missing}
use Rattle.ksh_lexer.specs.Bodies.{IsBehindLine, IsEnd, NoEnd, is_end_line}
use Rattle.ksh_lexer.specs.Place.{fault_at}
use Rattle.ksh_lexer.specs.Reach.{at_byte}
use Rattle.ksh_lexer.proofs.Runs.{one_run}
use Rattle.ksh_lexer.proofs.Unique.{one_token, no_token, one_fault}
use Rattle.ksh_syntax.specs.declared.kind.Kind.{Kind}
use Rattle.ksh_syntax.specs.declared.kind.Kind.TheVariants as kind
use Rattle.ksh_syntax.specs.declared.kind.Mode.{Mode}
use Rattle.ksh_syntax.specs.declared.kind.Mode.TheVariants as mode
use Rattle.ksh_scan.specs.declared.see.Seen.{Seen}
use Rattle.ksh_scan.specs.declared.state.Source.{Source}
use Rattle.ksh_scan.specs.declared.state.State.{State}
use Rattle.ksh_scan.specs.Seeing.{at_place, lex_mode, lexed, one_or, outside, inside, refused, role_of, with_lexing, Ends, EndsBody, EndsBy, Sees, SeesBy, TakesBody}

-- ---- bodies

not_before : (text word : List ℕ) (tabs : Bool) (from x y : ℕ) → IsEnd text word tabs from x → IsEnd text word tabs from y → x < y → ⊥
not_before text word tabs from x y a b h =
    let f : is_end_line word tabs (drop x text) ≡ false = b.first x a.ordered h a.starts in
    let t : is_end_line word tabs (drop x text) ≡ true = a.ends in
    cc

one_end : (text word : List ℕ) (tabs : Bool) (from x y : ℕ) → IsEnd text word tabs from x → IsEnd text word tabs from y → x ≡ y
one_end text word tabs from x y a b =
    elim (cases_lt x y) as (λ _. x ≡ y) [
      | inl h ↦ absurd (not_before text word tabs from x y a b h)
      | inr h ↦ elim (cases_lt y x) as (λ _. x ≡ y) [ inl k ↦ absurd (not_before text word tabs from y x b a k) | inr k ↦ omega arith ]
    ]

no_end : (text word : List ℕ) (tabs : Bool) (from x : ℕ) → IsEnd text word tabs from x → NoEnd text word tabs from → ⊥
no_end text word tabs from x a n =
    let f : is_end_line word tabs (drop x text) ≡ false = n x a.ordered a.within a.starts in
    let t : is_end_line word tabs (drop x text) ≡ true = a.ends in
    cc

one_behind : (text : List ℕ) (at x y : ℕ) → IsBehindLine text at x → IsBehindLine text at y → x ≡ y
one_behind text at x y a b =
    a.2 ∙ ap (λ n. if nat_lt n (length text) then n + 1 else n) (one_run (at_byte (not_in (10 ∷ []))) text at a.0 b.0 a.1 b.1) ∙ sym b.2

same_body : (b c : Body) → b.from ≡ c.from → b.to ≡ c.to → b.tabs ≡ c.tabs → b.expands ≡ c.expands → b ≡ c
same_body b c f g h i =
    ap (λ x. (let d : Body = record { from = x; to = b.to; tabs = b.tabs; expands = b.expands } in d)) f
    ∙ ap (λ x. (let d : Body = record { from = c.from; to = x; tabs = b.tabs; expands = b.expands } in d)) g
    ∙ ap (λ x. (let d : Body = record { from = c.from; to = c.to; tabs = x; expands = b.expands } in d)) h
    ∙ ap (λ x. (let d : Body = record { from = c.from; to = c.to; tabs = c.tabs; expands = x } in d)) i

one_body : (text : List ℕ) (h : HereDocument) (from x y : ℕ) (b c : Body) → IsBody text h from b x → IsBody text h from c y → (b ≡ c) × (x ≡ y)
one_body text h from x y b c p q =
    let to : b.to ≡ c.to = one_end text h.word h.tabs from b.to c.to p.3 q.3 in
    (same_body b c (p.0 ∙ sym q.0) to (p.1 ∙ sym q.1) (p.2 ∙ sym q.2), one_behind text c.to x y (subst (λ at. IsBehindLine text at x) to p.4) q.4)

one_taken : (old l k : Lexing) (hs : List HereDocument) (b c : Option Body) → TakesFrom old l hs b → TakesFrom old k hs c → (l ≡ k) × (b ≡ c)
one_taken old l k [] None None x y = (x ∙ sym y, refl)
one_taken old l k [] None (Some c) x y = absurd y
one_taken old l k [] (Some b) c x y = absurd x
one_taken old l k (h ∷ hs) None c x y = absurd x
one_taken old l k (h ∷ hs) (Some b) None x y = absurd y
one_taken old l k (h ∷ hs) (Some b) (Some c) x y =
    let e = one_body old.0 h old.1 l.1 k.1 b c x.0 y.0 in
    (x.1 ∙ ap (λ (at : ℕ). (old.0, at, hs)) e.1 ∙ sym y.1, ap (λ (d : Body). Some d) e.0)

not_missed : (old l : Lexing) (hs : List HereDocument) (b : Option Body) (f : SyntaxFault) → TakesFrom old l hs b → MissesIn old hs f → ⊥
not_missed old l [] b f x y = y
not_missed old l (h ∷ hs) None f x y = x
not_missed old l (h ∷ hs) (Some b) f x y = no_end old.0 h.word h.tabs old.1 b.to x.0.3 y.0

one_missed : (old : Lexing) (hs : List HereDocument) (f g : SyntaxFault) → MissesIn old hs f → MissesIn old hs g → f ≡ g
one_missed old [] f g x y = absurd x
one_missed old (h ∷ hs) f g x y = x.1 ∙ sym y.1

-- ---- what is seen

abbrev Answer : Type 0
Answer = Result Seen SyntaxFault

takes_one : (one empty : Kind) (s : State) (t : Token) (r q : Answer) (s' s'' : State) → TakesBody one empty s t r s' → TakesBody one empty s t q s'' → (r ≡ q) × (s' ≡ s'')
takes_one one empty s t (Ok n) (Ok k) s' s'' a b =
    let e = one_taken s.source.lexer s'.source.lexer s''.source.lexer s.source.lexer.2 n.body k.body a.0 b.0 in (
      ap (λ (m : Seen). (let x : Answer = Ok m in x)) (a.2 ∙ ap (λ (d : Option Body). (let m : Seen = record { kind = one_or one empty d; token = t; body = d } in m)) e.1 ∙ sym b.2),
      a.1 ∙ ap (with_lexing s) e.0 ∙ sym b.1,
    )
takes_one one empty s t (Ok n) (Err g) s' s'' a b = absurd (not_missed s.source.lexer s'.source.lexer s.source.lexer.2 n.body g a.0 b.0)
takes_one one empty s t (Err f) (Ok k) s' s'' a b = absurd (not_missed s.source.lexer s''.source.lexer s.source.lexer.2 k.body f b.0 a.0)
takes_one one empty s t (Err f) (Err g) s' s'' a b =
    (ap (λ (h : SyntaxFault). (let x : Answer = Err h in x)) (one_missed s.source.lexer s.source.lexer.2 f g a.0 b.0), a.1 ∙ sym b.1)

no_last : (xs : List Source) (x : Source) → xs ++ x ∷ [] ≡ [] → ⊥
no_last [] x e = cc
no_last (y ∷ xs) x e = cc

last_one : (xs ys : List Source) (x y : Source) → xs ++ x ∷ [] ≡ ys ++ y ∷ [] → (xs ≡ ys) × (x ≡ y)
last_one [] [] x y e = (refl, cc)
last_one [] (b ∷ ys) x y e = absurd (no_last ys y (let f : ys ++ y ∷ [] ≡ [] = cc in f))
last_one (a ∷ xs) [] x y e = absurd (no_last xs x (let f : xs ++ x ∷ [] ≡ [] = cc in f))
last_one (a ∷ xs) (b ∷ ys) x y e =
    let same : a ≡ b = cc in
    let rest = last_one xs ys x y (let f : xs ++ x ∷ [] ≡ ys ++ y ∷ [] = cc in f) in
    (ap (λ z. z ∷ xs) same ∙ ap (λ zs. b ∷ zs) rest.0, rest.1)

body_ends_one : {s : State} {t : Token} {r q : Answer} {s' s'' : State} → EndsBody s t r s' → EndsBody s t q s'' → (r ≡ q) × (s' ≡ s'')
body_ends_one (outside e) (outside f) = (refl, refl)
body_ends_one (outside e) (inside more below f h) = absurd (no_last more below (sym f ∙ e))
body_ends_one (inside more below e h) (outside f) = absurd (no_last more below (sym e ∙ f))
body_ends_one {s} {t} {r} {q} {s'} {s''} (inside more below e h) (inside more' below' f k) =
    let same = last_one more more' below below' (sym e ∙ f) in
    takes_one kind.BodyNext kind.BodyLast (record s { source = below'; outer = more' }) t r q s' s''
    (subst (λ x. TakesBody kind.BodyNext kind.BodyLast (record s { source = x; outer = more' }) t r s') same.1
    (subst (λ xs. TakesBody kind.BodyNext kind.BodyLast (record s { source = below; outer = xs }) t r s') same.0 h)) k

plainly : {r q v : Answer} {s' s'' w : State} → (r ≡ v) × (s' ≡ w) → (q ≡ v) × (s'' ≡ w) → (r ≡ q) × (s' ≡ s'')
plainly a b = (a.0 ∙ sym b.0, a.1 ∙ sym b.1)

ends_by_one : (m : Mode) (s : State) (t : Token) (r q : Answer) (s' s'' : State) → EndsBy m s t r s' → EndsBy m s t q s'' → (r ≡ q) × (s' ≡ s'')
ends_by_one mode.Body s t r q s' s'' a b = body_ends_one a b
ends_by_one mode.Command s t r q s' s'' a b = plainly a b
ends_by_one mode.Pattern s t r q s' s'' a b = plainly a b
ends_by_one mode.Condition s t r q s' s'' a b = plainly a b
ends_by_one mode.Value s t r q s' s'' a b = plainly a b
ends_by_one mode.Word s t r q s' s'' a b = plainly a b
ends_by_one mode.Quoted s t r q s' s'' a b = plainly a b
ends_by_one mode.Group s t r q s' s'' a b = plainly a b
ends_by_one mode.Brace s t r q s' s'' a b = plainly a b
ends_by_one mode.Colon s t r q s' s'' a b = plainly a b
ends_by_one mode.Slash s t r q s' s'' a b = plainly a b
ends_by_one mode.Subscript s t r q s' s'' a b = plainly a b
ends_by_one mode.Arithmetic s t r q s' s'' a b = plainly a b
ends_by_one mode.LoopArithmetic s t r q s' s'' a b = plainly a b
ends_by_one mode.Parentheses s t r q s' s'' a b = plainly a b
ends_by_one mode.Parameter s t r q s' s'' a b = plainly a b
ends_by_one mode.Form s t r q s' s'' a b = plainly a b
ends_by_one mode.Target s t r q s' s'' a b = plainly a b

ends_one : (f : Option SyntaxFault) (m : Mode) (s : State) (t : Token) (r q : Answer) (s' s'' : State) → Ends f m s t r s' → Ends f m s t q s'' → (r ≡ q) × (s' ≡ s'')
ends_one (Some f) m s t r q s' s'' a b = plainly a b
ends_one None m s t r q s' s'' a b = ends_by_one m s t r q s' s'' a b

by_kind : (k : TokenKind) (m : Mode) (s : State) (t : Token) (r q : Answer) (s' s'' : State) → SeesBy (role_of k) m s t r s' → SeesBy (role_of k) m s t q s'' → (r ≡ q) × (s' ≡ s'')
by_kind token.End m s t r q s' s'' a b = ends_one (missing s.source.lexer.0 s.source.lexer.2) m s t r q s' s'' a b
by_kind token.Newline m s t r q s' s'' a b = takes_one kind.NewlineBodies kind.Newline s t r q s' s'' a b
by_kind (token.Operator o) m s t r q s' s'' a b = plainly a b
by_kind (token.Redirect x d) m s t r q s' s'' a b = plainly a b
by_kind token.Bare m s t r q s' s'' a b = plainly a b
by_kind token.Start m s t r q s' s'' a b = plainly a b
by_kind token.Element m s t r q s' s'' a b = plainly a b
by_kind token.Key m s t r q s' s'' a b = plainly a b
by_kind token.WordEnd m s t r q s' s'' a b = plainly a b
by_kind token.Plain m s t r q s' s'' a b = plainly a b
by_kind token.Joined m s t r q s' s'' a b = plainly a b
by_kind token.Escaped m s t r q s' s'' a b = plainly a b
by_kind token.Single m s t r q s' s'' a b = plainly a b
by_kind (token.Ansi at) m s t r q s' s'' a b = plainly a b
by_kind token.OpenQuote m s t r q s' s'' a b = plainly a b
by_kind token.CloseQuote m s t r q s' s'' a b = plainly a b
by_kind token.Backquote m s t r q s' s'' a b = plainly a b
by_kind (token.Expand at) m s t r q s' s'' a b = plainly a b
by_kind token.OpenParameter m s t r q s' s'' a b = plainly a b
by_kind token.OpenSubstitution m s t r q s' s'' a b = plainly a b
by_kind token.OpenArithmetic m s t r q s' s'' a b = plainly a b
by_kind token.Dollar m s t r q s' s'' a b = plainly a b
by_kind token.Open m s t r q s' s'' a b = plainly a b
by_kind token.Close m s t r q s' s'' a b = plainly a b
by_kind token.Separator m s t r q s' s'' a b = plainly a b
by_kind token.Length m s t r q s' s'' a b = plainly a b
by_kind token.Target m s t r q s' s'' a b = plainly a b
by_kind token.Name m s t r q s' s'' a b = plainly a b
by_kind token.Digits m s t r q s' s'' a b = plainly a b
by_kind token.Special m s t r q s' s'' a b = plainly a b
by_kind (token.Form f) m s t r q s' s'' a b = plainly a b
by_kind (token.Items joined) m s t r q s' s'' a b = plainly a b
by_kind (token.Member at) m s t r q s' s'' a b = plainly a b
by_kind token.Prefix m s t r q s' s'' a b = plainly a b
by_kind token.Assign m s t r q s' s'' a b = plainly a b
by_kind token.AddAssign m s t r q s' s'' a b = plainly a b
by_kind token.Otherwise m s t r q s' s'' a b = plainly a b

pub one_sight : {s : State} {m : Mode} {r q : Answer} {s' s'' : State} → Sees s m r s' → Sees s m q s'' → (r ≡ q) × (s' ≡ s'')
one_sight {s} {m} {r} {q} {s'} {s''} (lexed t tok by) (lexed u tok' by') =
    let e : t ≡ u = one_token (lex_mode s.source m) s.source.lexer.0 s.source.lexer.1 t u tok tok' in
    by_kind u.kind m (at_place s u.to) u r q s' s'' (subst (λ (x : Token). SeesBy (role_of x.kind) m (at_place s x.to) x r s') e by) by'
one_sight {s} {m} (lexed t tok by) (refused {f} bad e) = absurd (no_token (lex_mode s.source m) s.source.lexer.0 s.source.lexer.1 t f.kind f.place.byte tok bad)
one_sight {s} {m} (refused {f} bad e) (lexed t tok by) = absurd (no_token (lex_mode s.source m) s.source.lexer.0 s.source.lexer.1 t f.kind f.place.byte tok bad)
one_sight {s} {m} (refused {f} bad e) (refused {f = g} bad' e') =
    let k = one_fault (lex_mode s.source m) s.source.lexer.0 s.source.lexer.1 f.kind g.kind f.place.byte g.place.byte bad bad' in (
      ap (λ (h : SyntaxFault). (let x : Answer = Err h in x))
          (e ∙ ap (λ y. fault_at s.source.lexer.0 y f.place.byte) k.0 ∙ ap (λ y. fault_at s.source.lexer.0 g.kind y) k.1 ∙ sym e'),
      refl,
    )
