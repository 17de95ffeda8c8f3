-- What is seen fits, and each source of a scanner stands in front of the rest of the script.
use Rattle.std.proofs.Common.{◌≡◌, ℕ, ◌-◌, ◌<◌, ◌≤◌, Bool, true, false, ◌⊎◌, List, [], ◌∷◌, ◌++◌, length, take, drop, Option, Some, None, Result, Ok, Err, All, refl, ap, sym, ◌∙◌, subst, arith, inl, inr, append-nil, append_assoc, length-drop, take-append-drop}
use Rattle.std.specs.Prelude.{slice_get}
use Rattle.std.proofs.lemmas.Bool.{cases_lt}
use Rattle.std.proofs.lemmas.List.{take-append-le, drop-append-le}
use Rattle.std.proofs.lemmas.List.Elements.{All-nil, All-push, All-pop}
use Rattle.ksh_lexer.specs.declared.fault.SyntaxFault.{SyntaxFault}
use Rattle.ksh_lexer.specs.declared.here.Body.{Body}
use Rattle.ksh_lexer.specs.declared.here.HereDocument.{HereDocument}
use Rattle.ksh_lexer.specs.declared.kind.Token.{Token}
use Rattle.ksh_lexer.specs.declared.kind.TokenKind.{TokenKind}
use Rattle.ksh_lexer.specs.declared.kind.TokenKind.TheVariants as token
use Rattle.ksh_lexer.specs.Awaited.{Lexing, TakesFrom}
use Rattle.ksh_lexer.specs.Spells.{Spells}
use Rattle.ksh_lexer.specs.Tok.{Tok, bytes_between}
use Rattle.ksh_syntax.specs.declared.kind.Kind.{Kind}
use Rattle.ksh_syntax.specs.declared.kind.Kind.TheVariants as kind
use Rattle.ksh_syntax.specs.declared.kind.Mode.{Mode}
use Rattle.ksh_syntax.specs.declared.kind.Mode.TheVariants as mode
use Rattle.ksh_syntax.specs.declared.part.Mark.{Mark}
use Rattle.ksh_kinds.specs.Tokens.{kind_of}
use Rattle.ksh_scan.specs.declared.opening.HereOperator.{HereOperator}
use Rattle.ksh_scan.specs.declared.see.Seen.{Seen}
use Rattle.ksh_scan.specs.declared.state.Source.{Source}
use Rattle.ksh_scan.specs.declared.state.State.{State}
use Rattle.ksh_scan.specs.After.{after, awaiting, entered}
use Rattle.ksh_scan.specs.Openings.{in_backquotes}
use Rattle.ksh_scan.specs.Scan.{start}
use Rattle.ksh_scan.specs.Seeing.{at_place, backquote, bare_word, empty_token, goes_on, is_word, lex_mode, lexed, one_or, outside, inside, role_of, text_of, with_lexing, without_body, Ends, EndsBody, EndsBy, Sees, SeesBy, TakesBody}
use Rattle.ksh_scan.specs.Seeing as seeing
use Rattle.tree_parts.specs.declared.sign.Sign.{Sign}
use Rattle.tree_build.specs.Fitting.{Fitting}
use Rattle.note_signs.proofs.Comes.{found}
use Rattle.note_signs.proofs.Fit.{quiet, sign}
use Rattle.note_signs.proofs.Own.{kind_fits, token_fits}

-- ---- what is seen

abbrev Answer : Type 0
Answer = Result Seen SyntaxFault

-- it has no bytes or ends within the text, and fits
pub record Fine (m : Mode) (text : List ℕ) (n : Seen) : Type 0 where
  pub within : (n.token.to ≤ length text) ⊎ (n.token.to ≡ n.token.from)
  pub fits : (line : ℕ) → Fitting (sign m n.kind n.token.kind n.token.from n.token.to line) (bytes_between text n.token.from n.token.to)

same_seen : (n k : Seen) → (let x : Answer = Ok n in x ≡ Ok k) → k ≡ n
same_seen n k e = cc

-- a token whose kind says nothing of its bytes
abbrev Mute : Kind → Type 0
Mute k = (s : Sign) (b : List ℕ) → s.kind ≡ k → Fitting s b

mute : (k : Kind) → ((m : Mode) (t : TokenKind) (from to line : ℕ) (b : List ℕ) → Fitting (sign m k t from to line) b) → Mute k
mute k h s b e = subst (λ j. Fitting (sign s.mode j s.token s.from s.to s.line) b) (sym e) (h s.mode s.token s.from s.to s.line b)

fine_by : (m : Mode) (text : List ℕ) (n : Seen) (k : Kind) (t : Token) → n.kind ≡ k → n.token ≡ t → Mute k → (t.to ≤ length text) ⊎ (t.to ≡ t.from) → Fine m text n
fine_by m text n k t ek et h w = record {
  within = subst (λ (u : Token). (u.to ≤ length text) ⊎ (u.to ≡ u.from)) (sym et) w;
  fits = λ line. h (sign m n.kind n.token.kind n.token.from n.token.to line) _ ek;
}

fine_without : (m : Mode) (text : List ℕ) (n : Seen) (k : Kind) (t : Token) → (let x : Answer = Ok n in x ≡ Ok (without_body k t)) → Mute k → (t.to ≤ length text) ⊎ (t.to ≡ t.from) → Fine m text n
fine_without m text n k t e h w = subst (λ j. Fine m text j) (same_seen n (without_body k t) e) (fine_by m text (without_body k t) k t refl refl h w)

end_mute : Mute kind.End
end_mute = mute kind.End (λ m t from to line b. quiet _ _ refl tt (λ i l e. l))

start_mute : Mute kind.Start
start_mute = mute kind.Start (λ m t from to line b. quiet _ _ refl tt (λ i l e. l))

backquote_mute : Mute kind.Backquote
backquote_mute = mute kind.Backquote (λ m t from to line b. quiet _ _ refl tt (λ i l e. l))

word_end_mute : Mute kind.WordEnd
word_end_mute = mute kind.WordEnd (λ m t from to line b. quiet _ _ refl tt (λ i l e. l))

newline_mute : (b : Option Body) → Mute (one_or kind.NewlineBodies kind.Newline b)
newline_mute None = mute kind.Newline (λ m t from to line b. quiet _ _ refl tt (λ i l e. l))
newline_mute (Some b) = mute kind.NewlineBodies (λ m t from to line b. quiet _ _ refl tt (λ i l e. l))

body_mute : (b : Option Body) → Mute (one_or kind.BodyNext kind.BodyLast b)
body_mute None = mute kind.BodyLast (λ m t from to line b. quiet _ _ refl tt (λ i l e. l))
body_mute (Some b) = mute kind.BodyNext (λ m t from to line b. quiet _ _ refl tt (λ i l e. l))

taken_fine : (m : Mode) (text : List ℕ) (one empty : Kind) (t : Token) (n : Seen) → n ≡ record { kind = one_or one empty n.body; token = t; body = n.body } → ((b : Option Body) → Mute (one_or one empty b))
    → (t.to ≤ length text) ⊎ (t.to ≡ t.from) → Fine m text n
taken_fine m text one empty t n e h w = fine_by m text n (one_or one empty n.body) t (ap (λ (k : Seen). k.kind) e) (ap (λ (k : Seen). k.token) e) (h n.body) w

ends_body_fine : (m : Mode) (text : List ℕ) (t : Token) (n : Seen) {s s' : State} {r : Answer} → r ≡ Ok n → (t.to ≤ length text) ⊎ (t.to ≡ t.from) → EndsBody s t r s' → Fine m text n
ends_body_fine m text t n f w (outside e) = fine_without m text n kind.End t (sym f) end_mute w
ends_body_fine m text t n {s} {s'} {r} f w (inside more below e h) =
    taken_fine m text kind.BodyNext kind.BodyLast t n (subst (λ x. TakesBody kind.BodyNext kind.BodyLast (record s { source = below; outer = more }) t x s') f h).2 body_mute w

ends_by_fine : (m : Mode) (text : List ℕ) (t : Token) (n : Seen) (s s' : State) → (t.to ≤ length text) ⊎ (t.to ≡ t.from) → EndsBy m s t (Ok n) s' → Fine m text n
ends_by_fine mode.Body text t n s s' w h = ends_body_fine mode.Body text t n refl w h
ends_by_fine mode.Command text t n s s' w h = fine_without mode.Command text n kind.End t h.0 end_mute w
ends_by_fine mode.Pattern text t n s s' w h = fine_without mode.Pattern text n kind.End t h.0 end_mute w
ends_by_fine mode.Condition text t n s s' w h = fine_without mode.Condition text n kind.End t h.0 end_mute w
ends_by_fine mode.Value text t n s s' w h = fine_without mode.Value text n kind.End t h.0 end_mute w
ends_by_fine mode.Word text t n s s' w h = fine_without mode.Word text n kind.End t h.0 end_mute w
ends_by_fine mode.Quoted text t n s s' w h = fine_without mode.Quoted text n kind.End t h.0 end_mute w
ends_by_fine mode.Group text t n s s' w h = fine_without mode.Group text n kind.End t h.0 end_mute w
ends_by_fine mode.Brace text t n s s' w h = fine_without mode.Brace text n kind.End t h.0 end_mute w
ends_by_fine mode.Colon text t n s s' w h = fine_without mode.Colon text n kind.End t h.0 end_mute w
ends_by_fine mode.Slash text t n s s' w h = fine_without mode.Slash text n kind.End t h.0 end_mute w
ends_by_fine mode.Subscript text t n s s' w h = fine_without mode.Subscript text n kind.End t h.0 end_mute w
ends_by_fine mode.Arithmetic text t n s s' w h = fine_without mode.Arithmetic text n kind.End t h.0 end_mute w
ends_by_fine mode.LoopArithmetic text t n s s' w h = fine_without mode.LoopArithmetic text n kind.End t h.0 end_mute w
ends_by_fine mode.Parentheses text t n s s' w h = fine_without mode.Parentheses text n kind.End t h.0 end_mute w
ends_by_fine mode.Parameter text t n s s' w h = fine_without mode.Parameter text n kind.End t h.0 end_mute w
ends_by_fine mode.Form text t n s s' w h = fine_without mode.Form text n kind.End t h.0 end_mute w
ends_by_fine mode.Target text t n s s' w h = fine_without mode.Target text n kind.End t h.0 end_mute w

ends_fine : (f : Option SyntaxFault) (m : Mode) (text : List ℕ) (t : Token) (n : Seen) (s s' : State) → (t.to ≤ length text) ⊎ (t.to ≡ t.from) → Ends f m s t (Ok n) s' → Fine m text n
ends_fine None m text t n s s' w h = ends_by_fine m text t n s s' w h
ends_fine (Some f) m text t n s s' w h = absurd (let e : (let x : Answer = Ok n in x ≡ Err f) = h.0 in cc)

backquote_fine : (inside between word : Bool) (m : Mode) (text : List ℕ) (t : Token) (n : Seen) → (let x : Answer = Ok n in x ≡ Ok (backquote inside between word t)) → (t.to ≤ length text) ⊎ (t.to ≡ t.from) → Fine m text n
backquote_fine true true word m text t n e w = fine_without m text n kind.Backquote t e backquote_mute w
backquote_fine true false true m text t n e w = fine_without m text n kind.WordEnd (empty_token token.WordEnd t.from) e word_end_mute (inr refl)
backquote_fine true false false m text t n e w = fine_without m text n kind.End t e end_mute w
backquote_fine false true word m text t n e w = fine_without m text n kind.Start (empty_token token.Start t.from) e start_mute (inr refl)
backquote_fine false false word m text t n e w = fine_without m text n kind.Backquote t e backquote_mute w

own_fine : Spells → (s : Source) (m : Mode) (text : List ℕ) (at : ℕ) (t : Token) (n : Seen) → Tok (lex_mode s m) text at t → (let x : Answer = Ok n in x ≡ Ok (without_body (kind_of text m t) t)) → Fine m text n
own_fine told s m text at t n tok e =
    subst (λ j. Fine m text j) (same_seen n (without_body (kind_of text m t) t) e)
    (record { within = (found (lex_mode s m) text at t tok).within; fits = λ line. token_fits told s m text at t line tok })

bare_fine : (goes : Bool) → Spells → (s : Source) (m : Mode) (text : List ℕ) (at : ℕ) (t : Token) (n : Seen) → Tok (lex_mode s m) text at t → (let x : Answer = Ok n in x ≡ Ok (bare_word goes text m t)) → Fine m text n
bare_fine true told s m text at t n tok e =
    let u : Token = empty_token token.Start t.from in
    subst (λ j. Fine m text j) (same_seen n (without_body (kind_of text m u) u) e)
    (record { within = inr refl; fits = λ line. kind_fits s m (drop u.from text) (slice_get text u.to) token.Start u.from u.to line (bytes_between text u.from u.to) refl refl })
bare_fine false told s m text at t n tok e = own_fine told s m text at t n tok e

by_fine : (k : TokenKind) → Spells → (s : State) (m : Mode) (t : Token) (n : Seen) (s' : State) → Tok (lex_mode s.source m) s.source.lexer.0 s.source.lexer.1 t → SeesBy (role_of k) m (at_place s t.to) t (Ok n) s' → Fine m (text_of s) n
by_fine token.Newline told s m t n s' tok h = taken_fine m (text_of s) kind.NewlineBodies kind.Newline t n h.2 newline_mute (found (lex_mode s.source m) (text_of s) s.source.lexer.1 t tok).within
by_fine token.End told s m t n s' tok h = ends_fine _ m (text_of s) t n (at_place s t.to) s' (found (lex_mode s.source m) (text_of s) s.source.lexer.1 t tok).within h
by_fine token.Backquote told s m t n s' tok h =
    backquote_fine (in_backquotes s.source.openings) (seeing.is_between m) (is_word m) m (text_of s) t n h.0 (found (lex_mode s.source m) (text_of s) s.source.lexer.1 t tok).within
by_fine token.Bare told s m t n s' tok h = bare_fine (goes_on (at_place s t.to) t.to) told s.source m (text_of s) s.source.lexer.1 t n tok h.0
by_fine (token.Operator o) told s m t n s' tok h = own_fine told s.source m (text_of s) s.source.lexer.1 t n tok h.0
by_fine (token.Redirect r d) told s m t n s' tok h = own_fine told s.source m (text_of s) s.source.lexer.1 t n tok h.0
by_fine token.Start told s m t n s' tok h = own_fine told s.source m (text_of s) s.source.lexer.1 t n tok h.0
by_fine token.Element told s m t n s' tok h = own_fine told s.source m (text_of s) s.source.lexer.1 t n tok h.0
by_fine token.Key told s m t n s' tok h = own_fine told s.source m (text_of s) s.source.lexer.1 t n tok h.0
by_fine token.WordEnd told s m t n s' tok h = own_fine told s.source m (text_of s) s.source.lexer.1 t n tok h.0
by_fine token.Plain told s m t n s' tok h = own_fine told s.source m (text_of s) s.source.lexer.1 t n tok h.0
by_fine token.Joined told s m t n s' tok h = own_fine told s.source m (text_of s) s.source.lexer.1 t n tok h.0
by_fine token.Escaped told s m t n s' tok h = own_fine told s.source m (text_of s) s.source.lexer.1 t n tok h.0
by_fine token.Single told s m t n s' tok h = own_fine told s.source m (text_of s) s.source.lexer.1 t n tok h.0
by_fine (token.Ansi at) told s m t n s' tok h = own_fine told s.source m (text_of s) s.source.lexer.1 t n tok h.0
by_fine token.OpenQuote told s m t n s' tok h = own_fine told s.source m (text_of s) s.source.lexer.1 t n tok h.0
by_fine token.CloseQuote told s m t n s' tok h = own_fine told s.source m (text_of s) s.source.lexer.1 t n tok h.0
by_fine (token.Expand at) told s m t n s' tok h = own_fine told s.source m (text_of s) s.source.lexer.1 t n tok h.0
by_fine token.OpenParameter told s m t n s' tok h = own_fine told s.source m (text_of s) s.source.lexer.1 t n tok h.0
by_fine token.OpenSubstitution told s m t n s' tok h = own_fine told s.source m (text_of s) s.source.lexer.1 t n tok h.0
by_fine token.OpenArithmetic told s m t n s' tok h = own_fine told s.source m (text_of s) s.source.lexer.1 t n tok h.0
by_fine token.Dollar told s m t n s' tok h = own_fine told s.source m (text_of s) s.source.lexer.1 t n tok h.0
by_fine token.Open told s m t n s' tok h = own_fine told s.source m (text_of s) s.source.lexer.1 t n tok h.0
by_fine token.Close told s m t n s' tok h = own_fine told s.source m (text_of s) s.source.lexer.1 t n tok h.0
by_fine token.Separator told s m t n s' tok h = own_fine told s.source m (text_of s) s.source.lexer.1 t n tok h.0
by_fine token.Length told s m t n s' tok h = own_fine told s.source m (text_of s) s.source.lexer.1 t n tok h.0
by_fine token.Target told s m t n s' tok h = own_fine told s.source m (text_of s) s.source.lexer.1 t n tok h.0
by_fine token.Name told s m t n s' tok h = own_fine told s.source m (text_of s) s.source.lexer.1 t n tok h.0
by_fine token.Digits told s m t n s' tok h = own_fine told s.source m (text_of s) s.source.lexer.1 t n tok h.0
by_fine token.Special told s m t n s' tok h = own_fine told s.source m (text_of s) s.source.lexer.1 t n tok h.0
by_fine (token.Form f) told s m t n s' tok h = own_fine told s.source m (text_of s) s.source.lexer.1 t n tok h.0
by_fine (token.Items joined) told s m t n s' tok h = own_fine told s.source m (text_of s) s.source.lexer.1 t n tok h.0
by_fine (token.Member at) told s m t n s' tok h = own_fine told s.source m (text_of s) s.source.lexer.1 t n tok h.0
by_fine token.Prefix told s m t n s' tok h = own_fine told s.source m (text_of s) s.source.lexer.1 t n tok h.0
by_fine token.Assign told s m t n s' tok h = own_fine told s.source m (text_of s) s.source.lexer.1 t n tok h.0
by_fine token.AddAssign told s m t n s' tok h = own_fine told s.source m (text_of s) s.source.lexer.1 t n tok h.0
by_fine token.Otherwise told s m t n s' tok h = own_fine told s.source m (text_of s) s.source.lexer.1 t n tok h.0

seen_fine_by : Spells → (s : State) (m : Mode) (n : Seen) {r : Answer} {s' : State} → r ≡ Ok n → Sees s m r s' → Fine m (text_of s) n
seen_fine_by told s m n {r} {s'} e (lexed t tok h) = by_fine t.kind told s m t n s' tok (subst (λ x. SeesBy (role_of t.kind) m (at_place s t.to) t x s') e h)
seen_fine_by told s m n e (seeing.refused f h) = absurd cc

pub seen_fine : Spells → (s : State) (m : Mode) (n : Seen) (s' : State) → Sees s m (Ok n) s' → Fine m (text_of s) n
seen_fine told s m n s' h = seen_fine_by told s m n refl h

-- ---- sources

-- it stands in front of the rest of the text
pub record IsFront (text source : List ℕ) : Type 0 where
  pub rest : List ℕ
  pub whole : source ++ rest ≡ text

pub itself : (text : List ℕ) → IsFront text text
itself text = record { rest = []; whole = append-nil text }

shorter : (text source : List ℕ) (n : ℕ) → IsFront text source → IsFront text (take n source)
shorter text source n h = record {
  rest = drop n source ++ h.rest;
  whole = sym (append_assoc (take n source) (drop n source) h.rest) ∙ ap (λ xs. xs ++ h.rest) (take-append-drop n source) ∙ h.whole;
}

no_bytes : (text : List ℕ) (from to : ℕ) → to - from ≡ 0 → bytes_between text from to ≡ []
no_bytes text from to e = ap (λ n. take n (drop from text)) e

within_front : (source rest : List ℕ) (from to : ℕ) → from < to → to ≤ length source → bytes_between (source ++ rest) from to ≡ bytes_between source from to
within_front source rest from to low high =
    let long : length (drop from source) ≡ length source - from = length-drop from source in
    ap (λ xs. take (to - from) xs) (drop-append-le from source rest (omega (arith, low, high)))
    ∙ take-append-le (to - from) (drop from source) rest (omega (arith, long, low, high))

-- bytes of a source are those of the text
pub same_bytes : (text source : List ℕ) (from to : ℕ) → IsFront text source → (to ≤ length source) ⊎ (to ≡ from) → bytes_between source from to ≡ bytes_between text from to
same_bytes text source from to h (inr e) = let none : to - from ≡ 0 = omega (arith, e) in no_bytes source from to none ∙ sym (no_bytes text from to none)
same_bytes text source from to h (inl le) =
    elim (cases_lt from to) as (λ _. bytes_between source from to ≡ bytes_between text from to) [
      | inl lt ↦ sym (within_front source h.rest from to lt le) ∙ ap (λ xs. bytes_between xs from to) h.whole
      | inr ge ↦ (let none : to - from ≡ 0 = omega (arith, ge) in no_bytes source from to none ∙ sym (no_bytes text from to none))
    ]

abbrev pub FrontSource : List ℕ → Source → Type 0
FrontSource text s = IsFront text s.lexer.0

-- the source that is read, and those outside it
pub record Stands (text : List ℕ) (s : State) : Type 0 where
  pub own : IsFront text (text_of s)
  pub outer : All (FrontSource text) s.outer

pub stands_start : (text : List ℕ) → Stands text (start text)
stands_start text = record { own = itself text; outer = All-nil (FrontSource text) }

moved : (text : List ℕ) (s : State) (at : ℕ) → Stands text s → Stands text (at_place s at)
moved text s at h = record { own = h.own; outer = h.outer }

moves : (text : List ℕ) (s s' : State) (at : ℕ) → s' ≡ at_place s at → Stands text s → Stands text s'
moves text s s' at e h = subst (λ z. Stands text z) (sym e) (moved text s at h)

-- where a body was taken, the text is the same
same_text : (old new : Lexing) (hs : List HereDocument) (b : Option Body) → TakesFrom old new hs b → new.0 ≡ old.0
same_text old new [] None h = ap (λ (l : Lexing). l.0) h
same_text old new [] (Some b) h = absurd h
same_text old new (x ∷ hs) None h = absurd h
same_text old new (x ∷ hs) (Some b) h = ap (λ (l : Lexing). l.0) h.1

lexing_stands : (text : List ℕ) (s : State) (l : Lexing) → l.0 ≡ text_of s → Stands text s → Stands text (with_lexing s l)
lexing_stands text s l e h = record { own = subst (λ xs. IsFront text xs) (sym e) h.own; outer = h.outer }

taken_stands : (text : List ℕ) (one empty : Kind) (s : State) (t : Token) (n : Seen) (s' : State) → TakesBody one empty s t (Ok n) s' → Stands text s → Stands text s'
taken_stands text one empty s t n s' h w =
    subst (λ z. Stands text z) (sym h.1) (lexing_stands text s s'.source.lexer (same_text s.source.lexer s'.source.lexer s.source.lexer.2 n.body h.0) w)

below_stands : (text : List ℕ) (s : State) (more : List Source) (below : Source) → s.outer ≡ more ++ below ∷ [] → Stands text s → Stands text (record s { source = below; outer = more })
below_stands text s more below e h =
    let two = All-pop (FrontSource text) s.outer more (Some below) e h.outer in
    record { own = two.1; outer = two.0 }

ends_body_stands : (text : List ℕ) (t : Token) (n : Seen) {s s' : State} {r : Answer} → r ≡ Ok n → EndsBody s t r s' → Stands text s → Stands text s'
ends_body_stands text t n f (outside e) w = w
ends_body_stands text t n {s} {s'} {r} f (inside more below e h) w =
    taken_stands text kind.BodyNext kind.BodyLast (record s { source = below; outer = more }) t n s'
    (subst (λ x. TakesBody kind.BodyNext kind.BodyLast (record s { source = below; outer = more }) t x s') f h) (below_stands text s more below e w)

same_stands : (text : List ℕ) (s s' : State) → s' ≡ s → Stands text s → Stands text s'
same_stands text s s' e h = subst (λ z. Stands text z) (sym e) h

ends_by_stands : (m : Mode) (text : List ℕ) (t : Token) (n : Seen) (s s' : State) → EndsBy m s t (Ok n) s' → Stands text s → Stands text s'
ends_by_stands mode.Body text t n s s' h w = ends_body_stands text t n refl h w
ends_by_stands mode.Command text t n s s' h w = same_stands text s s' h.1 w
ends_by_stands mode.Pattern text t n s s' h w = same_stands text s s' h.1 w
ends_by_stands mode.Condition text t n s s' h w = same_stands text s s' h.1 w
ends_by_stands mode.Value text t n s s' h w = same_stands text s s' h.1 w
ends_by_stands mode.Word text t n s s' h w = same_stands text s s' h.1 w
ends_by_stands mode.Quoted text t n s s' h w = same_stands text s s' h.1 w
ends_by_stands mode.Group text t n s s' h w = same_stands text s s' h.1 w
ends_by_stands mode.Brace text t n s s' h w = same_stands text s s' h.1 w
ends_by_stands mode.Colon text t n s s' h w = same_stands text s s' h.1 w
ends_by_stands mode.Slash text t n s s' h w = same_stands text s s' h.1 w
ends_by_stands mode.Subscript text t n s s' h w = same_stands text s s' h.1 w
ends_by_stands mode.Arithmetic text t n s s' h w = same_stands text s s' h.1 w
ends_by_stands mode.LoopArithmetic text t n s s' h w = same_stands text s s' h.1 w
ends_by_stands mode.Parentheses text t n s s' h w = same_stands text s s' h.1 w
ends_by_stands mode.Parameter text t n s s' h w = same_stands text s s' h.1 w
ends_by_stands mode.Form text t n s s' h w = same_stands text s s' h.1 w
ends_by_stands mode.Target text t n s s' h w = same_stands text s s' h.1 w

ends_stands : (f : Option SyntaxFault) (m : Mode) (text : List ℕ) (t : Token) (n : Seen) (s s' : State) → Ends f m s t (Ok n) s' → Stands text s → Stands text s'
ends_stands None m text t n s s' h w = ends_by_stands m text t n s s' h w
ends_stands (Some f) m text t n s s' h w = same_stands text s s' h.1 w

by_stands : (k : TokenKind) (text : List ℕ) (s : State) (m : Mode) (t : Token) (n : Seen) (s' : State) → SeesBy (role_of k) m s t (Ok n) s' → Stands text s → Stands text s'
by_stands token.Newline text s m t n s' h w = taken_stands text kind.NewlineBodies kind.Newline s t n s' h w
by_stands token.End text s m t n s' h w = ends_stands _ m text t n s s' h w
by_stands token.Backquote text s m t n s' h w = moves text s s' _ h.1 w
by_stands token.Bare text s m t n s' h w = moves text s s' _ h.1 w
by_stands (token.Operator o) text s m t n s' h w = same_stands text s s' h.1 w
by_stands (token.Redirect r d) text s m t n s' h w = same_stands text s s' h.1 w
by_stands token.Start text s m t n s' h w = same_stands text s s' h.1 w
by_stands token.Element text s m t n s' h w = same_stands text s s' h.1 w
by_stands token.Key text s m t n s' h w = same_stands text s s' h.1 w
by_stands token.WordEnd text s m t n s' h w = same_stands text s s' h.1 w
by_stands token.Plain text s m t n s' h w = same_stands text s s' h.1 w
by_stands token.Joined text s m t n s' h w = same_stands text s s' h.1 w
by_stands token.Escaped text s m t n s' h w = same_stands text s s' h.1 w
by_stands token.Single text s m t n s' h w = same_stands text s s' h.1 w
by_stands (token.Ansi at) text s m t n s' h w = same_stands text s s' h.1 w
by_stands token.OpenQuote text s m t n s' h w = same_stands text s s' h.1 w
by_stands token.CloseQuote text s m t n s' h w = same_stands text s s' h.1 w
by_stands (token.Expand at) text s m t n s' h w = same_stands text s s' h.1 w
by_stands token.OpenParameter text s m t n s' h w = same_stands text s s' h.1 w
by_stands token.OpenSubstitution text s m t n s' h w = same_stands text s s' h.1 w
by_stands token.OpenArithmetic text s m t n s' h w = same_stands text s s' h.1 w
by_stands token.Dollar text s m t n s' h w = same_stands text s s' h.1 w
by_stands token.Open text s m t n s' h w = same_stands text s s' h.1 w
by_stands token.Close text s m t n s' h w = same_stands text s s' h.1 w
by_stands token.Separator text s m t n s' h w = same_stands text s s' h.1 w
by_stands token.Length text s m t n s' h w = same_stands text s s' h.1 w
by_stands token.Target text s m t n s' h w = same_stands text s s' h.1 w
by_stands token.Name text s m t n s' h w = same_stands text s s' h.1 w
by_stands token.Digits text s m t n s' h w = same_stands text s s' h.1 w
by_stands token.Special text s m t n s' h w = same_stands text s s' h.1 w
by_stands (token.Form f) text s m t n s' h w = same_stands text s s' h.1 w
by_stands (token.Items joined) text s m t n s' h w = same_stands text s s' h.1 w
by_stands (token.Member at) text s m t n s' h w = same_stands text s s' h.1 w
by_stands token.Prefix text s m t n s' h w = same_stands text s s' h.1 w
by_stands token.Assign text s m t n s' h w = same_stands text s s' h.1 w
by_stands token.AddAssign text s m t n s' h w = same_stands text s s' h.1 w
by_stands token.Otherwise text s m t n s' h w = same_stands text s s' h.1 w

seen_stands_by : (text : List ℕ) (s : State) (m : Mode) (n : Seen) {r : Answer} {s' : State} → r ≡ Ok n → Sees s m r s' → Stands text s → Stands text s'
seen_stands_by text s m n {r} {s'} e (lexed t tok h) w =
    by_stands t.kind text (at_place s t.to) m t n s' (subst (λ x. SeesBy (role_of t.kind) m (at_place s t.to) t x s') e h) (moved text s t.to w)
seen_stands_by text s m n e (seeing.refused f h) w = absurd cc

pub seen_stands : (text : List ℕ) (s : State) (m : Mode) (n : Seen) (s' : State) → Sees s m (Ok n) s' → Stands text s → Stands text s'
seen_stands text s m n s' h w = seen_stands_by text s m n refl h w

-- behind a token the text is the same
awaits_on : (o : Option (HereOperator × List ℕ)) (l : Lexing) → (awaiting o l).0 ≡ l.0
awaits_on None l = refl
awaits_on (Some w) l = refl

enters : (text : List ℕ) (b : Option Body) (s : State) → Stands text s → Stands text (entered b s)
enters text None s w = w
enters text (Some b) s w = record { own = shorter text (text_of s) b.to w.own; outer = All-push (FrontSource text) s.outer s.source w.outer w.own }

pub stands_on : (text : List ℕ) (s : State) (n : Seen) (marks : List Mark) → Stands text s → Stands text (after s n marks)
stands_on text s n marks w =
    enters text n.body _ (record { own = subst (λ xs. IsFront text xs) (sym (awaits_on _ s.source.lexer)) w.own; outer = w.outer })
