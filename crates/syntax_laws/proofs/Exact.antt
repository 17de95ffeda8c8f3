-- A text is a script or has one fault.
use Rattle.std.specs.Prelude.{◌≡◌, ℕ, zero, suc, ◌⊎◌, Bool, true, false, ◌&&◌, List, [], ◌∷◌, ◌++◌, map, reverse, slice_get, Option, Some, None, Result, Ok, Err}
use Rattle.std.proofs.Common.{refl, sym, ◌∙◌, ap, subst, append_assoc, append-nil, arith, inl, inr}
use Rattle.std.proofs.lemmas.Bool.{eqb-true}
use Rattle.ksh_grammar.specs.declared.symbol.Place.{Place}
use Rattle.ksh_grammar.specs.declared.symbol.Place.TheVariants as place
use Rattle.ksh_grammar.specs.declared.symbol.Symbol.TheVariants as symbol
use Rattle.ksh_grammar.specs.Grammar.{nothing, token, part, action}
use Rattle.ksh_grammar.specs.Rules.{IsRuleOf, at}
use Rattle.ksh_grammar.proofs.Begins.{and_right}
use Rattle.ksh_lexer.specs.declared.fault.SyntaxFault.{SyntaxFault}
use Rattle.ksh_lexer.specs.declared.fault.SyntaxKind.TheVariants as fault
use Rattle.ksh_lexer.specs.declared.kind.TokenKind.{TokenKind}
use Rattle.ksh_lexer.specs.declared.kind.TokenKind.TheVariants as kinds_of_token
use Rattle.ksh_lexer.specs.Place.{fault_at}
use Rattle.ksh_syntax.specs.declared.kind.Kind.{Kind}
use Rattle.ksh_syntax.specs.declared.kind.Kind.TheVariants as kind
use Rattle.ksh_syntax.specs.declared.kind.Mode.{Mode}
use Rattle.ksh_syntax.specs.declared.kind.Mode.TheVariants as mode
use Rattle.ksh_syntax.specs.declared.part.Mark.{Mark}
use Rattle.ksh_syntax.specs.declared.part.Part as declared
use Rattle.ksh_syntax.specs.declared.part.Part.TheVariants as parts
use Rattle.ksh_syntax.specs.declared.part.Terminal.{Terminal}
use Rattle.ksh_syntax.specs.declared.part.Terminal.TheVariants.{One}
use Rattle.ksh_syntax.specs.declared.part.Ending.TheVariants as ending
use Rattle.ksh_syntax.specs.Rules.{rules}
use Rattle.ksh_syntax.specs.Sentences.{Decides, Event, HasRead, IsLive, IsLiveWithin, IsScript, MayCome, Tells, Token, anywhere, script, within_limit}
use Rattle.ksh_syntax.specs.Steps.{Left}
use Rattle.ksh_syntax.specs.Takes.{kind_number, same_kind, takes, takes_in}
use Rattle.ksh_syntax.proofs.Ends.{completed}
use Rattle.ksh_syntax.proofs.Everything.{kind_at, kinds}
use Rattle.ksh_syntax.proofs.Laws.{nothing_read}
use Rattle.ksh_scan.specs.declared.see.Seen.{Seen}
use Rattle.ksh_scan.specs.declared.state.State.{State}
use Rattle.ksh_scan.specs.Arithmetic.{Told, bad_arithmetic}
use Rattle.ksh_scan.specs.Scan.{HasFault, IsFaultBehind, IsOnly, IsOpen, IsShallow, IsText, IsTold, IsToldBy, IsUnread, ends_text, first, long, no_expression, no_script, of_text, of_token, start, too_deep, unread_by, unread_kind, word_fault}
use Rattle.ksh_scan.specs.Seeing.{Sees, text_of}
use Rattle.syntax_laws.proofs.Forks.{grows}
use Rattle.syntax_laws.proofs.Paths.{Meets, Pass, Path, Run, ahead, behind, goes, meet, run_of, stays, told, token_of, tokens, tokens_on}
use Rattle.syntax_laws.proofs.Sights.{one_sight}

-- ---- the end of a text

-- a symbol that takes only the end of the text reads it
needs_end : {S : Left} {ts : List Token} {v x : List Event} (A B : Left) (c : Terminal) → ((t : Token) → (takes_in c t.0 && takes c t.1) ≡ true → ends_text t.1 ≡ true)
    → Tells anywhere S ts v x → S ≡ A ++ symbol.Token c ∷ B → IsOpen ts → ⊥
needs_end [] B c end nothing e more_text = cc
needs_end (a ∷ A) B c end nothing e more_text = cc
needs_end [] B c end (token {c = d} {t} taken h) e more_text =
    let same : d ≡ c = cc in
    let yes : ends_text t.1 ≡ true = end t (subst (λ z. (takes_in z t.0 && takes z t.1) ≡ true) same taken) in
    let no : ends_text t.1 ≡ false = more_text.0 in
    cc
needs_end (a ∷ A) B c end (token {symbols} taken h) e more_text = needs_end A B c end h (let f : symbols ≡ A ++ symbol.Token c ∷ B = cc in f) more_text.1
needs_end [] B c end (part m h) e more_text = cc
needs_end (a ∷ A) B c end (part {rule} {symbols} m h) e more_text =
    let f : symbols ≡ A ++ symbol.Token c ∷ B = cc in
    needs_end (rule ++ A) B c end h (ap (λ xs. rule ++ xs) f ∙ sym (append_assoc rule A (symbol.Token c ∷ B))) more_text
needs_end [] B c end (action h) e more_text = cc
needs_end (a ∷ A) B c end (action {symbols} h) e more_text = needs_end A B c end h (let f : symbols ≡ A ++ symbol.Token c ∷ B = cc in f) more_text

same_kinds : (k l : Kind) → same_kind k l ≡ true → k ≡ l
same_kinds k l h =
    let e = sym (kind_at k) ∙ ap (slice_get kinds) (eqb-true (kind_number k) (kind_number l) h) ∙ kind_at l in
    cc

only_end : (t : Token) → (takes_in (One mode.Command kind.End) t.0 && takes (One mode.Command kind.End) t.1) ≡ true → ends_text t.1 ≡ true
only_end t h =
    subst (λ k. ends_text k ≡ true) (same_kinds kind.End t.1 (and_right (takes_in (One mode.Command kind.End) t.0) (takes (One mode.Command kind.End) t.1) h)) refl

-- a script ends with the end of the text
ends_script : {S : Left} {ts : List Token} {v x : List Event} → Tells anywhere S ts v x → S ≡ script → IsOpen ts → ⊥
ends_script nothing e more_text = cc
ends_script (token taken h) e more_text = cc
ends_script (action h) e more_text = cc
ends_script (part {p} {d} {rule} {symbols} m h) e more_text =
    let is_script : p ≡ parts.Script = cc in
    let all : symbols ≡ [] = cc in
    let f = the_rule p d rule is_script m in
    needs_end (symbol.Part (parts.Lines ending.Operator) d ∷ []) [] (One mode.Command kind.End) only_end h (ap (λ xs. rule ++ xs) all ∙ append-nil rule ∙ f) more_text
  where
    the_first : (j : ℕ) (rule : List (Place Terminal declared.Part Mark)) → slice_get (rules parts.Script) j ≡ Some rule
        → rule ≡ place.Part (parts.Lines ending.Operator) ∷ place.Token (One mode.Command kind.End) ∷ []
    the_first zero rule e = cc
    the_first (suc j) rule e = absurd cc

    the_rule : (p : declared.Part) (d : ℕ) (rule : Left) → p ≡ parts.Script → IsRuleOf rules anywhere p d rule
        → rule ≡ symbol.Part (parts.Lines ending.Operator) d ∷ symbol.Token (One mode.Command kind.End) ∷ []
    the_rule p d rule e m = m.4 ∙ ap (map (at d)) (the_first m.0 m.1 (ap (λ q. slice_get (rules q) m.0) (sym e) ∙ m.2))

open_front : (xs ys : List Token) → IsOpen (xs ++ ys) → IsOpen xs
open_front [] ys h = tt
open_front (x ∷ xs) ys h = (h.0, open_front xs ys h.1)

-- ---- what was read can be completed

record Completion (front : List Token) (events : List Event) : Type 0 where
  more : List Token
  all : List Event
  told : List Event
  reads : Tells anywhere script (front ++ more) [] all
  is : all ≡ events ++ told

completion : (front : List Token) (left : Left) (events : List Event) → HasRead front left events → Completion front events
completion front left events h =
    let c = completed (reverse left) events in
    let g = grows c.2 in
    record { more = c.0; all = c.1; told = g.0; reads = h.rest.goes_on c.0 c.1 c.2; is = g.1 }

-- two readings of a text's tokens meet
runs_meet : {text : List ℕ} {s s' : State} {front front' : List Token} {events events' : List Event} (a : Run text s front events) (b : Run text s' front' events')
    → Completion front events → Completion front' events' → Meets s s' a.passes b.passes
runs_meet {text} a b c d =
    meet (start text) script a.passes b.passes c.more d.more [] c.told d.told c.all d.all nothing_read.fits a.path b.path
    (subst (λ xs. Tells anywhere script (xs ++ c.more) [] c.all) a.front_is c.reads) (c.is ∙ ap (λ es. es ++ c.told) a.events_is)
    (subst (λ xs. Tells anywhere script (xs ++ d.more) [] d.all) b.front_is d.reads) (d.is ∙ ap (λ es. es ++ d.told) b.events_is)

-- ---- what comes behind a fault's place

none_some : {X : Type 0} (x : X) → (let n : Option X = None in n ≡ Some x) → ⊥
none_some x e = cc

ok_err : (n : Seen) (f : SyntaxFault) → (let x : Result Seen SyntaxFault = Ok n in x ≡ Err f) → ⊥
ok_err n f e = cc

ok_ok : (n k : Seen) → (let x : Result Seen SyntaxFault = Ok n in x ≡ Ok k) → n ≡ k
ok_ok n k e = cc

err_err : (f g : SyntaxFault) → (let x : Result Seen SyntaxFault = Err f in x ≡ Err g) → f ≡ g
err_err f g e = cc

-- a fault of another kind than TooDeep, or few openings
abbrev Shallow : List Token → SyntaxFault → Type 0
Shallow ts f = (f.kind ≡ fault.TooDeep → ⊥) ⊎ IsLiveWithin ts

not_deep : (ts : List Token) (f : SyntaxFault) → Shallow ts f → (IsLiveWithin ts → ⊥) → f.kind ≡ fault.TooDeep → ⊥
not_deep ts f (inl other) deep is = other is
not_deep ts f (inr within) deep is = deep within

kind_deep : (s : State) (at : ℕ) (f : SyntaxFault) → f ≡ fault_at (text_of s) fault.TooDeep at → f.kind ≡ fault.TooDeep
kind_deep s at f e = ap (λ (g : SyntaxFault). g.kind) e

not_unread : {front : List Token} {s : State} {m : Mode} {n : Seen} {f : SyntaxFault} → IsUnread front s m n f → bad_arithmetic s m n ≡ None → IsLive (front ++ (m, n.kind) ∷ [])
    → Shallow (front ++ (m, n.kind) ∷ []) f → ⊥
not_unread (no_script x dead t e) fine live shallow = dead live
not_unread {front} {s} {m} {n} {f} (too_deep deep may e) fine live shallow = not_deep (front ++ (m, n.kind) ∷ []) f shallow deep (kind_deep s n.token.from f e)
not_unread (no_expression x may bad e) fine live shallow = none_some x (sym fine ∙ bad)

not_next : {front : List Token} {s s' : State} {f : SyntaxFault} (p : Pass) → IsFaultBehind front s f → Sees s p.mode (Ok p.seen) s' → bad_arithmetic s' p.mode p.seen ≡ None
    → IsLive (front ++ token_of p ∷ []) → Shallow (front ++ token_of p ∷ []) f → ⊥
not_next {front} {s} {s'} {f} p (of_text m a only sees) seen fine live shallow =
    let same : p.mode ≡ m = only p.mode p.seen.kind live in
    ok_err p.seen f (one_sight (subst (λ k. Sees s k (Ok p.seen) s') same seen) sees).0
not_next {front} {s} {s'} {f} p (of_token m n a only sees unread) seen fine live shallow =
    let same : p.mode ≡ m = only p.mode p.seen.kind live in
    let sight = one_sight (subst (λ k. Sees s k (Ok p.seen) s') same seen) sees in
    let now : p.seen ≡ n = ok_ok p.seen n sight.0 in
    let u : IsUnread front s' p.mode p.seen f =
    subst (λ k. IsUnread front s' k p.seen f) (sym same) (subst (λ x. IsUnread front s' m x f) (sym now) (subst (λ x. IsUnread front x m n f) (sym sight.1) unread)) in
    not_unread u fine live shallow

-- ---- a text with a fault is no script

split_front : (front all : List Token) (ps : List Pass) (p : Pass) (rest : List Pass) → front ≡ tokens ps → all ≡ tokens (ps ++ p ∷ rest) → all ≡ (front ++ token_of p ∷ []) ++ tokens rest
split_front front all ps p rest e f =
    f ∙ tokens_on ps (p ∷ rest) ∙ ap (λ xs. xs ++ token_of p ∷ tokens rest) (sym e) ∙ sym (append_assoc front (token_of p ∷ []) (tokens rest))

script_clash : {text : List ℕ} {s s' : State} {front front' : List Token} {events events' : List Event} {f : SyntaxFault} (a : Run text s front events) (b : Run text s' front' events')
    → IsOpen front → IsFaultBehind front s f → IsScript front' events' → IsShallow front' events' → (ps qs : List Pass) → a.passes ≡ ps → b.passes ≡ qs → Meets s s' ps qs → ⊥
script_clash {front} {front'} {events'} a b more_text bad is_script shallow ps qs e f (ahead [] g stays) =
    ends_script is_script refl
    (subst IsOpen (a.front_is ∙ ap tokens (e ∙ sym (append-nil ps) ∙ sym g ∙ sym f) ∙ sym b.front_is) more_text)
script_clash {front} {front'} {events'} a b more_text bad is_script shallow ps qs e f (ahead (p ∷ rest) g (goes _ _ sees fine path)) =
    let all : front' ≡ (front ++ token_of p ∷ []) ++ tokens rest =
    split_front front front' ps p rest (a.front_is ∙ ap tokens e) (b.front_is ∙ ap tokens (f ∙ g)) in
    not_next p bad sees fine
    (tokens rest, events', subst (λ xs. Tells anywhere script xs [] events') all is_script)
    (inr (tokens rest, events', subst (λ xs. Tells within_limit script xs [] events') all shallow))
script_clash {front} {front'} {events'} a b more_text bad is_script shallow ps qs e f (behind rest g path) =
    ends_script is_script refl
    (subst IsOpen (ap tokens (sym f) ∙ sym b.front_is) (open_front (tokens qs) (tokens rest) (subst IsOpen (a.front_is ∙ ap tokens (e ∙ g) ∙ tokens_on qs rest) more_text)))

script_complete : {front : List Token} {events : List Event} → IsScript front events → Completion front events
script_complete {front} {events} h =
    record { more = []; all = events; told = []; reads = subst (λ xs. Tells anywhere script xs [] events) (sym (append-nil front)) h; is = sym (append-nil events) }

pub not_both : (text : List ℕ) (f : SyntaxFault) → IsText text → HasFault text f → ⊥
not_both text f t (long h e) = omega (arith, t.0, h)
not_both text f t (first s front events left size spelled more_text live read bad) =
    let a = run_of spelled in
    let b = run_of t.4 in
    script_clash a b more_text bad t.5 t.6 a.passes b.passes refl refl (runs_meet a b (completion front left events read) (script_complete t.5))

-- ---- a text has one fault

decides_one : (b c : Bool) (A : Type 0) → Decides b A → Decides c A → b ≡ c
decides_one true true A x y = refl
decides_one true false A x y = absurd (y x)
decides_one false true A x y = absurd (x y)
decides_one false false A x y = refl

-- the fault of a word
abbrev IsToldWord : List Token → State → Seen → Told → Type 0
IsToldWord front s n told = (names : Bool) × (others : Bool) × (assignments : Bool)
    × Decides names (MayCome front kind.Name) × Decides others (MayCome front kind.Other) × Decides assignments (MayCome front kind.Assignment)
    × (told ≡ word_fault names others assignments n.kind n.token.from)

word_one : (front : List Token) (s : State) (n : Seen) (x y : Told) → IsToldWord front s n x → IsToldWord front s n y → x ≡ y
word_one front s n x y a b =
    a.6
    ∙ ap (λ t. word_fault t a.1 a.2 n.kind n.token.from) (decides_one a.0 b.0 (MayCome front kind.Name) a.3 b.3)
    ∙ ap (λ t. word_fault b.0 t a.2 n.kind n.token.from) (decides_one a.1 b.1 (MayCome front kind.Other) a.4 b.4)
    ∙ ap (λ t. word_fault b.0 b.1 t n.kind n.token.from) (decides_one a.2 b.2 (MayCome front kind.Assignment) a.5 b.5)
    ∙ sym b.6

told_by_kind : (k : Kind) (front : List Token) (s : State) (n : Seen) (x y : Told) → IsToldBy (unread_kind k) front s n x → IsToldBy (unread_kind k) front s n y → x ≡ y
told_by_kind kind.End front s n x y a b = a ∙ sym b
told_by_kind kind.Newline front s n x y a b = a ∙ sym b
told_by_kind kind.NewlineBodies front s n x y a b = a ∙ sym b
told_by_kind kind.Semicolon front s n x y a b = a ∙ sym b
told_by_kind kind.DoubleSemicolon front s n x y a b = a ∙ sym b
told_by_kind kind.SemicolonAmpersand front s n x y a b = a ∙ sym b
told_by_kind kind.AndIf front s n x y a b = a ∙ sym b
told_by_kind kind.OrIf front s n x y a b = a ∙ sym b
told_by_kind kind.Bar front s n x y a b = a ∙ sym b
told_by_kind kind.BarAmpersand front s n x y a b = a ∙ sym b
told_by_kind kind.Ampersand front s n x y a b = a ∙ sym b
told_by_kind kind.DoubleParenthesis front s n x y a b = a ∙ sym b
told_by_kind kind.Open front s n x y a b = a ∙ sym b
told_by_kind kind.Close front s n x y a b = a ∙ sym b
told_by_kind kind.Backquote front s n x y a b = a ∙ sym b
told_by_kind kind.Redirect front s n x y a b = a ∙ sym b
told_by_kind kind.HereRedirect front s n x y a b = a ∙ sym b
told_by_kind kind.Order front s n x y a b = a ∙ sym b
told_by_kind kind.Start front s n x y a b = word_one front s n x y a b
told_by_kind kind.StartAssignment front s n x y a b = word_one front s n x y a b
told_by_kind kind.Element front s n x y a b = word_one front s n x y a b
told_by_kind kind.ValueOpen front s n x y a b = word_one front s n x y a b
told_by_kind kind.Key front s n x y a b = a ∙ sym b
told_by_kind kind.If front s n x y a b = word_one front s n x y a b
told_by_kind kind.Then front s n x y a b = word_one front s n x y a b
told_by_kind kind.Else front s n x y a b = word_one front s n x y a b
told_by_kind kind.Elif front s n x y a b = word_one front s n x y a b
told_by_kind kind.Fi front s n x y a b = word_one front s n x y a b
told_by_kind kind.Case front s n x y a b = word_one front s n x y a b
told_by_kind kind.Esac front s n x y a b = word_one front s n x y a b
told_by_kind kind.For front s n x y a b = word_one front s n x y a b
told_by_kind kind.While front s n x y a b = word_one front s n x y a b
told_by_kind kind.Until front s n x y a b = word_one front s n x y a b
told_by_kind kind.Do front s n x y a b = word_one front s n x y a b
told_by_kind kind.Done front s n x y a b = word_one front s n x y a b
told_by_kind kind.LeftBrace front s n x y a b = word_one front s n x y a b
told_by_kind kind.RightBrace front s n x y a b = word_one front s n x y a b
told_by_kind kind.Function front s n x y a b = word_one front s n x y a b
told_by_kind kind.Select front s n x y a b = word_one front s n x y a b
told_by_kind kind.LeftBrackets front s n x y a b = word_one front s n x y a b
told_by_kind kind.Bang front s n x y a b = word_one front s n x y a b
told_by_kind kind.RightBrackets front s n x y a b = word_one front s n x y a b
told_by_kind kind.In front s n x y a b = word_one front s n x y a b
told_by_kind kind.Time front s n x y a b = word_one front s n x y a b
told_by_kind kind.Namespace front s n x y a b = word_one front s n x y a b
told_by_kind kind.Typeset front s n x y a b = word_one front s n x y a b
told_by_kind kind.Unary front s n x y a b = word_one front s n x y a b
told_by_kind kind.Binary front s n x y a b = word_one front s n x y a b
told_by_kind kind.Name front s n x y a b = word_one front s n x y a b
told_by_kind kind.Dotted front s n x y a b = word_one front s n x y a b
told_by_kind kind.Assignment front s n x y a b = word_one front s n x y a b
told_by_kind kind.Other front s n x y a b = word_one front s n x y a b
told_by_kind kind.Plain front s n x y a b = a ∙ sym b
told_by_kind kind.Joined front s n x y a b = a ∙ sym b
told_by_kind kind.Escaped front s n x y a b = a ∙ sym b
told_by_kind kind.Single front s n x y a b = a ∙ sym b
told_by_kind kind.Ansi front s n x y a b = a ∙ sym b
told_by_kind kind.OpenQuote front s n x y a b = a ∙ sym b
told_by_kind kind.Expand front s n x y a b = a ∙ sym b
told_by_kind kind.OpenParameter front s n x y a b = a ∙ sym b
told_by_kind kind.OpenCurrent front s n x y a b = a ∙ sym b
told_by_kind kind.OpenSubstitution front s n x y a b = a ∙ sym b
told_by_kind kind.OpenArithmetic front s n x y a b = a ∙ sym b
told_by_kind kind.Dollar front s n x y a b = a ∙ sym b
told_by_kind kind.Separator front s n x y a b = a ∙ sym b
told_by_kind kind.WordEnd front s n x y a b = a ∙ sym b
told_by_kind kind.CloseQuote front s n x y a b = a ∙ sym b
told_by_kind kind.BodyNext front s n x y a b = a ∙ sym b
told_by_kind kind.BodyLast front s n x y a b = a ∙ sym b
told_by_kind kind.Length front s n x y a b = a ∙ sym b
told_by_kind kind.Target front s n x y a b = a ∙ sym b
told_by_kind kind.Digits front s n x y a b = a ∙ sym b
told_by_kind kind.Special front s n x y a b = a ∙ sym b
told_by_kind kind.Items front s n x y a b = a ∙ sym b
told_by_kind kind.Member front s n x y a b = a ∙ sym b
told_by_kind kind.Prefix front s n x y a b = a ∙ sym b
told_by_kind kind.Instead front s n x y a b = a ∙ sym b
told_by_kind kind.Cut front s n x y a b = a ∙ sym b
told_by_kind kind.Slice front s n x y a b = a ∙ sym b
told_by_kind kind.Replace front s n x y a b = a ∙ sym b
told_by_kind kind.Assign front s n x y a b = a ∙ sym b
told_by_kind kind.AddAssign front s n x y a b = a ∙ sym b
told_by_kind kind.Otherwise front s n x y a b = a ∙ sym b

-- the same thing seen, of that kind of token
abbrev of_kind : TokenKind → Seen → Seen
of_kind k n = record n { token = record n.token { kind = k } }

told_by_token : (k : TokenKind) (front : List Token) (s : State) (n : Seen) (x y : Told) → IsToldBy (unread_by (of_kind k n)) front s n x → IsToldBy (unread_by (of_kind k n)) front s n y → x ≡ y
told_by_token kinds_of_token.End front s n x y a b = a ∙ sym b
told_by_token kinds_of_token.Newline front s n x y a b = told_by_kind n.kind front s n x y a b
told_by_token (kinds_of_token.Operator o) front s n x y a b = told_by_kind n.kind front s n x y a b
told_by_token (kinds_of_token.Redirect z d) front s n x y a b = told_by_kind n.kind front s n x y a b
told_by_token kinds_of_token.Bare front s n x y a b = told_by_kind n.kind front s n x y a b
told_by_token kinds_of_token.Start front s n x y a b = told_by_kind n.kind front s n x y a b
told_by_token kinds_of_token.Element front s n x y a b = told_by_kind n.kind front s n x y a b
told_by_token kinds_of_token.Key front s n x y a b = told_by_kind n.kind front s n x y a b
told_by_token kinds_of_token.WordEnd front s n x y a b = told_by_kind n.kind front s n x y a b
told_by_token kinds_of_token.Plain front s n x y a b = told_by_kind n.kind front s n x y a b
told_by_token kinds_of_token.Joined front s n x y a b = told_by_kind n.kind front s n x y a b
told_by_token kinds_of_token.Escaped front s n x y a b = told_by_kind n.kind front s n x y a b
told_by_token kinds_of_token.Single front s n x y a b = told_by_kind n.kind front s n x y a b
told_by_token (kinds_of_token.Ansi at) front s n x y a b = told_by_kind n.kind front s n x y a b
told_by_token kinds_of_token.OpenQuote front s n x y a b = told_by_kind n.kind front s n x y a b
told_by_token kinds_of_token.CloseQuote front s n x y a b = told_by_kind n.kind front s n x y a b
told_by_token kinds_of_token.Backquote front s n x y a b = told_by_kind n.kind front s n x y a b
told_by_token (kinds_of_token.Expand at) front s n x y a b = told_by_kind n.kind front s n x y a b
told_by_token kinds_of_token.OpenParameter front s n x y a b = told_by_kind n.kind front s n x y a b
told_by_token kinds_of_token.OpenSubstitution front s n x y a b = told_by_kind n.kind front s n x y a b
told_by_token kinds_of_token.OpenArithmetic front s n x y a b = told_by_kind n.kind front s n x y a b
told_by_token kinds_of_token.Dollar front s n x y a b = told_by_kind n.kind front s n x y a b
told_by_token kinds_of_token.Open front s n x y a b = told_by_kind n.kind front s n x y a b
told_by_token kinds_of_token.Close front s n x y a b = told_by_kind n.kind front s n x y a b
told_by_token kinds_of_token.Separator front s n x y a b = told_by_kind n.kind front s n x y a b
told_by_token kinds_of_token.Length front s n x y a b = told_by_kind n.kind front s n x y a b
told_by_token kinds_of_token.Target front s n x y a b = told_by_kind n.kind front s n x y a b
told_by_token kinds_of_token.Name front s n x y a b = told_by_kind n.kind front s n x y a b
told_by_token kinds_of_token.Digits front s n x y a b = told_by_kind n.kind front s n x y a b
told_by_token kinds_of_token.Special front s n x y a b = told_by_kind n.kind front s n x y a b
told_by_token (kinds_of_token.Form f) front s n x y a b = told_by_kind n.kind front s n x y a b
told_by_token (kinds_of_token.Items joined) front s n x y a b = told_by_kind n.kind front s n x y a b
told_by_token (kinds_of_token.Member at) front s n x y a b = told_by_kind n.kind front s n x y a b
told_by_token kinds_of_token.Prefix front s n x y a b = told_by_kind n.kind front s n x y a b
told_by_token kinds_of_token.Assign front s n x y a b = told_by_kind n.kind front s n x y a b
told_by_token kinds_of_token.AddAssign front s n x y a b = told_by_kind n.kind front s n x y a b
told_by_token kinds_of_token.Otherwise front s n x y a b = told_by_kind n.kind front s n x y a b

told_one : (front : List Token) (s : State) (n : Seen) (x y : Told) → IsTold front s n x → IsTold front s n y → x ≡ y
told_one front s n x y a b = told_by_token n.token.kind front s n x y a b

same_told : (s : State) (f g : SyntaxFault) (x y : Told) → x ≡ y → f ≡ fault_at (text_of s) x.0 x.1 → g ≡ fault_at (text_of s) y.0 y.1 → f ≡ g
same_told s f g x y h e k = e ∙ ap (λ (t : Told). fault_at (text_of s) t.0 t.1) h ∙ sym k

some_some : (x y : Told) → (let o : Option Told = Some x in o ≡ Some y) → x ≡ y
some_some x y e = cc

unread_one : {front : List Token} {s : State} {m : Mode} {n : Seen} {f g : SyntaxFault} → (f.kind ≡ fault.TooDeep → ⊥) → (g.kind ≡ fault.TooDeep → ⊥)
    → IsUnread front s m n f → IsUnread front s m n g → f ≡ g
unread_one {front} {s} {n} {f} {g} a b (no_script x dead t e) (no_script y dead' t' k) = same_told s f g x y (told_one front s n x y t t') e k
unread_one {s} {n} {f} a b (too_deep deep may e) h = absurd (a (kind_deep s n.token.from f e))
unread_one {s} {n} {g} a b h (too_deep deep may k) = absurd (b (kind_deep s n.token.from g k))
unread_one a b (no_script x dead t e) (no_expression y live bad k) = absurd (dead live)
unread_one a b (no_expression x live bad e) (no_script y dead t k) = absurd (dead live)
unread_one {s} {f} {g} a b (no_expression x live bad e) (no_expression y live' bad' k) = same_told s f g x y (some_some x y (sym bad ∙ bad')) e k

-- something comes, since the text's end was not read
record Next (front : List Token) : Type 0 where
  next : Token
  live : IsLive (front ++ next ∷ [])

comes : (front : List Token) → IsOpen front → IsLive front → Next front
comes front more_text live = go live.0 live.1 live.2
  where
    go : (more : List Token) (events : List Event) → Tells anywhere script (front ++ more) [] events → Next front
    go [] events h = absurd (ends_script h refl (subst IsOpen (sym (append-nil front)) more_text))
    go (t ∷ more) events h = record { next = t; live = (more, events, subst (λ xs. Tells anywhere script xs [] events) (sym (append_assoc front (t ∷ []) more)) h) }

only_one : {front : List Token} (m l : Mode) → Next front → IsOnly front m → IsOnly front l → m ≡ l
only_one m l n a b = sym (a n.next.0 n.next.1 n.live) ∙ b n.next.0 n.next.1 n.live

behind_one : {front : List Token} {s : State} {f g : SyntaxFault} → (f.kind ≡ fault.TooDeep → ⊥) → (g.kind ≡ fault.TooDeep → ⊥) → Next front → IsFaultBehind front s f → IsFaultBehind front s g → f ≡ g
behind_one {s} {f} {g} x y next (of_text m a only sees) (of_text l b only' sees') =
    err_err f g (one_sight (subst (λ k. Sees s k (Err f) a) (only_one m l next only only') sees) sees').0
behind_one {s} {f} {g} x y next (of_text m a only sees) (of_token l n b only' sees' unread) =
    absurd (ok_err n f (sym (one_sight (subst (λ k. Sees s k (Err f) a) (only_one m l next only only') sees) sees').0))
behind_one {s} {f} {g} x y next (of_token m n a only sees unread) (of_text l b only' sees') =
    absurd (ok_err n g (one_sight (subst (λ k. Sees s k (Ok n) a) (only_one m l next only only') sees) sees').0)
behind_one {front} {s} {f} {g} x y next (of_token m n a only sees unread) (of_token l k b only' sees' unread') =
    let same = only_one m l next only only' in
    let sight = one_sight (subst (λ x. Sees s x (Ok n) a) same sees) sees' in
    let now : n ≡ k = ok_ok n k sight.0 in
    let u : IsUnread front b l k f =
    subst (λ i. IsUnread front b l i f) now (subst (λ i. IsUnread front i l n f) sight.1 (subst (λ i. IsUnread front a i n f) same unread)) in
    unread_one x y u unread'

live_front : (front all : List Token) (rest : List Token) → all ≡ front ++ rest → IsLive all → IsLive front
live_front front all rest e live =
    (rest ++ live.0, live.1, subst (λ xs. Tells anywhere script xs [] live.1) (append_assoc front rest live.0) (subst (λ xs. Tells anywhere script (xs ++ live.0) [] live.1) e live.2))

-- the text goes on behind the one fault, with what the other read
earlier_clash : {s s'' : State} {front front' : List Token} {f : SyntaxFault} (ps : List Pass) (p : Pass) (rest : List Pass) → front ≡ tokens ps → front' ≡ tokens (ps ++ p ∷ rest)
    → IsFaultBehind front s f → (f.kind ≡ fault.TooDeep → ⊥) → IsLive front' → Path s (p ∷ rest) s'' → ⊥
earlier_clash {front} {front'} ps p rest e k fault other live (goes _ _ sees fine path) =
    let all = split_front front front' ps p rest e k in
    not_next p fault sees fine (live_front (front ++ token_of p ∷ []) front' (tokens rest) all live) (inl other)

record Stops (text : List ℕ) (f : SyntaxFault) : Type 0 where
  s : State
  front : List Token
  events : List Event
  left : Left
  run : Run text s front events
  more_text : IsOpen front
  live : IsLive front
  read : HasRead front left events
  fault_behind : IsFaultBehind front s f
  other : f.kind ≡ fault.TooDeep → ⊥

stops_one : {text : List ℕ} {f g : SyntaxFault} (a : Stops text f) (b : Stops text g) (ps qs : List Pass) → a.run.passes ≡ ps → b.run.passes ≡ qs → Meets a.s b.s ps qs → f ≡ g
stops_one {g} a b ps qs e k (ahead [] h stays) =
    let same : b.front ≡ a.front = b.run.front_is ∙ ap tokens (k ∙ h ∙ append-nil ps ∙ sym e) ∙ sym a.run.front_is in
    behind_one a.other b.other (comes a.front a.more_text a.live) a.fault_behind (subst (λ xs. IsFaultBehind xs a.s g) same b.fault_behind)
stops_one a b ps qs e k (ahead (p ∷ rest) h path) =
    absurd (earlier_clash ps p rest (a.run.front_is ∙ ap tokens e) (b.run.front_is ∙ ap tokens (k ∙ h)) a.fault_behind a.other b.live path)
stops_one {f} a b ps qs e k (behind [] h stays) =
    let same : a.front ≡ b.front = a.run.front_is ∙ ap tokens (e ∙ h ∙ append-nil qs ∙ sym k) ∙ sym b.run.front_is in
    sym (behind_one b.other a.other (comes b.front b.more_text b.live) b.fault_behind (subst (λ xs. IsFaultBehind xs b.s f) same a.fault_behind))
stops_one a b ps qs e k (behind (p ∷ rest) h path) =
    absurd (earlier_clash qs p rest (b.run.front_is ∙ ap tokens k) (a.run.front_is ∙ ap tokens (e ∙ h)) b.fault_behind b.other a.live path)

pub one_fault : (text : List ℕ) (f g : SyntaxFault) → HasFault text f → HasFault text g → (f.kind ≡ fault.TooDeep → ⊥) → (g.kind ≡ fault.TooDeep → ⊥) → f ≡ g
one_fault text f g (long h e) (long h' k) x y = e ∙ sym k
one_fault text f g (long h e) (first s front events left size spelled more_text live read bad) x y = absurd (omega (arith, h, size))
one_fault text f g (first s front events left size spelled more_text live read bad) (long h e) x y = absurd (omega (arith, h, size))
one_fault text f g (first s front events left size spelled more_text live read bad) (first s' front' events' left' size' spelled' more_text' live' read' bad') x y =
    let a : Stops text f = record { s = s; front = front; events = events; left = left; run = run_of spelled; more_text = more_text; live = live; read = read; fault_behind = bad; other = x } in
    let b : Stops text g = record { s = s'; front = front'; events = events'; left = left'; run = run_of spelled'; more_text = more_text'; live = live'; read = read'; fault_behind = bad'; other = y } in
    stops_one a b a.run.passes b.run.passes refl refl (runs_meet a.run b.run (completion front left events read) (completion front' left' events' read'))
