-- At one place under one mode comes one token, or one fault and no token.
use Rattle.std.proofs.Common.{◌≡◌, ℕ, ◌+◌, Bool, true, false, ◌&&◌, List, [], ◌∷◌, Ok, Err, ap, sym, ◌∙◌, subst}
use Rattle.bstr.specs.Bytes.{not_in}
use Rattle.ksh_lexer.specs.declared.outer.Begins.{Begins}
use Rattle.ksh_lexer.specs.declared.outer.Begins.TheVariants as begin
use Rattle.ksh_lexer.specs.declared.kind.Token.{Token}
use Rattle.ksh_lexer.specs.declared.kind.TokenKind.TheVariants as kinds
use Rattle.ksh_lexer.specs.declared.fault.SyntaxKind.{SyntaxKind}
use Rattle.ksh_lexer.specs.declared.lex.LexFault.{LexFault}
use Rattle.ksh_lexer.specs.declared.mode.LexMode.{LexMode}
use Rattle.ksh_lexer.specs.declared.mode.LexMode.TheVariants as mode
use Rattle.ksh_lexer.specs.declared.scan.Class.TheVariants as class
use Rattle.ksh_lexer.specs.Begin.{begins_at, runs}
use Rattle.ksh_lexer.specs.Class.{in_class}
use Rattle.ksh_lexer.specs.Reach.{IsRun, at_byte, next}
use Rattle.ksh_lexer.specs.Tok.{Answer, AtComment, Comes, IsFault, NamedBy, PastBlanks, PastTabs, Skips, Stands, Tok, WordAt, WordBy, bare, begins_line, fault, group, is_element, is_key, is_named, name, quoted, token}
use Rattle.ksh_lexer.proofs.Runs.{one_run}

comment_one : (t : Bool) (text : List ℕ) (place x y : ℕ) → AtComment t text place x → AtComment t text place y → x ≡ y
comment_one true text place x y a b = one_run (at_byte (not_in (10 ∷ 0 ∷ []))) text place x y a b
comment_one false text place x y a b = a ∙ sym b

blanks_one : (text : List ℕ) (at x y : ℕ) → PastBlanks text at x → PastBlanks text at y → x ≡ y
blanks_one text at x y a b = comment_one _ text _ x y a b

tabs_one : (t : Bool) (text : List ℕ) (at x y : ℕ) → PastTabs t text at x → PastTabs t text at y → x ≡ y
tabs_one true text at x y a b = one_run (at_byte (in_class class.Tab)) text at x y a b
tabs_one false text at x y a b = a ∙ sym b

skips_one : (m : LexMode) (text : List ℕ) (at x y : ℕ) → Skips m text at x → Skips m text at y → x ≡ y
skips_one mode.Command text at x y a b = blanks_one text at x y a b
skips_one mode.Argument text at x y a b = blanks_one text at x y a b
skips_one mode.Pattern text at x y a b = blanks_one text at x y a b
skips_one mode.Condition text at x y a b = blanks_one text at x y a b
skips_one mode.Value text at x y a b = blanks_one text at x y a b
skips_one (mode.HereBody tabs expands) text at x y a b = tabs_one (tabs && begins_line text at) text at x y a b
skips_one mode.Word text at x y a b = a ∙ sym b
skips_one (mode.Quoted opening) text at x y a b = a ∙ sym b
skips_one mode.Group text at x y a b = a ∙ sym b
skips_one (mode.Braced end) text at x y a b = a ∙ sym b
skips_one mode.Subscript text at x y a b = a ∙ sym b
skips_one mode.Arithmetic text at x y a b = a ∙ sym b
skips_one mode.LoopArithmetic text at x y a b = a ∙ sym b
skips_one mode.Parentheses text at x y a b = a ∙ sym b
skips_one mode.Parameter text at x y a b = a ∙ sym b
skips_one mode.Form text at x y a b = a ∙ sym b
skips_one mode.Target text at x y a b = a ∙ sym b

-- an answer that follows from where a run ends
run_one : (kind : List ℕ → ℕ → Bool) (text : List ℕ) (from : ℕ) (f : ℕ → Answer) (x y : Answer)
    → (e : ℕ) × IsRun kind text from e × (x ≡ f e) → (e : ℕ) × IsRun kind text from e × (y ≡ f e) → x ≡ y
run_one kind text from f x y a b = a.2 ∙ ap f (one_run kind text from a.0 b.0 a.1 b.1) ∙ sym b.2

word_by_one : (element key : Bool) (text : List ℕ) (from path : ℕ) (x y : Answer) → WordBy element key text from path x → WordBy element key text from path y → x ≡ y
word_by_one true key text from path x y a b = a ∙ sym b
word_by_one false true text from path x y a b = a ∙ sym b
word_by_one false false text from path x y a b = run_one (runs mode.Word) text from (λ e. bare text from e) x y a b

word_one : (m : LexMode) (text : List ℕ) (from : ℕ) (x y : Answer) → WordAt m text from x → WordAt m text from y → x ≡ y
word_one m text from x y a b =
    let p : a.0 ≡ b.0 = one_run (at_byte (in_class class.Path)) text from a.0 b.0 a.1 b.1 in
    let a' : WordBy (is_element m text from b.0) (is_key m text from) text from b.0 x =
    subst (λ path. WordBy (is_element m text from path) (is_key m text from) text from path x) p a.2 in
    word_by_one (is_element m text from b.0) (is_key m text from) text from b.0 x y a' b.2

named_one : (t : Bool) (m : LexMode) (text : List ℕ) (from end : ℕ) (x y : Answer) → NamedBy t m text from end x → NamedBy t m text from end y → x ≡ y
named_one true m text from end x y a b = a ∙ sym b
named_one false m text from end x y a b = word_one m text from x y a b

brace_one : (m : LexMode) (text : List ℕ) (from : ℕ) (x y : Answer) → Stands m text from begin.Brace x → Stands m text from begin.Brace y → x ≡ y
brace_one m text from x y a b =
    let p : a.0 ≡ b.0 = one_run (at_byte (in_class class.Name)) text (from + 1) a.0 b.0 a.1 b.1 in
    let a' : NamedBy (is_named text from b.0) m text from b.0 x = subst (λ end. NamedBy (is_named text from end) m text from end x) p a.2 in
    named_one (is_named text from b.0) m text from b.0 x y a' b.2

stands_one : (m : LexMode) (text : List ℕ) (from : ℕ) (b : Begins) (x y : Answer) → Stands m text from b x → Stands m text from b y → x ≡ y
stands_one m text from (begin.Take kind width) x y a b = a ∙ sym b
stands_one m text from (begin.Refuse kind) x y a b = a ∙ sym b
stands_one m text from (begin.Unclosed opening) x y a b = a ∙ sym b
stands_one m text from begin.Digit x y a b = a ∙ sym b
stands_one m text from begin.Brace x y a b = brace_one m text from x y a b
stands_one m text from begin.Start x y a b = word_one m text from x y a b
stands_one m text from begin.Single x y a b = run_one (at_byte (not_in (39 ∷ 0 ∷ []))) text (from + 1) (λ e. quoted kinds.Single text from e) x y a b
stands_one m text from begin.Ansi x y a b = a ∙ sym b
stands_one m text from begin.Expand x y a b = run_one (at_byte (in_class class.Name)) text (next text from) (λ e. token (kinds.Expand (next text from)) from e) x y a b
stands_one m text from begin.Special x y a b = a ∙ sym b
stands_one m text from begin.Group x y a b = run_one (at_byte (not_in (41 ∷ 10 ∷ []))) text (next text from + 1) (λ e. group text from e) x y a b
stands_one m text from begin.Run x y a b = run_one (runs m) text from (λ e. token kinds.Plain from e) x y a b
stands_one m text from begin.Name x y a b = run_one (at_byte (in_class class.Name)) text (from + 1) (λ e. name text from e) x y a b
stands_one m text from begin.Digits x y a b = run_one (at_byte (in_class class.Digit)) text from (λ e. token kinds.Digits from e) x y a b
stands_one m text from begin.Member x y a b = run_one (at_byte (in_class class.Name)) text (next text from) (λ e. token (kinds.Member (next text from)) from e) x y a b

one_answer : (m : LexMode) (text : List ℕ) (at : ℕ) (x y : Answer) → Comes m text at x → Comes m text at y → x ≡ y
one_answer m text at x y a b =
    let p : a.0 ≡ b.0 = skips_one m text at a.0 b.0 a.1 b.1 in
    let a' : Stands m text b.0 (begins_at m text b.0) x = subst (λ from. Stands m text from (begins_at m text from) x) p a.2 in
    stands_one m text b.0 (begins_at m text b.0) x y a' b.2

same_ok : (t u : Token) → (let x : Answer = Ok t in x ≡ Ok u) → t ≡ u
same_ok t u e = cc

pub one_token : (m : LexMode) (text : List ℕ) (at : ℕ) (t u : Token) → Tok m text at t → Tok m text at u → t ≡ u
one_token m text at t u a b = same_ok t u (one_answer m text at (Ok t) (Ok u) a b)

pub no_token : (m : LexMode) (text : List ℕ) (at : ℕ) (t : Token) (kind : SyntaxKind) (byte : ℕ) → Tok m text at t → IsFault m text at kind byte → ⊥
no_token m text at t kind byte a b =
    let e : (let x : Answer = Ok t in x ≡ fault kind byte) = one_answer m text at (Ok t) (fault kind byte) a b in
    cc

same_err : (d e : LexFault) → (let x : Answer = Err d in x ≡ Err e) → d ≡ e
same_err d e h = cc

pub one_fault : (m : LexMode) (text : List ℕ) (at : ℕ) (k l : SyntaxKind) (i j : ℕ) → IsFault m text at k i → IsFault m text at l j → (k ≡ l) × (i ≡ j)
one_fault m text at k l i j a b =
    let e : (let f : LexFault = record { kind = k; byte = i } in f ≡ record { kind = l; byte = j }) =
    same_err (record { kind = k; byte = i }) (record { kind = l; byte = j }) (one_answer m text at (fault k i) (fault l j) a b) in
    (ap (λ (f : LexFault). f.kind) e, ap (λ (f : LexFault). f.byte) e)
