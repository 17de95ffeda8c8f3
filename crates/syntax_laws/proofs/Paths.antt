-- A text's tokens from its first byte on, and where two spellings of it part.
use Rattle.std.specs.Prelude.{◌≡◌, ℕ, List, [], ◌∷◌, ◌++◌, map, None, Result, Ok}
use Rattle.std.proofs.Common.{refl, sym, ◌∙◌, ap, subst, append_assoc}
use Rattle.ksh_lexer.specs.declared.fault.SyntaxFault.{SyntaxFault}
use Rattle.ksh_syntax.specs.declared.kind.Mode.{Mode}
use Rattle.ksh_syntax.specs.declared.part.Mark.{Mark}
use Rattle.ksh_syntax.specs.Sentences.{Event, FitsAll, Marked, Tells, Token, Took, anywhere}
use Rattle.ksh_syntax.specs.Steps.{Left}
use Rattle.ksh_scan.specs.declared.see.Seen.{Seen}
use Rattle.ksh_scan.specs.declared.state.State.{State}
use Rattle.ksh_scan.specs.After.{after}
use Rattle.ksh_scan.specs.Arithmetic.{bad_arithmetic}
use Rattle.ksh_scan.specs.Scan.{Spelled, nothing_read, one_more, start}
use Rattle.ksh_scan.specs.Seeing.{Sees}
use Rattle.syntax_laws.proofs.Forks.{Fork, begins, fork, grows, one_mode, told_on}
use Rattle.syntax_laws.proofs.Sights.{one_sight}

-- a token that is read, and the marks before it
pub record Pass : Type 0 where
  pub marks : List Mark
  pub mode : Mode
  pub seen : Seen

abbrev pub token_of : Pass → Token
token_of p = (p.mode, p.seen.kind)

abbrev pub tokens : List Pass → List Token
tokens [] = []
tokens (p ∷ ps) = token_of p ∷ tokens ps

abbrev pub told : List Pass → List Event
told [] = []
told (p ∷ ps) = map Marked p.marks ++ Took (token_of p) ∷ told ps

-- one after another they are read from a state to a state
pub data Path : State → List Pass → State → Type 0 where
  stays : {s : State} → Path s [] s
  goes : {s s' s'' : State} (p : Pass) (ps : List Pass) → Sees s p.mode (Ok p.seen) s' → bad_arithmetic s' p.mode p.seen ≡ None → Path (after s' p.seen p.marks) ps s''
      → Path s (p ∷ ps) s''

goes_last : {s' s'' : State} (ps : List Pass) (p : Pass) (s : State) → Path s ps s' → Sees s' p.mode (Ok p.seen) s'' → bad_arithmetic s'' p.mode p.seen ≡ None
    → Path s (ps ++ p ∷ []) (after s'' p.seen p.marks)
goes_last [] p s stays sees fine = goes p [] sees fine stays
goes_last (q ∷ ps) p s (goes {s' = at} _ _ seen good rest) sees fine = goes q (ps ++ p ∷ []) seen good (goes_last ps p (after at q.seen q.marks) rest sees fine)

pub tokens_on : (ps qs : List Pass) → tokens (ps ++ qs) ≡ tokens ps ++ tokens qs
tokens_on [] qs = refl
tokens_on (p ∷ ps) qs = ap (λ ts. token_of p ∷ ts) (tokens_on ps qs)

told_last : (ps : List Pass) (p : Pass) → told (ps ++ p ∷ []) ≡ (told ps ++ map Marked p.marks) ++ Took (token_of p) ∷ []
told_last [] p = refl
told_last (q ∷ ps) p =
    ap (λ es. map Marked q.marks ++ Took (token_of q) ∷ es) (told_last ps p)
    ∙ sym (ap (λ es. es ++ Took (token_of p) ∷ []) (append_assoc (map Marked q.marks) (Took (token_of q) ∷ told ps) (map Marked p.marks))
    ∙ append_assoc (map Marked q.marks) (Took (token_of q) ∷ (told ps ++ map Marked p.marks)) (Took (token_of p) ∷ []))

-- what a text's spelling passes
pub record Run (text : List ℕ) (s : State) (front : List Token) (events : List Event) : Type 0 where
  pub passes : List Pass
  pub path : Path (start text) passes s
  pub front_is : front ≡ tokens passes
  pub events_is : events ≡ told passes

pub run_of : {text : List ℕ} {s : State} {front : List Token} {events : List Event} → Spelled text s front events → Run text s front events
run_of nothing_read = record { passes = []; path = stays; front_is = refl; events_is = refl }
run_of {text} (one_more m n marks s s' front events h sees fine) =
    let r = run_of h in
    let p : Pass = record { marks = marks; mode = m; seen = n } in
    record {
      passes = r.passes ++ p ∷ [];
      path = goes_last r.passes p (start text) r.path sees fine;
      front_is = ap (λ ts. ts ++ (m, n.kind) ∷ []) r.front_is ∙ sym (tokens_on r.passes (p ∷ []));
      events_is = ap (λ es. (es ++ map Marked marks) ++ Took (m, n.kind) ∷ []) r.events_is ∙ sym (told_last r.passes p);
    }

-- of two paths from one state one goes on with the other
pub data Meets (s s' : State) (ps qs : List Pass) : Type 0 where
  ahead : (rest : List Pass) → qs ≡ ps ++ rest → Path s rest s' → Meets s s' ps qs
  behind : (rest : List Pass) → ps ≡ qs ++ rest → Path s' rest s → Meets s s' ps qs

also : {s s' : State} {ps qs : List Pass} (p q : Pass) → p ≡ q → Meets s s' ps qs → Meets s s' (p ∷ ps) (q ∷ qs)
also {ps} {qs} p q e (ahead rest f path) = ahead rest (ap (λ x. x ∷ qs) (sym e) ∙ ap (λ xs. p ∷ xs) f) path
also {ps} {qs} p q e (behind rest f path) = behind rest (ap (λ x. x ∷ ps) e ∙ ap (λ xs. q ∷ xs) f) path

same_behind : (v a b : List Event) → v ++ a ≡ v ++ b → a ≡ b
same_behind [] a b e = e
same_behind (x ∷ v) a b e = same_behind v a b (let f : v ++ a ≡ v ++ b = cc in f)

-- the marks before the first token that is told
marks_first : (ms ns : List Mark) (t u : Token) (x y : List Event) → map Marked ms ++ Took t ∷ x ≡ map Marked ns ++ Took u ∷ y → (ms ≡ ns) × (x ≡ y)
marks_first [] [] t u x y e = (refl, cc)
marks_first [] (n ∷ ns) t u x y e = absurd cc
marks_first (m ∷ ms) [] t u x y e = absurd cc
marks_first (m ∷ ms) (n ∷ ns) t u x y e =
    let same : m ≡ n = cc in
    let rest = marks_first ms ns t u x y (let f : map Marked ms ++ Took t ∷ x ≡ map Marked ns ++ Took u ∷ y = cc in f) in
    (ap (λ k. k ∷ ms) same ∙ ap (λ ks. n ∷ ks) rest.0, rest.1)

-- the marks that a reading tells are those of the path
told_alike : (v w x : List Event) (p : Pass) (ps : List Pass) (ms : List Mark) (t : Token) (z : List Event) → x ≡ v ++ (told (p ∷ ps) ++ w) → x ≡ told_on v ms t ++ z
    → (ms ≡ p.marks) × (z ≡ told ps ++ w)
told_alike v w x p ps ms t z e f =
    let given : x ≡ v ++ (map Marked p.marks ++ Took (token_of p) ∷ (told ps ++ w)) = e ∙ ap (λ es. v ++ es) (append_assoc (map Marked p.marks) (Took (token_of p) ∷ told ps) w) in
    let read : x ≡ v ++ (map Marked ms ++ Took t ∷ z) =
    f ∙ append_assoc v (map Marked ms ++ Took t ∷ []) z ∙ ap (λ es. v ++ es) (append_assoc (map Marked ms) (Took t ∷ []) z) in
    marks_first ms p.marks t (token_of p) z (told ps ++ w) (same_behind v _ _ (sym read ∙ given))

same_pass : (p q : Pass) → p.marks ≡ q.marks → p.mode ≡ q.mode → p.seen ≡ q.seen → p ≡ q
same_pass p q e f g =
    ap (λ x. (let r : Pass = record { marks = x; mode = p.mode; seen = p.seen } in r)) e
    ∙ ap (λ x. (let r : Pass = record { marks = q.marks; mode = x; seen = p.seen } in r)) f
    ∙ ap (λ x. (let r : Pass = record { marks = q.marks; mode = q.mode; seen = x } in r)) g

ok_seen : (n k : Seen) → (let x : Result Seen SyntaxFault = Ok n in x ≡ Ok k) → n ≡ k
ok_seen n k e = cc

-- paths along which one grammar reads meet
pub meet : {s1 s2 : State} (s : State) (S : Left) (ps qs : List Pass) (more further : List Token) (v w z x y : List Event) → FitsAll S → Path s ps s1 → Path s qs s2
    → Tells anywhere S (tokens ps ++ more) v x → x ≡ v ++ (told ps ++ w) → Tells anywhere S (tokens qs ++ further) v y → y ≡ v ++ (told qs ++ z) → Meets s1 s2 ps qs
meet s S [] qs more further v w z x y fits stays b h e k f = ahead qs refl b
meet s S (p ∷ ps) [] more further v w z x y fits a stays h e k f = behind (p ∷ ps) refl a
meet {s1} {s2} s S (p ∷ ps) (q ∷ qs) more further v w z x y fits (goes {s' = a} _ _ sees fine path) (goes {s' = b} _ _ sees' fine' path') h e k f =
    let mode : p.mode ≡ q.mode = one_mode S (token_of p) (token_of q) fits (begins h) (begins k) in
    let sight = one_sight (subst (λ m. Sees s m (Ok p.seen) a) mode sees) sees' in
    let seen : p.seen ≡ q.seen = ok_seen p.seen q.seen sight.0 in
    let same : token_of p ≡ token_of q = ap (λ m. (m, p.seen.kind)) mode ∙ ap (λ (n : Seen). (q.mode, n.kind)) seen in
    let g : Fork v (token_of q) (tokens ps ++ more) (tokens qs ++ further) x y = fork fits (subst (λ t. Tells anywhere S (t ∷ (tokens ps ++ more)) v x) same h) k in
    let one = grows g.one in
    let other = grows g.other in
    let mine = told_alike v w x p ps g.marks (token_of q) one.0 e one.1 in
    let theirs = told_alike v z y q qs g.marks (token_of q) other.0 f other.1 in
    let passed : p ≡ q = same_pass p q (sym mine.0 ∙ theirs.0) mode seen in
    let there : after a p.seen p.marks ≡ after b q.seen q.marks = ap (λ at. after at p.seen p.marks) sight.1 ∙ ap (λ (r : Pass). after b r.seen r.marks) passed in
    also p q passed
    (meet (after b q.seen q.marks) g.left ps qs more further (told_on v g.marks (token_of q)) w z x y g.fits (subst (λ at. Path at ps s1) there path) path'
    g.one (one.1 ∙ ap (λ es. told_on v g.marks (token_of q) ++ es) mine.1) g.other (other.1 ∙ ap (λ es. told_on v g.marks (token_of q) ++ es) theirs.1))
