-- What a scanner's steps show.
use Rattle.std.specs.Prelude.{◌≡◌, ◌<◌, ◌≤◌, ℕ, Bool, false, List, [], ◌∷◌, ◌++◌, map, length, reverse, take, Some, None, Result, Ok, Err}
use Rattle.std.proofs.Common.{refl, sym, ◌∙◌, ap, subst, append-nil, arith}
use Rattle.std.proofs.Math.Nat.{lt_of_not-le}
use Rattle.ksh_lexer.specs.declared.fault.SyntaxFault.{SyntaxFault}
use Rattle.ksh_lexer.specs.declared.fault.SyntaxKind.{SyntaxKind}
use Rattle.ksh_lexer.specs.declared.fault.SyntaxKind.TheVariants as fault
use Rattle.ksh_lexer.specs.Place.{fault_at, longest_text, too_long}
use Rattle.ksh_syntax.specs.declared.kind.Kind.{Kind}
use Rattle.ksh_syntax.specs.declared.kind.Kind.TheVariants as kind
use Rattle.ksh_syntax.specs.declared.kind.Mode.{Mode}
use Rattle.ksh_syntax.specs.declared.kind.Mode.TheVariants as mode
use Rattle.ksh_syntax.specs.declared.part.Mark.{Mark}
use Rattle.ksh_syntax.specs.declared.reading.Next.TheVariants.{Taken, Refused, TooDeep}
use Rattle.ksh_syntax.specs.Sentences.{Decides, Event, Goes, HasRead, IsLive, IsScript, Marked, MayCome, Tells, Token, Took, script, within_limit}
use Rattle.ksh_grammar.specs.Grammar.{nothing}
use Rattle.ksh_syntax.proofs.Laws.{behind_all, live, no_mode}
use Rattle.ksh_syntax.specs.Steps.{Left}
use Rattle.ksh_scan.specs.declared.after.ReadToken.{ReadToken}
use Rattle.ksh_scan.specs.declared.refusal.SyntaxRefused.{SyntaxRefused}
use Rattle.ksh_scan.specs.declared.refusal.SyntaxRefused.TheVariants.{Fault, Memory}
use Rattle.ksh_scan.specs.declared.refusal.Unread.{Unread}
use Rattle.ksh_scan.specs.declared.refusal.Unread.TheVariants.{Word}
use Rattle.ksh_scan.specs.declared.see.Seen.{Seen}
use Rattle.ksh_scan.specs.declared.state.State.{State}
use Rattle.ksh_scan.specs.After.{after, ends_here_word}
use Rattle.ksh_scan.specs.Arithmetic.{Told, bad_arithmetic}
use Rattle.ksh_scan.specs.Scan.{ends_text, first, long, of_text, of_token, no_expression, no_script, nothing_read, too_deep, one_more, start, HasFault, IsFaultBehind, IsRefused, IsShallow, IsText, IsOnly, IsOpen, IsTold, IsToldBy, IsUnread, Spelled, unread_by, word_fault}
use Rattle.ksh_scan.specs.Seeing.{text_of, Sees}
use Rattle.ksh_scan.specs.Steps.{IsAt, Passes, read_token, StepsOn, TakesOn}

pub told_word : (u : Unread) (front : List Token) (s : State) (n : Seen) (names others assignments : Bool) (told : Told) → u ≡ Word
    → Decides names (MayCome front kind.Name) → Decides others (MayCome front kind.Other) → Decides assignments (MayCome front kind.Assignment)
    → told ≡ word_fault names others assignments n.kind n.token.from → IsToldBy u front s n told
told_word u front s n names others assignments told e a b c f = subst (λ v. IsToldBy v front s n told) (sym e) (names, others, assignments, a, b, c, f)

-- the token was read with some marks, and none stood before it
pub takes_taken : (front : List Token) (events : List Event) (m : Mode) (n : Seen) (here : Bool) (s s' : State) (old left : Left) (before marks : List Mark) → before ≡ []
    → HasRead front old events → Goes (m, n.kind) old left before marks Taken → bad_arithmetic s m n ≡ None → here ≡ ends_here_word s n → s' ≡ after s n marks
    → ((left ≡ [] → ⊥) → ends_text n.kind ≡ false) → TakesOn front events m n s left s' marks (Ok (read_token m n here))
takes_taken front events m n here s s' old left before marks none h g fine is e over =
    let same : g.0 ≡ marks = passed_all before g.0 marks none g.1 in
    (ap (read_token m n) is, e, fine, subst (λ ms. HasRead (front ++ (m, n.kind) ∷ []) left ((events ++ map Marked ms) ++ Took (m, n.kind) ∷ [])) same (g.2 front events h), over)
  where
    passed_all : (before passed all : List Mark) → before ≡ [] → all ≡ before ++ passed → passed ≡ all
    passed_all before passed all e f = sym (subst (λ xs. all ≡ xs ++ passed) e f)

-- the arithmetic text that the token ends is no expression
pub takes_no_expression : (front : List Token) (events : List Event) (m : Mode) (n : Seen) (s s' : State) (old left : Left) (before marks marks' : List Mark) (told : Told) (r : SyntaxRefused)
    → HasRead front old events → Goes (m, n.kind) old left before marks Taken → bad_arithmetic s m n ≡ Some told → r ≡ Fault (fault_at (text_of s) told.0 told.1)
    → TakesOn front events m n s left s' marks' (Err r)
takes_no_expression front events m n s s' old left before marks marks' told r h g bad e =
    let goes : IsLive (front ++ (m, n.kind) ∷ []) = live (front ++ (m, n.kind) ∷ []) left ((events ++ map Marked g.0) ++ Took (m, n.kind) ∷ []) (g.2 front events h) in
    subst (λ q. TakesOn front events m n s left s' marks' (Err q)) (sym e) (no_expression told goes bad refl)

pub takes_deep : (front : List Token) (events : List Event) (m : Mode) (n : Seen) (s s' : State) (old left : Left) (before marks marks' : List Mark) (r : SyntaxRefused)
    → HasRead front old events → Goes (m, n.kind) old left before marks TooDeep → r ≡ Fault (fault_at (text_of s) fault.TooDeep n.token.from)
    → TakesOn front events m n s left s' marks' (Err r)
takes_deep front events m n s s' old left before marks marks' r h g e =
    subst (λ q. TakesOn front events m n s left s' marks' (Err q)) (sym e) (too_deep (g front events h).0 (g front events h).1 refl)

pub takes_refused : (front : List Token) (events : List Event) (m : Mode) (n : Seen) (s kept s' : State) (old seen_by left : Left) (before marks marks' : List Mark) (u : Unread) (told : Told) (r : SyntaxRefused)
    → HasRead front old events → Goes (m, n.kind) old left before marks Refused → u ≡ unread_by n → kept ≡ s → (u ≡ Word → seen_by ≡ old)
    → ((front : List Token) (events : List Event) → (u ≡ Word → HasRead front seen_by events) → IsToldBy u front kept n told)
    → r ≡ Fault (fault_at (text_of kept) told.0 told.1) → TakesOn front events m n s left s' marks' (Err r)
takes_refused front events m n s kept s' old seen_by left before marks marks' u told r h g is same remembered t e =
    let by : IsToldBy u front kept n told = t front events (λ w. subst (λ l. HasRead front l events) (sym (remembered w)) h) in
    let by_seen : IsTold front kept n told = subst (λ v. IsToldBy v front kept n told) is by in
    let at_s : IsTold front s n told = subst (λ z. IsTold front z n told) same by_seen in
    let fault : r ≡ Fault (fault_at (text_of s) told.0 told.1) = subst (λ z. r ≡ Fault (fault_at (text_of z) told.0 told.1)) same e in
    subst (λ q. TakesOn front events m n s left s' marks' (Err q)) (sym fault) (no_script told (g front events h) at_s refl)

-- where a token was read something was left to read
was_left : (front : List Token) (events events' : List Event) (m : Mode) (k : Kind) (old left : Left) → HasRead front old events → HasRead (front ++ (m, k) ∷ []) left events' → old ≡ [] → ⊥
was_left front events events' m k old left h h' none =
    let all : take 0 old ≡ old = sym none in
    let goes : IsLive (front ++ (m, k) ∷ []) = live (front ++ (m, k) ∷ []) left events' h' in
    let one : m ≡ mode.Command = no_mode old 0 mode.Command (behind_all old 0 all) refl front events m k h goes in
    let other : m ≡ mode.Pattern = no_mode old 0 mode.Pattern (behind_all old 0 all) refl front events m k h goes in
    let same : mode.Command ≡ mode.Pattern = sym one ∙ other in cc

open_on : (front : List Token) (t : Token) → IsOpen front → ends_text t.1 ≡ false → IsOpen (front ++ t ∷ [])
open_on [] t h e = (e, tt)
open_on (x ∷ front) t h e = (h.0, open_on front t h.1 e)

-- a token that is seen and taken is a step
pub steps : (text : List ℕ) (front : List Token) (events : List Event) (m : Mode) (n : Seen) (s s' s'' : State) (old left : Left) (marks : List Mark) (r : Result ReadToken SyntaxRefused)
    → IsAt text front events old s → IsOnly front m → Sees s m (Ok n) s' → TakesOn front events m n s' left s'' marks r → StepsOn text front events s left s'' marks r
steps text front events m n s s' s'' old left marks (Ok read) at only sees takes =
    let same : read ≡ read_token m n (ends_here_word s' n) = takes.0 in
    subst (λ k. StepsOn text front events s left s'' marks (Ok k)) (sym same) (
      record { at = s'; sees = sees; fine = takes.2; here = refl; behind = takes.1 },
      record {
        read = takes.3;
        spelled = subst (λ z. Spelled text z (front ++ (m, n.kind) ∷ []) ((events ++ map Marked marks) ++ Took (m, n.kind) ∷ [])) (sym takes.1)
            (one_more m n marks s s' front events at.spelled sees takes.2);
        more = λ some. open_on front (m, n.kind) (at.more (was_left front events ((events ++ map Marked marks) ++ Took (m, n.kind) ∷ []) m n.kind old left at.read takes.3)) (takes.4 some);
      },
    )
steps text front events m n s s' s'' old left marks (Err (Fault f)) at only sees takes = of_token m n s' only sees takes
steps text front events m n s s' s'' old left marks (Err Memory) at only sees takes = tt

pub is_long : {A : Type 0} (text : List ℕ) (f : SyntaxFault) → (length text ≤ longest_text → A) → (A → ⊥) → f ≡ too_long text → HasFault text f
is_long text f short refuted e = long (lt_of_not-le (λ h. refuted (short h))) e

-- the tokens so far, what they tell, and where the scanner stands
pub record Scanned (text : List ℕ) (left : Left) (s : State) : Type 0 where
  pub size : length text ≤ longest_text
  pub front : List Token
  pub events : List Event
  pub at : IsAt text front events left s

-- with the same openings
pub shallow : (front : List Token) (left : Left) (events : List Event) → left ≡ [] → HasRead front left events → IsShallow front events
shallow front left events none h =
    let ends : Tells within_limit (reverse left) [] events events = subst (λ l. Tells within_limit (reverse l) [] events events) (sym none) nothing in
    subst (λ xs. Tells within_limit script xs [] events) (append-nil front) (h.within.goes_on [] events ends)

pub finished : (text : List ℕ) (left : Left) (s : State) → Scanned text left s → ((front : List Token) (events : List Event) → HasRead front left events → IsScript front events) → left ≡ [] → IsText text
finished text left s h f none = (h.size, s, h.front, h.events, h.at.spelled, f h.front h.events h.at.read, shallow h.front left h.events none h.at.read)

pub scans_on : (text : List ℕ) (left left' : Left) (s s' : State) (marks : List Mark) (r : ReadToken) → Scanned text left s
    → ((text : List ℕ) (front : List Token) (events : List Event) → IsAt text front events left s → StepsOn text front events s left' s' marks (Ok r)) → Scanned text left' s'
scans_on text left left' s s' marks r h step =
    record {
      size = h.size;
      front = h.front ++ (r.mode, r.seen.kind) ∷ [];
      events = (h.events ++ map Marked marks) ++ Took (r.mode, r.seen.kind) ∷ [];
      at = (step text h.front h.events h.at).1;
    }

pub scan_fault : (text : List ℕ) (left left' : Left) (s s' : State) (marks : List Mark) (r : SyntaxRefused) → Scanned text left s
    → ((text : List ℕ) (front : List Token) (events : List Event) → IsAt text front events left s → StepsOn text front events s left' s' marks (Err r)) → (left ≡ [] → ⊥) → IsRefused text r
scan_fault text left left' s s' marks (Fault f) h step some =
    first s h.front h.events left h.size h.at.spelled (h.at.more some) (live h.front left h.events h.at.read) h.at.read (step text h.front h.events h.at)
scan_fault text left left' s s' marks Memory h step some = tt

pub stops : (front : List Token) (m : Mode) (s s' : State) (f : SyntaxFault) → IsOnly front m → Sees s m (Err f) s' → IsFaultBehind front s f
stops front m s s' f only sees = of_text m s' only sees

pub begins : (text : List ℕ) (left : Left) (s : State) → length text ≤ longest_text → HasRead [] left [] → s ≡ start text → Scanned text left s
begins text left s size h e = record {
  size = size;
  front = [];
  events = [];
  at = record { read = h; spelled = subst (λ z. Spelled text z [] []) (sym e) nothing_read; more = λ some. tt };
}
