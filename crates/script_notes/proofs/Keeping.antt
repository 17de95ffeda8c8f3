-- What the steps of a scanner show of the notes.
use Rattle.std.specs.Prelude.{◌≡◌, ◌≤◌, ℕ, ◌+◌, List, [], ◌∷◌, ◌++◌, length, map, min, reverse, slice_set, take, Ok, Err}
use Rattle.std.proofs.Common.{sym, ◌∙◌, ap, subst, append-nil}
use Rattle.std.proofs.lemmas.List.{set_past, take_min}
use Rattle.std.proofs.Math.Nat.{lt_of_not-le}
use Rattle.ksh_lexer.specs.declared.fault.SyntaxFault.{SyntaxFault}
use Rattle.ksh_lexer.specs.Place.{longest_text, newlines, too_long}
use Rattle.ksh_syntax.specs.declared.part.Mark.{Mark}
use Rattle.ksh_syntax.specs.Sentences.{Event, HasRead, IsScript, Marked, Tells, Token, Took, script, within_limit}
use Rattle.ksh_syntax.proofs.Laws.{live}
use Rattle.ksh_syntax.specs.Steps.{Left}
use Rattle.ksh_scan.specs.declared.after.ReadToken.{ReadToken}
use Rattle.ksh_scan.specs.declared.refusal.SyntaxRefused.{SyntaxRefused}
use Rattle.ksh_scan.specs.declared.refusal.SyntaxRefused.TheVariants.{Fault, Memory}
use Rattle.ksh_scan.specs.declared.state.State.{State}
use Rattle.ksh_grammar.specs.Grammar.{nothing}
use Rattle.ksh_scan.specs.Scan.{first, long, nothing_read, one_more, start, HasFault, IsOpen, IsRefused, IsShallow, IsText, Spelled}
use Rattle.ksh_scan.specs.Steps.{IsAt, StepsOn}
use Rattle.script_notes.specs.declared.note.Note.{Note}
use Rattle.script_notes.specs.declared.note.Notes.{Notes}
use Rattle.script_notes.specs.declared.noting.Noting.{Noting}
use Rattle.script_notes.specs.declared.noting.OpenText.{OpenText}
use Rattle.script_notes.specs.Noted.{begin, enters, enters_first, finished, leaves, leaves_to, line_of, noted, noted_on, nothing_noted, one_noted, IsNoted, Noted}

pub is_long : {A : Type 0} (text : List ℕ) (f : SyntaxFault) → (length text ≤ longest_text → A) → (A → ⊥) → f ≡ too_long text → HasFault text f
is_long text f short refuted e = long (lt_of_not-le (λ h. refuted (short h))) e

pub line_within : (text : List ℕ) (at line : ℕ) → line ≡ 1 + newlines (take (min at (length text)) text) → line ≡ line_of text at
line_within text at line e = e ∙ ap (λ bytes. 1 + newlines bytes) (take_min at text)

-- there is no place of that number
pub none_kept : (texts : List (List Note)) (number : ℕ) (notes : List Note) → length texts ≤ number → texts ≡ slice_set texts number notes
none_kept texts number notes past = sym (set_past texts number notes past)

-- no body is awaited
pub none_entered : (g : Noting) (left : List ℕ) → g.text.waiting ≡ [] → left ≡ [] → record g { text = record g.text { waiting = left } } ≡ enters g
none_entered g left none same =
    ap (λ w. record g { text = record g.text { waiting = w } }) (same ∙ sym none) ∙ sym (ap (λ w. enters_first w g) none)

-- nothing stands outside
pub none_left : (g : Noting) (left : List OpenText) → g.outer ≡ [] → left ≡ [] → record g { outer = left } ≡ leaves g
none_left g left none same = ap (λ o. record g { outer = o }) (same ∙ sym none) ∙ sym (ap (λ o. leaves_to o g) none)

-- what is noted spells the text
spelled : (text : List ℕ) {s : State} {front : List Token} {events : List Event} {g : Noting} → Noted text s front events g → Spelled text s front events
spelled text nothing_noted = nothing_read
spelled text (one_noted r marks s s' front events g h p) =
    subst (λ z. Spelled text z (front ++ (r.mode, r.seen.kind) ∷ []) ((events ++ map Marked marks) ++ Took (r.mode, r.seen.kind) ∷ [])) (sym p.behind)
    (one_more r.mode r.seen marks s p.at front events (spelled text h) p.sees p.fine)

-- the tokens so far, what is noted of them, and where the scanner stands
pub record Keeps (text : List ℕ) (left : Left) (s : State) (g : Noting) : Type 0 where
  pub size : length text ≤ longest_text
  pub front : List Token
  pub events : List Event
  pub was_noted : Noted text s front events g
  pub read : HasRead front left events
  pub more : (left ≡ [] → ⊥) → IsOpen front

stands : (text : List ℕ) (left : Left) (s : State) (g : Noting) (h : Keeps text left s g) → IsAt text h.front h.events left s
stands text left s g h = record { read = h.read; spelled = spelled text h.was_noted; more = h.more }

pub keeps_start : (text : List ℕ) (left : Left) (s : State) (g : Noting) → length text ≤ longest_text → HasRead [] left [] → s ≡ start text → g ≡ begin → Keeps text left s g
keeps_start text left s g size h is_start is_begin = record {
  size = size;
  front = [];
  events = [];
  was_noted = subst (λ z. Noted text z [] [] g) (sym is_start) (subst (λ z. Noted text (start text) [] [] z) (sym is_begin) nothing_noted);
  read = h;
  more = λ some. tt;
}

pub keeps_on : (text : List ℕ) (left left' : Left) (s s' : State) (marks : List Mark) (r : ReadToken) (line : ℕ) (g g' : Noting) → Keeps text left s g
    → ((text : List ℕ) (front : List Token) (events : List Event) → IsAt text front events left s → StepsOn text front events s left' s' marks (Ok r))
    → line ≡ line_of text r.seen.token.from → g' ≡ noted_on line r marks g → Keeps text left' s' g'
keeps_on text left left' s s' marks r line g g' h step is_line is_noted =
    let next : StepsOn text h.front h.events s left' s' marks (Ok r) = step text h.front h.events (stands text left s g h) in
    let same : g' ≡ noted text r marks g = is_noted ∙ ap (λ l. noted_on l r marks g) is_line in
    record {
      size = h.size;
      front = h.front ++ (r.mode, r.seen.kind) ∷ [];
      events = (h.events ++ map Marked marks) ++ Took (r.mode, r.seen.kind) ∷ [];
      was_noted = subst (λ z. Noted text s' (h.front ++ (r.mode, r.seen.kind) ∷ []) ((h.events ++ map Marked marks) ++ Took (r.mode, r.seen.kind) ∷ []) z) (sym same)
          (one_noted r marks s s' h.front h.events g h.was_noted next.0);
      read = next.1.read;
      more = next.1.more;
    }

pub keeps_fault : (text : List ℕ) (left left' : Left) (s s' : State) (marks : List Mark) (r : SyntaxRefused) (g : Noting) → Keeps text left s g
    → ((text : List ℕ) (front : List Token) (events : List Event) → IsAt text front events left s → StepsOn text front events s left' s' marks (Err r)) → (left ≡ [] → ⊥) → IsRefused text r
keeps_fault text left left' s s' marks (Fault f) g h step some =
    first s h.front h.events left h.size (spelled text h.was_noted) (h.more some) (live h.front left h.events h.read) h.read (step text h.front h.events (stands text left s g h))
keeps_fault text left left' s s' marks Memory g h step some = tt

shallow : (front : List Token) (left : Left) (events : List Event) → left ≡ [] → HasRead front left events → IsShallow front events
shallow front left events none h =
    let ends : Tells within_limit (reverse left) [] events events = subst (λ l. Tells within_limit (reverse l) [] events events) (sym none) nothing in
    subst (λ xs. Tells within_limit script xs [] events) (append-nil front) (h.within.goes_on [] events ends)

pub keeps_script : (text : List ℕ) (left : Left) (s : State) (g : Noting) (notes : Notes) → Keeps text left s g
    → ((front : List Token) (events : List Event) → HasRead front left events → IsScript front events) → left ≡ [] → notes.texts ≡ finished g → IsNoted text notes
keeps_script text left s g notes h whole none e = record {
  size = h.size;
  state = s;
  front = h.front;
  events = h.events;
  noting = g;
  was_noted = h.was_noted;
  script = whole h.front h.events h.read;
  shallow = shallow h.front left h.events none h.read;
  given = e;
}

pub keeps_text : (text : List ℕ) (left : Left) (s : State) (g : Noting) → Keeps text left s g
    → ((front : List Token) (events : List Event) → HasRead front left events → IsScript front events) → left ≡ [] → IsText text
keeps_text text left s g h whole none = (h.size, s, h.front, h.events, spelled text h.was_noted, whole h.front h.events h.read, shallow h.front left h.events none h.read)
