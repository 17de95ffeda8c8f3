-- What is noted of a script.
use Rattle.std.specs.Prelude.{◌≡◌, ◌≤◌, ℕ, ◌+◌, Bool, true, false, List, [], ◌∷◌, ◌++◌, length, map, take, slice_set, if◌then◌else◌}
use Rattle.ksh_lexer.specs.declared.kind.Token.{Token as TextToken}
use Rattle.ksh_lexer.specs.Place.{longest_text, newlines}
use Rattle.ksh_syntax.specs.declared.kind.Kind.{Kind}
use Rattle.ksh_syntax.specs.declared.kind.Kind.TheVariants as kind
use Rattle.ksh_syntax.specs.declared.part.Mark.{Mark}
use Rattle.ksh_syntax.specs.Sentences.{Event, IsScript, Marked, Token, Took}
use Rattle.ksh_scan.specs.declared.after.ReadToken.{ReadToken}
use Rattle.ksh_scan.specs.declared.state.State.{State}
use Rattle.ksh_scan.specs.Scan.{start, IsShallow}
use Rattle.ksh_scan.specs.Steps.{Passes}
use Rattle.tree_parts.specs.declared.sign.Sign.{Sign}
use Rattle.tree_parts.specs.declared.sign.Moment.{Moment}
use Rattle.script_notes.specs.declared.note.Note.{Note}
use Rattle.script_notes.specs.declared.note.Note.TheVariants as note
use Rattle.script_notes.specs.declared.note.Notes.{Notes}
use Rattle.script_notes.specs.declared.noting.Noting.{Noting}
use Rattle.script_notes.specs.declared.noting.OpenText.{OpenText}

abbrev pub opened : ℕ → OpenText
opened number = record { number = number; notes = []; waiting = [] }

-- nothing was noted yet, and the script is the text of number 0
abbrev pub begin : Noting
begin = record { texts = [] ∷ []; text = opened 0; outer = []; behind = 0 }

-- the line of a byte, counted from 1
abbrev pub line_of : List ℕ → ℕ → ℕ
line_of text at = 1 + newlines (take at text)

abbrev pub sign_of : ReadToken → ℕ → Sign
sign_of r line = record { mode = r.mode; kind = r.seen.kind; token = r.seen.token.kind; from = r.seen.token.from; to = r.seen.token.to; line = line }

-- marks stand between the last token and the one that comes
abbrev pub moment_of : ℕ → TextToken → ℕ → Moment
moment_of behind t line = record { to = behind; from = t.from; line = line }

abbrev pub marked : List Mark → Moment → List Note
marked marks m = map (λ k. note.Mark k m) marks

abbrev pub adds : List Note → Noting → Noting
adds notes g = record g { text = record g.text { notes = g.text.notes ++ notes } }

-- the body of a here-document gets the next number, is heard here, and is read behind a later newline
abbrev pub awaits : Noting → Noting
awaits g = record g {
  texts = g.texts ++ [] ∷ [];
  text = record g.text { notes = g.text.notes ++ note.Body (length g.texts) ∷ []; waiting = g.text.waiting ++ length g.texts ∷ [] };
}

-- the end of a body isn't heard
abbrev pub ends_body : Kind → Bool
ends_body kind.BodyNext = true
ends_body kind.BodyLast = true
ends_body _ = false

abbrev pub awaits_where : Bool → Noting → Noting
awaits_where here g = if here then awaits g else g

abbrev pub noted_token : ℕ → ReadToken → Noting → Noting
noted_token line r g = if ends_body r.seen.kind then g else awaits_where r.ends_here_word (adds (note.Token (sign_of r line) ∷ []) g)

abbrev pub enters_first : List ℕ → Noting → Noting
enters_first [] g = g
enters_first (number ∷ more) g = record g { text = opened number; outer = record g.text { waiting = more } ∷ g.outer }

-- the body is read that is awaited first in the text
abbrev pub enters : Noting → Noting
enters g = enters_first g.text.waiting g

abbrev pub leaves_to : List OpenText → Noting → Noting
leaves_to [] g = g
leaves_to (o ∷ more) g = record g { texts = slice_set g.texts g.text.number g.text.notes; text = o; outer = more }

-- the body ends, and the text outside it is read
abbrev pub leaves : Noting → Noting
leaves g = leaves_to g.outer g

abbrev pub goes : Kind → Noting → Noting
goes kind.NewlineBodies g = enters g
goes kind.BodyNext g = enters (leaves g)
goes kind.BodyLast g = leaves g
goes _ g = g

-- a token is noted whose first byte stands on that line, and before it the marks
abbrev pub noted_on : ℕ → ReadToken → List Mark → Noting → Noting
noted_on line r marks g =
    record (goes r.seen.kind (noted_token line r (adds (marked marks (moment_of g.behind r.seen.token line)) g))) { behind = r.seen.token.to }

abbrev pub noted : List ℕ → ReadToken → List Mark → Noting → Noting
noted text r marks g = noted_on (line_of text r.seen.token.from) r marks g

-- these tokens are the text's from its first byte to the state's place, of which these events are told, and this is noted of them
pub data Noted (text : List ℕ) : State → List Token → List Event → Noting → Type 0 where
  nothing_noted : Noted text (start text) [] [] begin
  one_noted : (r : ReadToken) (marks : List Mark) (s s' : State) (front : List Token) (events : List Event) (g : Noting) → Noted text s front events g → Passes s r marks s'
      → Noted text s' (front ++ (r.mode, r.seen.kind) ∷ []) ((events ++ map Marked marks) ++ Took (r.mode, r.seen.kind) ∷ []) (noted text r marks g)

-- the notes of each text, where the one that is read ends
abbrev pub finished : Noting → List (List Note)
finished g = slice_set g.texts g.text.number g.text.notes

-- the text is a script with these notes
pub record IsNoted (text : List ℕ) (notes : Notes) : Type 0 where
  pub size : length text ≤ longest_text
  pub state : State
  pub front : List Token
  pub events : List Event
  pub noting : Noting
  pub was_noted : Noted text state front events noting
  pub script : IsScript front events
  pub shallow : IsShallow front events
  pub given : notes.texts ≡ finished noting
