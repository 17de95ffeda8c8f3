-- What a script's text is for the grammar, and its first fault.
use Rattle.std.specs.Prelude.{◌≡◌, ◌<◌, ◌≤◌, ℕ, Bool, true, false, not, ◌||◌, ◌&&◌, List, [], ◌∷◌, ◌++◌, length, map, Option, Some, None, Result, Ok, Err, if◌then◌else◌}
use Rattle.ksh_lexer.specs.declared.fault.SyntaxFault.{SyntaxFault}
use Rattle.ksh_lexer.specs.declared.fault.SyntaxKind.{SyntaxKind}
use Rattle.ksh_lexer.specs.declared.fault.SyntaxKind.TheVariants as fault
use Rattle.ksh_lexer.specs.declared.kind.TokenKind.{TokenKind}
use Rattle.ksh_lexer.specs.declared.kind.TokenKind.TheVariants as token
use Rattle.ksh_lexer.specs.Place.{fault_at, longest_text, too_long}
use Rattle.ksh_syntax.specs.declared.kind.Kind.{Kind}
use Rattle.ksh_syntax.specs.declared.kind.Kind.TheVariants as kind
use Rattle.ksh_syntax.specs.declared.kind.Mode.{Mode}
use Rattle.ksh_syntax.specs.declared.part.Mark.{Mark}
use Rattle.ksh_syntax.specs.Sentences.{Decides, Event, HasRead, IsLive, IsLiveWithin, IsScript, Marked, MayCome, Tells, Token, Took, script, within_limit}
use Rattle.ksh_syntax.specs.Steps.{Left}
use Rattle.ksh_scan.specs.declared.opening.Opened.{Opened}
use Rattle.ksh_scan.specs.declared.opening.Opened.TheVariants.{Substitution, Backquote}
use Rattle.ksh_scan.specs.declared.opening.Opening.{Opening}
use Rattle.ksh_scan.specs.declared.refusal.SyntaxRefused.{SyntaxRefused}
use Rattle.ksh_scan.specs.declared.refusal.SyntaxRefused.TheVariants.{Fault, Memory}
use Rattle.ksh_scan.specs.declared.refusal.Unread.{Unread}
use Rattle.ksh_scan.specs.declared.refusal.Unread.TheVariants.{End, Word, Open, Other}
use Rattle.ksh_scan.specs.declared.see.Seen.{Seen}
use Rattle.ksh_scan.specs.declared.state.State.{State}
use Rattle.ksh_scan.specs.After.{after}
use Rattle.ksh_scan.specs.Arithmetic.{Told, bad_arithmetic}
use Rattle.ksh_scan.specs.Openings.{innermost}
use Rattle.ksh_scan.specs.Seeing.{text_of, Sees}

abbrev pub start : List ℕ → State
start text = record {
  source = record { lexer = (text, 0, []); tabs = false; expands = false; openings = [] };
  outer = [];
  here = None;
  command_word = None;
}

-- these tokens are the text's from its first byte to the state's place, of which these events are told; the arithmetic texts that
-- they end, where parsed with the script, are expressions
pub data Spelled (text : List ℕ) : State → List Token → List Event → Type 0 where
  nothing_read : Spelled text (start text) [] []
  one_more : (m : Mode) (n : Seen) (marks : List Mark) (s s' : State) (front : List Token) (events : List Event) → Spelled text s front events → Sees s m (Ok n) s'
      → bad_arithmetic s' m n ≡ None → Spelled text (after s' n marks) (front ++ (m, n.kind) ∷ []) ((events ++ map Marked marks) ++ Took (m, n.kind) ∷ [])

-- these tokens are a script with no more than 64 openings inside one another
abbrev pub IsShallow : List Token → List Event → Type 0
IsShallow ts events = Tells within_limit script ts [] events

-- the text is a script
abbrev pub IsText : List ℕ → Type 0
IsText text =
    (length text ≤ longest_text) × (s : State) × (front : List Token) × (events : List Event) × Spelled text s front events × IsScript front events × IsShallow front events

abbrev pub ends_text : Kind → Bool
ends_text kind.End = true
ends_text _ = false

-- none of these tokens is the end of the text
abbrev pub IsOpen : List Token → Type 0
IsOpen [] = Unit {0}
IsOpen (t ∷ ts) = (ends_text t.1 ≡ false) × IsOpen ts

-- no script goes on with a token of another mode
abbrev pub IsOnly : List Token → Mode → Type 0
IsOnly front m = (n : Mode) (k : Kind) → IsLive (front ++ (n, k) ∷ []) → n ≡ m

abbrev pub is_end : TokenKind → Bool
is_end token.End = true
is_end _ = false

-- what a token is that no script goes on with: the end of the text, a word, a `(` or something else
abbrev pub unread_kind : Kind → Unread
unread_kind kind.Open = Open
unread_kind kind.Start = Word
unread_kind kind.StartAssignment = Word
unread_kind kind.Element = Word
unread_kind kind.ValueOpen = Word
unread_kind kind.If = Word
unread_kind kind.Then = Word
unread_kind kind.Else = Word
unread_kind kind.Elif = Word
unread_kind kind.Fi = Word
unread_kind kind.Case = Word
unread_kind kind.Esac = Word
unread_kind kind.For = Word
unread_kind kind.While = Word
unread_kind kind.Until = Word
unread_kind kind.Do = Word
unread_kind kind.Done = Word
unread_kind kind.LeftBrace = Word
unread_kind kind.RightBrace = Word
unread_kind kind.Function = Word
unread_kind kind.Select = Word
unread_kind kind.LeftBrackets = Word
unread_kind kind.Bang = Word
unread_kind kind.RightBrackets = Word
unread_kind kind.In = Word
unread_kind kind.Time = Word
unread_kind kind.Namespace = Word
unread_kind kind.Typeset = Word
unread_kind kind.Unary = Word
unread_kind kind.Binary = Word
unread_kind kind.Name = Word
unread_kind kind.Dotted = Word
unread_kind kind.Assignment = Word
unread_kind kind.Other = Word
unread_kind _ = Other

abbrev pub unread_by : Seen → Unread
unread_by n = if is_end n.token.kind then End else unread_kind n.kind

-- a substitution that was opened last isn't closed; else the text ends too early
abbrev pub end_by : Opened → ℕ → ℕ → Told
end_by Substitution byte end = (fault.UnclosedSubstitution, byte)
end_by Backquote byte end = (fault.UnclosedSubstitution, byte)
end_by _ byte end = (fault.UnexpectedEnd, end)

abbrev pub end_fault : Option Opening → ℕ → Told
end_fault (Some o) end = end_by o.opened o.byte end
end_fault None end = (fault.UnexpectedEnd, end)

abbrev pub is_timed : Kind → Bool
is_timed kind.Time = true
is_timed kind.Namespace = true
is_timed _ = false

-- `time` and `namespace` where a command may begin aren't in the profile; where a name is needed another word is a bad one
abbrev pub word_fault : Bool → Bool → Bool → Kind → ℕ → Told
word_fault names others assignments k byte =
    if is_timed k && names then (fault.NotInProfile, byte) else
    if names && not (others || assignments) then (fault.BadName, byte) else (fault.UnexpectedToken, byte)

-- a `(` directly behind a word that can't name a function shows that it is a bad name
abbrev pub open_fault : Option ℕ → ℕ → Told
open_fault (Some word) byte = (fault.BadName, word)
open_fault None byte = (fault.UnexpectedToken, byte)

-- The fault of a token with which no script goes on. A name is needed where a name may come, and neither another word nor an
-- assignment may.
abbrev pub IsToldBy : Unread → List Token → State → Seen → Told → Type 0
IsToldBy End front s n told = told ≡ end_fault (innermost s.source.openings) n.token.from
IsToldBy Word front s n told = (names : Bool) × (others : Bool) × (assignments : Bool)
    × Decides names (MayCome front kind.Name) × Decides others (MayCome front kind.Other) × Decides assignments (MayCome front kind.Assignment)
    × (told ≡ word_fault names others assignments n.kind n.token.from)
IsToldBy Open front s n told = told ≡ open_fault s.command_word n.token.from
IsToldBy Other front s n told = told ≡ (fault.UnexpectedToken, n.token.from)

abbrev pub IsTold : List Token → State → Seen → Told → Type 0
IsTold front s n told = IsToldBy (unread_by n) front s n told

-- the fault of a token that isn't read: no script goes on with it, or only with too many openings, or the arithmetic text that it
-- ends is no expression
pub data IsUnread (front : List Token) (s : State) (m : Mode) (n : Seen) (f : SyntaxFault) : Type 0 where
  no_script : (told : Told) → (IsLive (front ++ (m, n.kind) ∷ []) → ⊥) → IsTold front s n told → f ≡ fault_at (text_of s) told.0 told.1 → IsUnread front s m n f
  too_deep : (IsLiveWithin (front ++ (m, n.kind) ∷ []) → ⊥) → MayCome front n.kind → f ≡ fault_at (text_of s) fault.TooDeep n.token.from → IsUnread front s m n f
  no_expression : (told : Told) → IsLive (front ++ (m, n.kind) ∷ []) → bad_arithmetic s m n ≡ Some told → f ≡ fault_at (text_of s) told.0 told.1 → IsUnread front s m n f

-- the fault of what comes behind these tokens: of the text, or of the token
pub data IsFaultBehind (front : List Token) (s : State) (f : SyntaxFault) : Type 0 where
  of_text : (m : Mode) (s' : State) → IsOnly front m → Sees s m (Err f) s' → IsFaultBehind front s f
  of_token : (m : Mode) (n : Seen) (s' : State) → IsOnly front m → Sees s m (Ok n) s' → IsUnread front s' m n f → IsFaultBehind front s f

-- The first fault of a text: it is too long, or the text goes on, what was read before the fault can be completed, with the events that
-- the grammar tells of it, and what comes then can't, or ends an arithmetic text that is no expression.
pub data HasFault (text : List ℕ) (f : SyntaxFault) : Type 0 where
  long : longest_text < length text → f ≡ too_long text → HasFault text f
  first : (s : State) (front : List Token) (events : List Event) (left : Left) → length text ≤ longest_text → Spelled text s front events → IsOpen front → IsLive front
      → HasRead front left events → IsFaultBehind front s f → HasFault text f

abbrev pub IsRefused : List ℕ → SyntaxRefused → Type 0
IsRefused text (Fault f) = HasFault text f
IsRefused text Memory = Unit {0}
