-- What one step of a scanner does.
use Rattle.std.specs.Prelude.{ℕ, Bool, false, List, [], ◌∷◌, ◌++◌, map, ◌≡◌, None, Result, Ok, Err}
use Rattle.ksh_syntax.specs.declared.kind.Mode.{Mode}
use Rattle.ksh_syntax.specs.declared.part.Mark.{Mark}
use Rattle.ksh_syntax.specs.Sentences.{Event, HasRead, Marked, Token, Took}
use Rattle.ksh_syntax.specs.Steps.{Left}
use Rattle.ksh_scan.specs.declared.after.ReadToken.{ReadToken}
use Rattle.ksh_scan.specs.declared.refusal.SyntaxRefused.{SyntaxRefused}
use Rattle.ksh_scan.specs.declared.refusal.SyntaxRefused.TheVariants.{Fault, Memory}
use Rattle.ksh_scan.specs.declared.see.Seen.{Seen}
use Rattle.ksh_scan.specs.declared.state.State.{State}
use Rattle.ksh_scan.specs.After.{after, ends_here_word}
use Rattle.ksh_scan.specs.Arithmetic.{bad_arithmetic}
use Rattle.ksh_scan.specs.Scan.{IsFaultBehind, IsOpen, IsUnread, Spelled, ends_text}
use Rattle.ksh_scan.specs.Seeing.{Sees}

-- these tokens were read, of which these events are told, and stand in the text before the state's place; where something is left
-- to read, the text goes on
pub record IsAt (text : List ℕ) (front : List Token) (events : List Event) (left : Left) (s : State) : Type 0 where
  pub read : HasRead front left events
  pub spelled : Spelled text s front events
  pub more : (left ≡ [] → ⊥) → IsOpen front

-- The token is the one that comes next in its mode, it ends no arithmetic text but an expression, it ends the word of a
-- here-document where it says so, and with these marks the state goes behind it.
pub record Passes (s : State) (r : ReadToken) (marks : List Mark) (s' : State) : Type 0 where
  pub at : State
  pub sees : Sees s r.mode (Ok r.seen) at
  pub fine : bad_arithmetic at r.mode r.seen ≡ None
  pub here : r.ends_here_word ≡ ends_here_word at r.seen
  pub behind : s' ≡ after at r.seen marks

abbrev pub read_token : Mode → Seen → Bool → ReadToken
read_token m n here = record { mode = m; seen = n; ends_here_word = here }

-- the token that is seen was read, and the state goes behind it; or this is its fault
abbrev pub TakesOn : List Token → List Event → Mode → Seen → State → Left → State → List Mark → Result ReadToken SyntaxRefused → Type 0
TakesOn front events m n s left s' marks (Ok r) =
    (r ≡ read_token m n (ends_here_word s n)) × (s' ≡ after s n marks) × (bad_arithmetic s m n ≡ None)
    × HasRead (front ++ (m, n.kind) ∷ []) left ((events ++ map Marked marks) ++ Took (m, n.kind) ∷ []) × ((left ≡ [] → ⊥) → ends_text n.kind ≡ false)
TakesOn front events m n s left s' marks (Err (Fault f)) = IsUnread front s m n f
TakesOn front events m n s left s' marks (Err Memory) = Unit {0}

-- the token that comes was read, in the mode in which it must be; or this is the fault of what comes
abbrev pub StepsOn : List ℕ → List Token → List Event → State → Left → State → List Mark → Result ReadToken SyntaxRefused → Type 0
StepsOn text front events s left s' marks (Ok r) =
    Passes s r marks s' × IsAt text (front ++ (r.mode, r.seen.kind) ∷ []) ((events ++ map Marked marks) ++ Took (r.mode, r.seen.kind) ∷ []) left s'
StepsOn text front events s left s' marks (Err (Fault f)) = IsFaultBehind front s f
StepsOn text front events s left s' marks (Err Memory) = Unit {0}
