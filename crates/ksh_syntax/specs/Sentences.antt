-- Which tokens make a script, and which may come next.
use Rattle.std.specs.Prelude.{◌≡◌, ℕ, Bool, true, false, nat_lt, List, [], ◌∷◌, ◌++◌, map, reverse, Result, Ok, Err}
use Rattle.ksh_base.specs.declared.memory.Memory.{Memory}
use Rattle.ksh_grammar.specs.declared.symbol.Symbol.TheVariants.{Part}
use Rattle.ksh_grammar.specs.Grammar.{Reads, IsLeft}
use Rattle.ksh_grammar.specs.Modes.{with_mode}
use Rattle.ksh_grammar.specs.Predict.{Fits}
use Rattle.ksh_grammar.specs.Rules.{IsRuleOf}
use Rattle.ksh_syntax.specs.declared.kind.Mode.{Mode}
use Rattle.ksh_syntax.specs.declared.kind.Kind.{Kind}
use Rattle.ksh_syntax.specs.declared.part.Part.TheVariants.{Script}
use Rattle.ksh_syntax.specs.declared.part.Mark.{Mark}
use Rattle.ksh_syntax.specs.declared.reading.Next.{Next}
use Rattle.ksh_syntax.specs.declared.reading.Next.TheVariants.{Taken, Refused, TooDeep}
use Rattle.ksh_syntax.specs.Takes.{takes, takes_in, same_mode}
use Rattle.ksh_syntax.specs.Rules.{rules, mode_of}
use Rattle.ksh_syntax.specs.Bounds.{starts, follows, follows_in, empty}
use Rattle.ksh_syntax.specs.Steps.{limit, Left}

-- a token: the mode in which it was read, and its kind
abbrev pub Token : Type 0
Token = Mode × Kind

-- what a reader of a script is told, one after another
pub data Event : Type 0 where
  Took : Token → Event
  Marked : Mark → Event

abbrev pub took : Token → List Event → List Event
took t events = events ++ Took t ∷ []

abbrev pub marked : Mark → List Event → List Event
marked m events = events ++ Marked m ∷ []

-- the symbols read these tokens, and tell these events beside the first ones; `may_open` says inside how many openings another may stand
abbrev pub Tells : (ℕ → Bool) → Left → List Token → List Event → List Event → Type 0
Tells may_open = Reads (λ (t : Token). t) (with_mode takes_in takes) (IsRuleOf rules may_open) took marked

abbrev pub anywhere : ℕ → Bool
anywhere d = true

-- inside fewer than 64 others
abbrev pub within_limit : ℕ → Bool
within_limit d = nat_lt d limit

abbrev pub script : Left
script = Part Script 0 ∷ []

-- these tokens are a script, of which these events are told
abbrev pub IsScript : List Token → List Event → Type 0
IsScript ts events = Tells anywhere script ts [] events

-- some further tokens make a script of these, and one with no more than 64 openings inside one another
abbrev pub IsLive : List Token → Type 0
IsLive ts = (more : List Token) × (events : List Event) × Tells anywhere script (ts ++ more) [] events

abbrev pub IsLiveWithin : List Token → Type 0
IsLiveWithin ts = (more : List Token) × (events : List Event) × Tells within_limit script (ts ++ more) [] events

-- some script goes on with a token of that kind
abbrev pub MayCome : List Token → Kind → Type 0
MayCome front k = (m : Mode) × IsLive (front ++ (m, k) ∷ [])

-- whether it is so
abbrev pub Decides : Bool → Type 0 → Type 0
Decides true A = A
Decides false A = A → ⊥

-- what comes after each part of what is left is known to come after it
abbrev pub FitsAll : Left → Type 0
FitsAll left = Fits (with_mode takes_in takes) (with_mode (λ p m. same_mode (mode_of p) m) starts) (with_mode follows_in follows) empty left (λ t. false)

-- These tokens were read and these events told, and this is left, the front last.
pub record HasRead (front : List Token) (left : Left) (events : List Event) : Type 0 where
  pub rest : IsLeft (λ (t : Token). t) (with_mode takes_in takes) (IsRuleOf rules anywhere) took marked script front [] (reverse left) events
  pub within : IsLeft (λ (t : Token). t) (with_mode takes_in takes) (IsRuleOf rules within_limit) took marked script front [] (reverse left) events
  pub fits : FitsAll (reverse left)

-- What becomes of a reading by a token: it is read, or no script goes on with it, or some script goes on with its kind, but none
-- without too many openings.
abbrev pub Goes : Token → Left → Left → List Mark → List Mark → Next → Type 0
Goes t old new before after Taken =
    (passed : List Mark) × (after ≡ before ++ passed)
    × ((front : List Token) (events : List Event) → HasRead front old events → HasRead (front ++ t ∷ []) new ((events ++ map Marked passed) ++ Took t ∷ []))
Goes t old new before after Refused = (front : List Token) (events : List Event) → HasRead front old events → IsLive (front ++ t ∷ []) → ⊥
Goes t old new before after TooDeep = (front : List Token) (events : List Event) → HasRead front old events
    → (IsLiveWithin (front ++ t ∷ []) → ⊥) × ((m : Mode) × IsLive (front ++ (m, t.1) ∷ []))

abbrev pub GoesOn : Token → Left → Left → List Mark → List Mark → Result Next Memory → Type 0
GoesOn t old new before after (Ok next) = Goes t old new before after next
GoesOn t old new before after (Err e) = Unit {0}
