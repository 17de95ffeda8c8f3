-- What the events of a script do to the frames of the texts that are open: a script, and bodies of here-documents, which are texts of
-- their own.
use Rattle.std.specs.Prelude.{◌≡◌, Bool, true, false, not, ◌||◌, ◌&&◌, List, [], ◌∷◌, Option, Some, None, option_and_then, option_map, if◌then◌else◌}
use Rattle.std.specs.List.{list_all}
use Rattle.ksh_syntax.specs.declared.kind.Mode.TheVariants as mode
use Rattle.ksh_syntax.specs.declared.kind.Kind.{Kind}
use Rattle.ksh_syntax.specs.declared.kind.Kind.TheVariants as kind
use Rattle.ksh_syntax.specs.Sentences.{Event, Took, Marked, Token, IsScript}
use Rattle.ksh_syntax.specs.Takes.{same_kind, same_mode}
use Rattle.tree_moves.specs.Tags.{Tag, same_tag}
use Rattle.tree_moves.specs.Tags as tag
use Rattle.tree_moves.specs.Moves.{step}

-- the tags of each text that is open, the innermost text first
abbrev pub State : Type 0
State = List (List Tag)

-- what a token is for the texts
pub data Role : Type 0 where
  -- it belongs to the innermost
  Own : Role
  -- bodies stand behind it
  Opens : Role
  -- a body ends behind which another stands
  Next : Role
  -- the last body ends
  Last : Role
  -- no builder hears it
  Ends : Role

abbrev pub role_of : Kind → Role
role_of kind.NewlineBodies = Opens
role_of kind.BodyNext = Next
role_of kind.BodyLast = Last
role_of kind.End = Ends
role_of _ = Own

-- a text of which the pieces alone are open
abbrev pub is_text : List Tag → Bool
is_text (t ∷ []) = same_tag t tag.Text
is_text _ = false

-- bodies end within another text
abbrev pub behind_body : State → State → Option State
behind_body [] now = None
behind_body (us ∷ outer) now = Some now

abbrev pub turn_by : Role → Event → List Tag → State → Option State
turn_by Own e ts outer = option_map (λ us. us ∷ outer) (step e ts)
turn_by Opens e ts outer = option_map (λ us. (tag.Text ∷ []) ∷ us ∷ outer) (step e ts)
turn_by Next e ts outer = if is_text ts then behind_body outer (ts ∷ outer) else None
turn_by Last e ts outer = if is_text ts then behind_body outer outer else None
turn_by Ends e ts outer = Some (ts ∷ outer)

abbrev pub role_in : Event → Role
role_in (Took t) = role_of t.1
role_in (Marked m) = Own

abbrev pub turn : Event → State → Option State
turn e [] = None
turn e (ts ∷ outer) = turn_by (role_in e) e ts outer

-- the state behind events; nothing where the builder has no step for one of them
abbrev pub turns : List Event → State → Option State
turns [] s = Some s
turns (e ∷ es) s = option_and_then (turns es) (turn e s)

-- In patterns and conditions no assignments are known: no lexer gives the front of one there.
abbrev pub is_lexed : Token → Bool
is_lexed t = not ((same_mode t.0 mode.Pattern || same_mode t.0 mode.Condition) && (same_kind t.1 kind.Element || same_kind t.1 kind.ValueOpen))

-- a builder has a step for each event that is told of a script, and makes one list of all
abbrev pub NeverStrays : Type 0
NeverStrays = (ts : List Token) (events : List Event) → IsScript ts events → list_all is_lexed ts ≡ true
    → turns events ((tag.Lines ∷ []) ∷ []) ≡ Some ((tag.Listed ∷ []) ∷ [])
