-- Which token ends the word of a here-document: the tags of a text tell the same as what is open in it.
use Rattle.std.specs.Prelude.{◌≡◌, Bool, true, false, not, ◌||◌, ◌&&◌, List, [], ◌∷◌, Option, Some, None, option_and_then, option_map, if◌then◌else◌}
use Rattle.std.specs.List.{list_all}
use Rattle.ksh_syntax.specs.declared.kind.Mode.TheVariants as mode
use Rattle.ksh_syntax.specs.declared.kind.Kind.{Kind}
use Rattle.ksh_syntax.specs.declared.kind.Kind.TheVariants as kind
use Rattle.ksh_syntax.specs.declared.part.Mark.{Mark}
use Rattle.ksh_syntax.specs.declared.part.Mark.TheVariants as mark
use Rattle.ksh_syntax.specs.Sentences.{Event, Took, Marked, Token, IsScript}
use Rattle.ksh_syntax.specs.Takes.{is_bare, same_kind, same_mode}
use Rattle.tree_moves.specs.Tags.{Tag, same_tag}
use Rattle.tree_moves.specs.Tags as tag
use Rattle.tree_moves.specs.Moves.{moves, heard}
use Rattle.tree_moves.specs.Turns.{Role, Own, Opens, Next, Last, Ends, role_in, is_lexed, is_text}

-- what the marks before a token say that it does to what is open
pub data Waits : Type 0 where
  Still : Waits
  Opening : Waits
  Closing : Waits

-- a text that is open: its tags; of each opening in it, the innermost first, whether that is the word of a here-document; and what
-- waits for the next token
abbrev pub Text : Type 0
Text = List Tag × List Bool × Waits

abbrev pub has_any : List Tag → Bool
has_any [] = false
has_any (t ∷ ts) = true

abbrev pub is_on_top : Tag → List Tag → Bool
is_on_top t [] = false
is_on_top t (u ∷ us) = same_tag u t

-- the operator of a here-document stands directly before
abbrev pub is_behind_operator : List Tag → Bool
is_behind_operator ts = is_on_top tag.HereOperator ts

abbrev pub innermost : List Bool → Bool
innermost [] = false
innermost (o ∷ os) = o

-- a word with pieces begins
abbrev pub starts_word : Kind → Bool
starts_word k = same_kind k kind.Start || same_kind k kind.StartAssignment

-- whether a token ends the word of a here-document: it is a whole word behind the operator, or ends a word that was opened last
abbrev pub ends_here_word : Kind → Bool → Bool → Bool
ends_here_word k here word = (here && is_bare k) || (same_kind k kind.WordEnd && word)

abbrev pub same_bool : Bool → Bool → Bool
same_bool true b = b
same_bool false b = not b

-- the tags behind the token are those of an ended word where it ends one, and of an operator where it is one; behind an operator it
-- is read as a word of a condition is
abbrev pub agrees : Token → Text → List Tag → Bool
agrees t x us =
    has_any x.0 && (has_any us && ((not (is_behind_operator x.0) || same_mode t.0 mode.Condition)
    && (same_bool (is_on_top tag.HereWord us) (ends_here_word t.1 (is_behind_operator x.0) (innermost x.1))
    && same_bool (is_behind_operator us) (same_kind t.1 kind.HereRedirect))))

-- what is open behind a token that may open the word of a here-document
abbrev pub opened : Waits → Bool → List Bool → Option (List Bool)
opened Still word os = Some os
opened Opening word os = Some (word ∷ os)
opened Closing word [] = None
opened Closing word (o ∷ os) = Some os

abbrev pub with_openings : Option (List Tag) → Option (List Bool) → Option Text
with_openings None os = None
with_openings (Some ts) None = None
with_openings (Some ts) (Some os) = Some (ts, os, Still)

abbrev pub openings_behind : Token → Text → Option (List Bool)
openings_behind t x = opened x.2 (is_behind_operator x.0 && starts_word t.1) x.1

-- the text behind a token, where that leads to these tags
abbrev pub token_step : Token → Text → List Tag → Option Text
token_step t x us = if agrees t x us then with_openings (heard us) (openings_behind t x) else None

-- no builder hears the end of a script
abbrev pub end_step : Token → Text → Option Text
end_step t x = if agrees t x x.0 then with_openings (Some x.0) (openings_behind t x) else None

abbrev pub waits_behind : Mark → Waits → Option Waits
waits_behind mark.Opens Still = Some Opening
waits_behind mark.Opens Opening = None
waits_behind mark.Opens Closing = None
waits_behind mark.Closes Still = Some Closing
waits_behind mark.Closes Opening = None
waits_behind mark.Closes Closing = None
waits_behind m w = Some w

-- no mark ends a word or stands for an operator
abbrev pub agrees_on_mark : Text → List Tag → Bool
agrees_on_mark x us = has_any x.0 && (has_any us && (not (is_on_top tag.HereWord us) && same_bool (is_behind_operator us) (is_behind_operator x.0)))

abbrev pub mark_step : Mark → Text → List Tag → Option Text
mark_step m x us = if agrees_on_mark x us then option_map (λ w. (us, x.1, w)) (waits_behind m x.2) else None

abbrev pub text_step : Event → Text → Option Text
text_step (Took t) x = option_and_then (token_step t x) (moves (Took t) x.0)
text_step (Marked m) x = option_and_then (mark_step m x) (moves (Marked m) x.0)

-- the body of a here-document of which nothing was read
abbrev pub fresh : Text
fresh = (tag.Text ∷ [], [], Still)

abbrev pub is_still : Waits → Bool
is_still Still = true
is_still Opening = false
is_still Closing = false

abbrev pub is_body : Text → Bool
is_body x = is_text x.0 && is_still x.2

abbrev pub within_text : List Text → List Text → Option (List Text)
within_text [] now = None
within_text (x ∷ outer) now = Some now

abbrev pub ends_script : Event → Text → Option Text
ends_script (Took t) x = end_step t x
ends_script (Marked m) x = None

abbrev pub text_turn_by : Role → Event → Text → List Text → Option (List Text)
text_turn_by Own e x outer = option_map (λ y. y ∷ outer) (text_step e x)
text_turn_by Opens e x outer = option_map (λ y. fresh ∷ y ∷ outer) (text_step e x)
text_turn_by Next e x outer = if is_body x then within_text outer (fresh ∷ outer) else None
text_turn_by Last e x outer = if is_body x then within_text outer outer else None
text_turn_by Ends e x outer = option_map (λ y. y ∷ outer) (ends_script e x)

abbrev pub text_turn : Event → List Text → Option (List Text)
text_turn e [] = None
text_turn e (x ∷ outer) = text_turn_by (role_in e) e x outer

-- the texts behind events, the innermost first; nothing where the tags tell otherwise
abbrev pub text_turns : List Event → List Text → Option (List Text)
text_turns [] s = Some s
text_turns (e ∷ es) s = option_and_then (text_turns es) (text_turn e s)

-- along a script the tags tell where the word of a here-document ends
abbrev pub WordsAgree : Type 0
WordsAgree = (ts : List Token) (events : List Event) → IsScript ts events → list_all is_lexed ts ≡ true
    → text_turns events ((tag.Lines ∷ [], [], Still) ∷ []) ≡ Some ((tag.Listed ∷ [], [], Still) ∷ [])
