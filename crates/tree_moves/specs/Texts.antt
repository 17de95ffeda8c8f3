-- The events of each text by itself: of a script, and of each body of a here-document.
use Rattle.std.specs.Prelude.{◌≡◌, true, List, [], ◌∷◌, ◌++◌, Option, Some, option_and_then, All}
use Rattle.std.specs.List.{list_all}
use Rattle.ksh_syntax.specs.Sentences.{Event, Token, IsScript}
use Rattle.tree_moves.specs.Tags.{Tag}
use Rattle.tree_moves.specs.Tags as tag
use Rattle.tree_moves.specs.Moves.{step}
use Rattle.tree_moves.specs.Turns.{Role, Own, Opens, Next, Last, Ends, role_in, is_lexed}

-- the bodies that have ended, in the order of their ends, and the texts that are open, the innermost first
abbrev pub Texts : Type 0
Texts = List (List Event) × List (List Event)

abbrev pub cut_by : Role → Event → List (List Event) → List Event → List (List Event) → Texts
cut_by Own e done now outer = (done, (now ++ e ∷ []) ∷ outer)
cut_by Opens e done now outer = (done, [] ∷ (now ++ e ∷ []) ∷ outer)
cut_by Next e done now outer = (done ++ now ∷ [], [] ∷ outer)
cut_by Last e done now outer = (done ++ now ∷ [], outer)
cut_by Ends e done now outer = (done, now ∷ outer)

abbrev pub cut_open : Event → List (List Event) → List (List Event) → Texts
cut_open e done [] = (done, [])
cut_open e done (now ∷ outer) = cut_by (role_in e) e done now outer

-- each event goes to the text that it belongs to; the end of a body to none
abbrev pub cut : List Event → Texts → Texts
cut [] t = t
cut (e ∷ es) t = cut es (cut_open e t.0 t.1)

-- the tags behind the events of one text
abbrev pub moved : List Event → List Tag → Option (List Tag)
moved [] ts = Some ts
moved (e ∷ es) ts = option_and_then (moved es) (step e ts)

-- the events of a script's own text lead a builder from no command to one list, and those of each body from no piece to pieces
abbrev pub TextsMove : Type 0
TextsMove = (ts : List Token) (events : List Event) → IsScript ts events → list_all is_lexed ts ≡ true
    → (bodies : List (List Event)) × (own : List Event) × (cut events ([], [] ∷ []) ≡ (bodies, own ∷ []))
    × (moved own (tag.Lines ∷ []) ≡ Some (tag.Listed ∷ [])) × All (λ body. moved body (tag.Text ∷ []) ≡ Some (tag.Text ∷ [])) bodies
