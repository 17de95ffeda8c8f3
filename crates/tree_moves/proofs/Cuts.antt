-- Where a builder has its steps for a script and its bodies, it has them for each text by itself.
use Rattle.std.specs.Prelude.{◌≡◌, Bool, true, false, List, [], ◌∷◌, ◌++◌, Some, None, option_and_then, All, if◌then◌else◌}
use Rattle.std.proofs.Common.{refl, sym, ◌∙◌, ap, subst}
use Rattle.std.proofs.lemmas.List.Elements.{All-nil, All-push}
use Rattle.ksh_syntax.specs.Sentences.{Event}
use Rattle.tree_moves.specs.Tags.{Tag}
use Rattle.tree_moves.specs.Tags as tag
use Rattle.tree_moves.specs.Moves.{step}
use Rattle.tree_moves.specs.Turns.{State, Role, Own, Opens, Next, Last, Ends, behind_body, is_text, role_in, turn, turn_by, turns}
use Rattle.tree_moves.specs.Texts.{Texts, TextsMove, cut, cut_by, cut_open, moved}
use Rattle.tree_moves.proofs.Theorem.{never_strays}
use Rattle.tree_moves.proofs.Words.{mapped, text_so, then_goes}

-- one event more
moved_one : (es : List Event) (e : Event) (ts us vs : List Tag) → moved es ts ≡ Some us → step e us ≡ Some vs → moved (es ++ e ∷ []) ts ≡ Some vs
moved_one [] e ts us vs h k =
    let same : ts ≡ us = cc in
    ap (λ xs. option_and_then (moved []) (step e xs)) same ∙ ap (option_and_then (moved [])) k
moved_one (x ∷ es) e ts us vs h k =
    let f = then_goes (moved es) (step x ts) us h in
    ap (option_and_then (moved (es ++ e ∷ []))) f.some ∙ moved_one es e f.x us vs f.goes k

-- a body within another text begins without pieces, and a script without commands
abbrev start : State → List Tag
start [] = tag.Lines ∷ []
start (us ∷ outer) = tag.Text ∷ []

-- the events of each text that is open lead to its tags
abbrev Stand : List (List Event) → State → Type 0
Stand [] [] = Unit {0}
Stand [] (ts ∷ outer) = ⊥
Stand (now ∷ texts) [] = ⊥
Stand (now ∷ texts) (ts ∷ outer) = (moved now (start outer) ≡ Some ts) × Stand texts outer

abbrev Moves : List Event → Type 0
Moves body = moved body (tag.Text ∷ []) ≡ Some (tag.Text ∷ [])

-- bodies that have ended, and texts that are open
abbrev Holds : Texts → State → Type 0
Holds t s = All Moves t.0 × Stand t.1 s

record Ended (ts : List Tag) (outer now s : State) : Type 0 where
  us : List Tag
  rest : State
  within : outer ≡ us ∷ rest
  text : ts ≡ tag.Text ∷ []
  same : now ≡ s

ended_by : (b : Bool) (ts : List Tag) (outer now s : State) → (b ≡ true → ts ≡ tag.Text ∷ []) → (if b then behind_body outer now else None) ≡ Some s → Ended ts outer now s
ended_by true ts [] now s text h = cc
ended_by true ts (us ∷ rest) now s text h = record { us = us; rest = rest; within = refl; text = text refl; same = cc }
ended_by false ts outer now s text h = cc

-- the events of a body that ends
body_moves : (now : List Event) (ts : List Tag) (outer s s' : State) → Ended ts outer s s' → moved now (start outer) ≡ Some ts → Moves now
body_moves now ts outer s s' k h = ap (λ o. moved now (start o)) (sym k.within) ∙ h ∙ ap (λ xs. Some xs) k.text

role_holds : (r : Role) (e : Event) (done : List (List Event)) (now : List Event) (texts : List (List Event)) (ts : List Tag) (outer s : State)
    → All Moves done → moved now (start outer) ≡ Some ts → Stand texts outer → turn_by r e ts outer ≡ Some s → Holds (cut_by r e done now texts) s
role_holds Own e done now texts ts outer s all m b h =
    let k = mapped (λ us. us ∷ outer) (step e ts) s h in
    (all, subst (Stand ((now ++ e ∷ []) ∷ texts)) k.same (moved_one now e (start outer) ts k.x m k.some, b))
role_holds Opens e done now texts ts outer s all m b h =
    let k = mapped (λ us. (tag.Text ∷ []) ∷ us ∷ outer) (step e ts) s h in
    (all, subst (Stand ([] ∷ (now ++ e ∷ []) ∷ texts)) k.same (refl, (moved_one now e (start outer) ts k.x m k.some, b)))
role_holds Next e done now texts ts outer s all m b h =
    let k = ended_by (is_text ts) ts outer (ts ∷ outer) s (text_so ts) h in
    let begins : moved [] (start outer) ≡ Some ts = ap (λ o. moved [] (start o)) k.within ∙ ap (λ xs. Some xs) (sym k.text) in
    (All-push Moves done now all (body_moves now ts outer (ts ∷ outer) s k m), subst (Stand ([] ∷ texts)) k.same (begins, b))
role_holds Last e done now texts ts outer s all m b h =
    let k = ended_by (is_text ts) ts outer outer s (text_so ts) h in
    (All-push Moves done now all (body_moves now ts outer outer s k m), subst (Stand texts) k.same b)
role_holds Ends e done now texts ts outer s all m b h =
    let same : ts ∷ outer ≡ s = cc in
    (all, subst (Stand (now ∷ texts)) same (m, b))

turn_holds : (e : Event) (done texts : List (List Event)) (s s' : State) → All Moves done → Stand texts s → turn e s ≡ Some s' → Holds (cut_open e done texts) s'
turn_holds e done [] [] s' all b h = cc
turn_holds e done [] (ts ∷ outer) s' all b h = absurd b
turn_holds e done (now ∷ texts) [] s' all b h = absurd b
turn_holds e done (now ∷ texts) (ts ∷ outer) s' all b h = role_holds (role_in e) e done now texts ts outer s' all b.0 b.1 h

turns_hold : (es : List Event) (t : Texts) (s s' : State) → Holds t s → turns es s ≡ Some s' → Holds (cut es t) s'
turns_hold [] t s s' b h = let same : s ≡ s' = cc in subst (Holds t) same b
turns_hold (e ∷ es) t s s' b h =
    let k = then_goes (turns es) (turn e s) s' h in
    turns_hold es (cut_open e t.0 t.1) k.x s' (turn_holds e t.0 t.1 s k.x b.0 b.1 k.some) k.goes

record Whole (texts : List (List Event)) (ts : List Tag) : Type 0 where
  own : List Event
  alone : texts ≡ own ∷ []
  moves : moved own (tag.Lines ∷ []) ≡ Some ts

whole : (texts : List (List Event)) (ts : List Tag) → Stand texts (ts ∷ []) → Whole texts ts
whole [] ts b = absurd b
whole (own ∷ []) ts b = record { own = own; alone = refl; moves = b.0 }
whole (own ∷ next ∷ texts) ts b = absurd b.1

pub texts_move : TextsMove
texts_move ts events h l =
    let b = turns_hold events ([], [] ∷ []) ((tag.Lines ∷ []) ∷ []) ((tag.Listed ∷ []) ∷ []) (All-nil Moves, (refl, tt)) (never_strays ts events h l) in
    let k = whole (cut events ([], [] ∷ [])).1 (tag.Listed ∷ []) b.1 in
    ((cut events ([], [] ∷ [])).0, k.own, ap (λ xs. ((cut events ([], [] ∷ [])).0, xs)) k.alone, k.moves, b.0)
