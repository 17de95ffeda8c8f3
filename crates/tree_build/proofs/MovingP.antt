-- What steps do to the tags of frames: simple commands, lists, conditions and compound commands.
use Rattle.std.specs.Prelude.{◌≡◌, ℕ, Bool, true, false, List, [], ◌∷◌, ◌++◌, Option, Some, None, Result, Ok, Err}
use Rattle.std.proofs.Common.{refl, sym, ◌∙◌, ap, subst}
use Rattle.ksh_ast.specs.declared.redirect.Redirect.{Redirect}
use Rattle.ksh_ast.specs.declared.tree.Argument.{Argument}
use Rattle.ksh_ast.specs.declared.tree.Assign.{Assign}
use Rattle.ksh_ast.specs.declared.tree.Command.{Command}
use Rattle.ksh_ast.specs.declared.tree.Item.{Item}
use Rattle.ksh_ast.specs.declared.tree.Piece.{Piece}
use Rattle.ksh_ast.specs.declared.tree.Term.{Term}
use Rattle.ksh_ast.specs.declared.tree.Test.{Test}
use Rattle.ksh_syntax.specs.declared.kind.Kind.{Kind}
use Rattle.ksh_syntax.specs.declared.kind.Kind.TheVariants as kind
use Rattle.tree_build.specs.Fits.{Fits, Is, Moves, opens}
use Rattle.tree_build.specs.Frame.{Frame, ArithmeticCommand, Case, ConditionCommand, For, Function, Group, Loop, Subshell, Chain, Finished, Lines, Linked, Listed, Nested, NoLink, Opened, Operands, Patterns, Piped, Simple, Stages, Terms, Tested}
use Rattle.tree_build.specs.Places.{place_at, place_of}
use Rattle.tree_build.specs.Silent.{opened}
use Rattle.tree_build.specs.declared.opening.Opening.{Opening}
use Rattle.tree_build.specs.declared.place.Place.{Place}
use Rattle.tree_build.specs.declared.place.Place.TheVariants as place
use Rattle.tree_build.specs.declared.unbuilt.Unbuilt.{Unbuilt}
use Rattle.tree_build.specs.declared.unbuilt.Unbuilt.TheVariants as unbuilt
use Rattle.tree_build.proofs.Moving.{opens_frame, one_for_one, fails_over, never_fits}
use Rattle.tree_build.proofs.PlacesP.{lines_stands, finished_stands, operands_stands, then_stands, else_stands, chain_stands, tested_stands, linked_stands, no_link_stands}
use Rattle.tree_moves.specs.Moves.{Row}
use Rattle.tree_moves.specs.Tags.{Tag}
use Rattle.tree_moves.specs.Tags as tag

-- ---- a frame comes on top

pub opens_lines : (old new : List Frame) → new ≡ Lines [] ∷ old → (rest : List Tag) → Fits rest old → Fits (tag.Lines ∷ rest) new
opens_lines old new n = opens_frame tag.Lines (Lines []) old new tt n

pub opens_patterns : (old new : List Frame) → new ≡ Patterns [] ∷ old → (rest : List Tag) → Fits rest old → Fits (tag.Patterns ∷ rest) new
opens_patterns old new n = opens_frame tag.Patterns (Patterns []) old new tt n

pub opens_terms : (old new : List Frame) → new ≡ Terms [] [] false ∷ old → (rest : List Tag) → Fits rest old → Fits (tag.Terms ∷ rest) new
opens_terms old new n = opens_frame tag.Terms (Terms [] [] false) old new tt n

pub opens_operands : (old new : List Frame) → new ≡ Operands [] ∷ old → (rest : List Tag) → Fits rest old → Fits (tag.OperandsNone ∷ rest) new
opens_operands old new n = opens_frame tag.OperandsNone (Operands []) old new refl n

pub opens_simple : (at line : ℕ) (old new : List Frame) → new ≡ Simple at line [] [] [] ∷ old → (rest : List Tag) → Fits rest old → Fits (tag.SimpleEmpty ∷ rest) new
opens_simple at line old new n = opens_frame tag.SimpleEmpty (Simple at line [] [] []) old new (refl, refl, refl) n

pub opens_stages : (line : ℕ) (old new : List Frame) → new ≡ Stages line false [] ∷ old → (rest : List Tag) → Fits rest old → Fits (tag.StagesFirst ∷ rest) new
opens_stages line old new n = opens_frame tag.StagesFirst (Stages line false []) old new (refl, refl) n

pub opens_no_link : (old new : List Frame) → new ≡ NoLink ∷ old → (rest : List Tag) → Fits rest old → Fits (tag.NoLink ∷ rest) new
opens_no_link old new n = opens_frame tag.NoLink NoLink old new tt n

-- ---- the frame on top goes on

pub ends_simple : (at line : ℕ) (assigns : List Assign) (words : List Argument) (rs : List (Redirect (List Piece))) (c : Command) (old s1 new : List Frame) → old ≡ Simple at line assigns words rs ∷ s1 → new ≡ Finished line c ∷ s1
    → (rest : List Tag) → Fits (tag.Simple ∷ rest) old → Fits (tag.Finished ∷ rest) new
ends_simple at line assigns words rs c old s1 new o n = one_for_one tag.Simple tag.Finished (Simple at line assigns words rs) (Finished line c) old s1 new (λ p. tt) o n

pub negates : (line : ℕ) (old s1 new : List Frame) → old ≡ Stages line false [] ∷ s1 → new ≡ Stages line true [] ∷ s1 → (rest : List Tag) → Fits (tag.StagesFirst ∷ rest) old → Fits (tag.Stages ∷ rest) new
negates line old s1 new o n = one_for_one tag.StagesFirst tag.Stages (Stages line false []) (Stages line true []) old s1 new (λ p. tt) o n

pub closes_lines : (is : List Item) (old s1 new : List Frame) → old ≡ Lines is ∷ s1 → new ≡ Listed is ∷ s1 → (rest : List Tag) → Fits (tag.Lines ∷ rest) old → Fits (tag.Listed ∷ rest) new
closes_lines is old s1 new o n = one_for_one tag.Lines tag.Listed (Lines is) (Listed is) old s1 new (λ p. tt) o n

pub turns_terms : (a1 a2 : List (List Term)) (ts us : List Term) (n m : Bool) (old s1 new : List Frame) → old ≡ Terms a1 ts n ∷ s1 → new ≡ Terms a2 us m ∷ s1 → (rest : List Tag) → Fits (tag.Terms ∷ rest) old → Fits (tag.Terms ∷ rest) new
turns_terms a1 a2 ts us n m old s1 new o e = one_for_one tag.Terms tag.Terms (Terms a1 ts n) (Terms a2 us m) old s1 new (λ p. tt) o e

pub closes_operands : (ws : List (List Piece)) (x : Test) (old s1 new : List Frame) → old ≡ Operands ws ∷ s1 → new ≡ Tested x ∷ s1 → (rest : List Tag) → Fits (tag.Operands ∷ rest) old → Fits (tag.Tested ∷ rest) new
closes_operands ws x old s1 new o n = one_for_one tag.Operands tag.Tested (Operands ws) (Tested x) old s1 new (λ p. tt) o n

pub opens_nested : (old new : List Frame) → new ≡ Nested ∷ old → (rest : List Tag) → Fits rest old → Fits (tag.Nested ∷ rest) new
opens_nested old new n = opens_frame tag.Nested Nested old new tt n

-- the frames stay
pub stays_fit : (old new : List Frame) → new ≡ old → (rest : List Tag) → Fits rest old → Fits rest new
stays_fit old new n rest h = subst (Fits rest) (sym n) h

-- ---- one step behind another

-- a step that fails is the first of two, and more stands below
pub fails_below : {B : Type 0} (a b more c : List Tag) (old new new' : List Frame) (e : Unbuilt) (r : Result B Unbuilt) → r ≡ Err e → Moves {A = Unit {0}} (a, b) old new (Err e) → Moves (a ++ more, c) old new' r
fails_below {B} a b more c old new new' e r is h = subst (λ (x : Result B Unbuilt). Moves (a ++ more, c) old new' x) (sym is) (fails_over (Unit {0}) B a b c more old new new' e h)

-- a step, where it succeeds, and the next
pub after : {B : Type 0} (a b c : List Tag) (old between new : List Frame) (r : Result B Unbuilt) → ((rest : List Tag) → Fits (a ++ rest) old → Fits (b ++ rest) between) → Moves (b, c) between new r → Moves (a, c) old new r
after a b c old between new (Ok y) first second = λ rest fits. second rest (first rest fits)
after a b c old between new (Err unbuilt.Stray) first second = λ rest fits. second rest (first rest fits)
after a b c old between new (Err unbuilt.Memory) first second = tt

pub then_lines : {B : Type 0} (a b : List Tag) (old between new : List Frame) (r : Result B Unbuilt) → ((rest : List Tag) → Fits (a ++ rest) old → Fits (b ++ rest) between) → Moves ([], tag.Lines ∷ []) between new r → Moves (a, tag.Lines ∷ b) old new r
then_lines a b old between new (Ok y) first second = λ rest fits. second (b ++ rest) (first rest fits)
then_lines a b old between new (Err unbuilt.Stray) first second = λ rest fits. second (b ++ rest) (first rest fits)
then_lines a b old between new (Err unbuilt.Memory) first second = tt

pub then_terms : {B : Type 0} (a b : List Tag) (old between new : List Frame) (r : Result B Unbuilt) → ((rest : List Tag) → Fits (a ++ rest) old → Fits (b ++ rest) between) → Moves ([], tag.Terms ∷ []) between new r → Moves (a, tag.Terms ∷ b) old new r
then_terms a b old between new (Ok y) first second = λ rest fits. second (b ++ rest) (first rest fits)
then_terms a b old between new (Err unbuilt.Stray) first second = λ rest fits. second (b ++ rest) (first rest fits)
then_terms a b old between new (Err unbuilt.Memory) first second = tt

pub then_text : {B : Type 0} (a b : List Tag) (old between new : List Frame) (r : Result B Unbuilt) → ((rest : List Tag) → Fits (a ++ rest) old → Fits (b ++ rest) between) → Moves ([], tag.Text ∷ []) between new r → Moves (a, tag.Text ∷ b) old new r
then_text a b old between new (Ok y) first second = λ rest fits. second (b ++ rest) (first rest fits)
then_text a b old between new (Err unbuilt.Stray) first second = λ rest fits. second (b ++ rest) (first rest fits)
then_text a b old between new (Err unbuilt.Memory) first second = tt

-- ---- a pipeline is finished, and what stands below it goes on
pub joins_on : {B : Type 0} (c : List Tag) (old between new : List Frame) (r : Result B Unbuilt) → ((rest : List Tag) → Fits (tag.Finished ∷ tag.Stages ∷ rest) old → Fits (tag.Piped ∷ rest) between)
    → Moves (tag.Piped ∷ tag.Link ∷ [], c) between new r → Moves (tag.Finished ∷ tag.Stages ∷ tag.Link ∷ [], c) old new r
joins_on c old between new r first second = after (tag.Finished ∷ tag.Stages ∷ tag.Link ∷ []) (tag.Piped ∷ tag.Link ∷ []) c old between new r (λ rest fits. first (tag.Link ∷ rest) fits) second

pub ends_chain : {B : Type 0} (c : List Tag) (old between new : List Frame) (r : Result B Unbuilt) → ((rest : List Tag) → Fits (tag.Finished ∷ tag.Stages ∷ tag.Link ∷ rest) old → Fits (tag.Chain ∷ rest) between)
    → Moves (tag.Chain ∷ tag.Lines ∷ [], c) between new r → Moves (tag.Finished ∷ tag.Stages ∷ tag.Link ∷ tag.Lines ∷ [], c) old new r
ends_chain c old between new r first second = after (tag.Finished ∷ tag.Stages ∷ tag.Link ∷ tag.Lines ∷ []) (tag.Chain ∷ tag.Lines ∷ []) c old between new r (λ rest fits. first (tag.Lines ∷ rest) fits) second

pub ends_operands : {B : Type 0} (c : List Tag) (old between new : List Frame) (r : Result B Unbuilt) → ((rest : List Tag) → Fits (tag.Operands ∷ rest) old → Fits (tag.Tested ∷ rest) between)
    → Moves (tag.Tested ∷ tag.Terms ∷ [], c) between new r → Moves (tag.Operands ∷ tag.Terms ∷ [], c) old new r
ends_operands c old between new r first second = after (tag.Operands ∷ tag.Terms ∷ []) (tag.Tested ∷ tag.Terms ∷ []) c old between new r (λ rest fits. first (tag.Terms ∷ rest) fits) second

-- ---- by what stands on top, or below the top

-- frames on top with this tag have this place
top_at : (t : Tag) (q : Place) (old : List Frame) → ((f : Frame) → Is t f → place_of f ≡ q) → (rest : List Tag) → Fits (t ∷ rest) old → place_at old 0 ≡ q
top_at t q [] is rest h = absurd h
top_at t q (f ∷ fs) is rest h = is f h.0

second_at : (s t : Tag) (q : Place) (old : List Frame) → ((f : Frame) → Is t f → place_of f ≡ q) → (rest : List Tag) → Fits (s ∷ t ∷ rest) old → place_at old 1 ≡ q
second_at s t q [] is rest h = absurd h
second_at s t q (f ∷ []) is rest h = absurd h.1
second_at s t q (f ∷ g ∷ fs) is rest h = is g h.1.0

other_not_lines : (q : Place) → q ≡ place.Other → q ≡ place.Lines → ⊥
other_not_lines q e e' = absurd cc

lines_not_finished : (q : Place) → q ≡ place.Lines → q ≡ place.Finished → ⊥
lines_not_finished q e e' = absurd cc

other_not_operands : (q : Place) → q ≡ place.Other → q ≡ place.Operands → ⊥
other_not_operands q e e' = absurd cc

else_not_then : (q : Place) → q ≡ place.Else → q ≡ place.Then → ⊥
else_not_then q e e' = absurd cc

pub no_lines : {A : Type 0} (ts b : List Tag) (old new : List Frame) (r : Result A Unbuilt) → (place_at old 0 ≡ place.Lines → ⊥) → Moves (tag.Lines ∷ ts, b) old new r
no_lines ts b old new r never = never_fits (tag.Lines ∷ ts, b) old new r (λ rest h. never (top_at tag.Lines place.Lines old lines_stands (ts ++ rest) h))

pub no_chain : {A : Type 0} (ts b : List Tag) (old new : List Frame) (r : Result A Unbuilt) → place_at old 0 ≡ place.Lines → Moves (tag.Chain ∷ ts, b) old new r
no_chain ts b old new r is = never_fits (tag.Chain ∷ ts, b) old new r (λ rest h. other_not_lines (place_at old 0) (top_at tag.Chain place.Other old chain_stands (ts ++ rest) h) is)

pub finished_no_lines : {A : Type 0} (ts b : List Tag) (old new : List Frame) (r : Result A Unbuilt) → place_at old 0 ≡ place.Finished → Moves (tag.Lines ∷ ts, b) old new r
finished_no_lines ts b old new r is = never_fits (tag.Lines ∷ ts, b) old new r (λ rest h. lines_not_finished (place_at old 0) (top_at tag.Lines place.Lines old lines_stands (ts ++ rest) h) is)

pub operands_no_tested : {A : Type 0} (ts b : List Tag) (old new : List Frame) (r : Result A Unbuilt) → place_at old 0 ≡ place.Operands → Moves (tag.Tested ∷ ts, b) old new r
operands_no_tested ts b old new r is = never_fits (tag.Tested ∷ ts, b) old new r (λ rest h. other_not_operands (place_at old 0) (top_at tag.Tested place.Other old tested_stands (ts ++ rest) h) is)

pub no_finished : (old new : List Frame) → (place_at old 0 ≡ place.Finished → ⊥) → (rest : List Tag) → Fits (tag.Finished ∷ tag.Stages ∷ tag.Link ∷ rest) old → Fits (tag.Chain ∷ rest) new
no_finished old new never rest h = absurd (never (top_at tag.Finished place.Finished old finished_stands (tag.Stages ∷ tag.Link ∷ rest) h))

pub no_operands : (old new : List Frame) → (place_at old 0 ≡ place.Operands → ⊥) → (rest : List Tag) → Fits (tag.Operands ∷ rest) old → Fits (tag.Tested ∷ rest) new
no_operands old new never rest h = absurd (never (top_at tag.Operands place.Operands old operands_stands rest h))

pub lines_stay : (old new : List Frame) → new ≡ old → (rest : List Tag) → Fits (tag.Lines ∷ rest) old → Fits (tag.Lines ∷ rest) new
lines_stay old new n rest h = subst (Fits (tag.Lines ∷ rest)) (sym n) h

pub tested_stays : (old new : List Frame) → new ≡ old → (rest : List Tag) → Fits (tag.Tested ∷ rest) old → Fits (tag.Tested ∷ rest) new
tested_stays old new n rest h = subst (Fits (tag.Tested ∷ rest)) (sym n) h

pub then_no_else : {A : Type 0} (s : Tag) (ts b : List Tag) (old new : List Frame) (r : Result A Unbuilt) → place_at old 1 ≡ place.Then → Moves (s ∷ tag.Else ∷ ts, b) old new r
then_no_else s ts b old new r is = never_fits (s ∷ tag.Else ∷ ts, b) old new r (λ rest h. else_not_then (place_at old 1) (second_at s tag.Else place.Else old else_stands (ts ++ rest) h) is)

pub no_then : {A : Type 0} (s : Tag) (ts b : List Tag) (old new : List Frame) (r : Result A Unbuilt) → (place_at old 1 ≡ place.Then → ⊥) → Moves (s ∷ tag.Then ∷ ts, b) old new r
no_then s ts b old new r never = never_fits (s ∷ tag.Then ∷ ts, b) old new r (λ rest h. never (second_at s tag.Then place.Then old then_stands (ts ++ rest) h))

linked_below : (old : List Frame) → place_at old 1 ≡ place.Linked → (rest : List Tag) → Fits (tag.Piped ∷ tag.Link ∷ rest) old → Fits (tag.Piped ∷ tag.Linked ∷ rest) old
linked_below [] is rest h = absurd h
linked_below (f ∷ []) is rest h = absurd h.1
linked_below (f ∷ g ∷ fs) is rest h = (h.0, (linked_stands g h.1.0 is, h.1.1))

no_link_below : (old : List Frame) → (place_at old 1 ≡ place.Linked → ⊥) → (rest : List Tag) → Fits (tag.Piped ∷ tag.Link ∷ rest) old → Fits (tag.Piped ∷ tag.NoLink ∷ rest) old
no_link_below [] never rest h = absurd h
no_link_below (f ∷ []) never rest h = absurd h.1
no_link_below (f ∷ g ∷ fs) never rest h = (h.0, (no_link_stands g h.1.0 never, h.1.1))

pub is_linked : {A : Type 0} (c : List Tag) (old new : List Frame) (r : Result A Unbuilt) → place_at old 1 ≡ place.Linked → Moves (tag.Piped ∷ tag.Linked ∷ [], c) old new r → Moves (tag.Piped ∷ tag.Link ∷ [], c) old new r
is_linked c old new r is moves = after (tag.Piped ∷ tag.Link ∷ []) (tag.Piped ∷ tag.Linked ∷ []) c old old new r (linked_below old is) moves

pub is_not_linked : {A : Type 0} (c : List Tag) (old new : List Frame) (r : Result A Unbuilt) → (place_at old 1 ≡ place.Linked → ⊥) → Moves (tag.Piped ∷ tag.NoLink ∷ [], c) old new r → Moves (tag.Piped ∷ tag.Link ∷ [], c) old new r
is_not_linked c old new r never moves = after (tag.Piped ∷ tag.Link ∷ []) (tag.Piped ∷ tag.NoLink ∷ []) c old old new r (no_link_below old never) moves

-- ---- what opens a compound command
pub if_opens : {A : Type 0} (k : Kind) (t : Tag) (old new : List Frame) (r : Result A Unbuilt) → k ≡ kind.If → opens k ≡ Some t → Moves ([], tag.If ∷ []) old new r → Moves ([], t ∷ []) old new r
if_opens k t old new r is e moves = let i : Some tag.If ≡ Some t = sym (ap opens is) ∙ e in let j : tag.If ≡ t = cc in subst (λ x. Moves ([], x ∷ []) old new r) j moves

tagged : (a t : Tag) (g f : Frame) → Is a g → Some g ≡ Some f → Some a ≡ Some t → Is t f
tagged a t g f is e h = let same : g ≡ f = cc in let name : a ≡ t = cc in subst (λ x. Is t x) same (subst (λ x. Is x g) name is)

-- what a token opens has the tag that the token opens
opened_is : (k : Kind) (from line : ℕ) (t : Tag) (o : Opening) → opened k from line ≡ Some (Opened o) → opens k ≡ Some t → Is t (Opened o)
opened_is kind.DoubleParenthesis from line t o e h = tagged tag.ArithmeticCommand t (ArithmeticCommand line) (Opened o) tt e h
opened_is kind.Open from line t o e h = tagged tag.Subshell t (Subshell line) (Opened o) tt e h
opened_is kind.Case from line t o e h = tagged tag.Case t (Case line) (Opened o) tt e h
opened_is kind.For from line t o e h = tagged tag.ForLoop t (For line false) (Opened o) refl e h
opened_is kind.While from line t o e h = tagged tag.Loop t (Loop line false) (Opened o) tt e h
opened_is kind.Until from line t o e h = tagged tag.Loop t (Loop line true) (Opened o) tt e h
opened_is kind.LeftBrace from line t o e h = tagged tag.Group t (Group line) (Opened o) tt e h
opened_is kind.Function from line t o e h = tagged tag.Function t (Function from line) (Opened o) tt e h
opened_is kind.Select from line t o e h = tagged tag.ForSelect t (For line true) (Opened o) refl e h
opened_is kind.LeftBrackets from line t o e h = tagged tag.ConditionCommand t (ConditionCommand line) (Opened o) tt e h
opened_is kind.If from line t o e h = absurd cc
opened_is _ from line t o e h = absurd cc

pub opens_other : (k : Kind) (from line : ℕ) (o : Opening) (t : Tag) (old new : List Frame) → opened k from line ≡ Some (Opened o) → opens k ≡ Some t → new ≡ Opened o ∷ old → (rest : List Tag) → Fits rest old → Fits (t ∷ rest) new
opens_other k from line o t old new e h n = opens_frame t (Opened o) old new (opened_is k from line t o e h) n

-- what opens nothing
pub opens_nothing : (k : Kind) → (k ≡ kind.LeftBrace → ⊥) → (k ≡ kind.Open → ⊥) → (k ≡ kind.DoubleParenthesis → ⊥) → (k ≡ kind.LeftBrackets → ⊥) → (k ≡ kind.While → ⊥) → (k ≡ kind.Until → ⊥) → (k ≡ kind.For → ⊥)
    → (k ≡ kind.Select → ⊥) → (k ≡ kind.Case → ⊥) → (k ≡ kind.Function → ⊥) → (k ≡ kind.If → ⊥) → opens k ≡ None
opens_nothing kind.LeftBrace n0 n1 n2 n3 n4 n5 n6 n7 n8 n9 n10 = absurd (n0 refl)
opens_nothing kind.Open n0 n1 n2 n3 n4 n5 n6 n7 n8 n9 n10 = absurd (n1 refl)
opens_nothing kind.DoubleParenthesis n0 n1 n2 n3 n4 n5 n6 n7 n8 n9 n10 = absurd (n2 refl)
opens_nothing kind.LeftBrackets n0 n1 n2 n3 n4 n5 n6 n7 n8 n9 n10 = absurd (n3 refl)
opens_nothing kind.While n0 n1 n2 n3 n4 n5 n6 n7 n8 n9 n10 = absurd (n4 refl)
opens_nothing kind.Until n0 n1 n2 n3 n4 n5 n6 n7 n8 n9 n10 = absurd (n5 refl)
opens_nothing kind.For n0 n1 n2 n3 n4 n5 n6 n7 n8 n9 n10 = absurd (n6 refl)
opens_nothing kind.Select n0 n1 n2 n3 n4 n5 n6 n7 n8 n9 n10 = absurd (n7 refl)
opens_nothing kind.Case n0 n1 n2 n3 n4 n5 n6 n7 n8 n9 n10 = absurd (n8 refl)
opens_nothing kind.Function n0 n1 n2 n3 n4 n5 n6 n7 n8 n9 n10 = absurd (n9 refl)
opens_nothing kind.If n0 n1 n2 n3 n4 n5 n6 n7 n8 n9 n10 = absurd (n10 refl)
opens_nothing _ n0 n1 n2 n3 n4 n5 n6 n7 n8 n9 n10 = refl
