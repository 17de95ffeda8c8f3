-- A step of a text stays one where more tags stand below and more is open outside.
use Rattle.std.specs.Prelude.{◌≡◌, Bool, true, false, not, ◌||◌, ◌&&◌, List, [], ◌∷◌, ◌++◌, Option, Some, None, option_and_then, option_map, if◌then◌else◌}
use Rattle.std.proofs.Common.{refl, sym, ◌∙◌, ap, subst}
use Rattle.ksh_syntax.specs.declared.kind.Mode.TheVariants as mode
use Rattle.ksh_syntax.specs.declared.kind.Kind.TheVariants as kind
use Rattle.ksh_syntax.specs.declared.part.Mark.{Mark}
use Rattle.ksh_syntax.specs.Sentences.{Took, Marked, Token}
use Rattle.ksh_syntax.specs.Takes.{is_bare, same_kind, same_mode}
use Rattle.tree_moves.specs.Tags.{Tag, same_tag}
use Rattle.tree_moves.specs.Tags as tag
use Rattle.tree_moves.specs.Moves.{heard, moves}
use Rattle.tree_moves.specs.HereWords.{Text, Waits, Still, Opening, Closing, agrees, agrees_on_mark, end_step, innermost, mark_step, opened, openings_behind, same_bool, starts_word, text_step, token_step, waits_behind, with_openings}
use Rattle.tree_moves.specs.Turns.{is_text}
use Rattle.tree_moves.proofs.Numbers.{tag_same}
use Rattle.tree_moves.proofs.Below.{heard_more, moves_more}
use Rattle.tree_moves.proofs.Follows.{has_opening, is_known}
use Rattle.tree_moves.proofs.Leads.{over_rest}

-- ---- steps taken apart

pub record Guarded {X : Type 0} (b : Bool) (o : Option X) (y : X) : Type 0 where
  pub so : b ≡ true
  pub goes : o ≡ Some y

pub guarded : {X : Type 0} (b : Bool) (o : Option X) (y : X) → (if b then o else None) ≡ Some y → Guarded b o y
guarded true o y h = record { so = refl; goes = h }
guarded false o y h = cc

pub record WithOpenings (o : Option (List Tag)) (p : Option (List Bool)) (y : Text) : Type 0 where
  pub tags : o ≡ Some y.0
  pub openings : p ≡ Some y.1
  pub still : y.2 ≡ Still

pub with_some : (o : Option (List Tag)) (p : Option (List Bool)) (y : Text) → with_openings o p ≡ Some y → WithOpenings o p y
with_some None p y h = cc
with_some (Some ts) None y h = cc
with_some (Some ts) (Some os) y h =
    let same : (ts, os, Still) ≡ y = cc in
    record { tags = ap (λ z. Some z.0) same; openings = ap (λ z. Some z.1) same; still = sym (ap (λ z. z.2) same) }

with_these : (o : Option (List Tag)) (p : Option (List Bool)) (y : Text) → o ≡ Some y.0 → p ≡ Some y.1 → y.2 ≡ Still → with_openings o p ≡ Some (y.0, y.1, y.2)
with_these o p y ho hp hw = ap (λ x. with_openings x p) ho ∙ ap (with_openings (Some y.0)) hp ∙ ap (λ w. Some (y.0, y.1, w)) (sym hw)

pub record Then {X Y : Type 0} (f : X → Option Y) (o : Option X) (y : Y) : Type 0 where
  pub x : X
  pub some : o ≡ Some x
  pub goes : f x ≡ Some y

pub then_goes : {X Y : Type 0} (f : X → Option Y) (o : Option X) (y : Y) → option_and_then f o ≡ Some y → Then f o y
then_goes f None y h = cc
then_goes f (Some x) y h = record { x = x; some = refl; goes = h }

pub record Mapped {X Y : Type 0} (f : X → Y) (o : Option X) (y : Y) : Type 0 where
  pub x : X
  pub some : o ≡ Some x
  pub same : f x ≡ y

pub mapped : {X Y : Type 0} (f : X → Y) (o : Option X) (y : Y) → option_map f o ≡ Some y → Mapped f o y
mapped f None y h = cc
mapped f (Some x) y h = record { x = x; some = refl; same = cc }

pub text_so : (ts : List Tag) → is_text ts ≡ true → ts ≡ tag.Text ∷ []
text_so [] h = cc
text_so (t ∷ []) h = ap (λ x. x ∷ []) (tag_same t tag.Text h)
text_so (t ∷ u ∷ ts) h = cc

if_so : {X : Type 0} (b : Bool) (o p : Option X) → b ≡ true → o ≡ p → (if b then o else None) ≡ p
if_so true o p e h = h
if_so false o p e h = cc

-- ---- what was opened last

-- what stands outside is known not to be the word of a here-document
abbrev pub Outside : Bool → List Bool → Type 0
Outside plain outside = plain ≡ true → innermost outside ≡ false

plain_so : (b : Bool) → (b || false) ≡ true → b ≡ true
plain_so true h = refl
plain_so false h = cc

last_known : (plain : Bool) (os outside : List Bool) → Outside plain outside → (plain || has_opening os) ≡ true → innermost (os ++ outside) ≡ innermost os
last_known plain [] outside out h = out (plain_so plain h)
last_known plain (o ∷ os) outside out h = refl

ends_by : (w plain here bare : Bool) (os outside : List Bool) → Outside plain outside → (plain || (not w || has_opening os)) ≡ true
    → ((here && bare) || (w && innermost (os ++ outside))) ≡ ((here && bare) || (w && innermost os))
ends_by true plain here bare os outside out h = ap (λ o. (here && bare) || o) (last_known plain os outside out h)
ends_by false plain here bare os outside out h = refl

agree_more : (plain : Bool) (t : Token) (ts us : List Tag) (os : List Bool) (w : Waits) (rest : List Tag) (outside : List Bool) → Outside plain outside
    → is_known plain t (ts, os, w) ≡ true → agrees t (ts, os, w) us ≡ true → agrees t (over_rest rest outside (ts, os, w)) (us ++ rest) ≡ true
agree_more plain t [] us os w rest outside out known h = cc
agree_more plain t (a ∷ ts) [] os w rest outside out known h = cc
agree_more plain t (a ∷ ts) (b ∷ us) os w rest outside out known h =
    subst (λ d. ((not (same_tag a tag.HereOperator) || same_mode t.0 mode.Condition) && (same_bool (same_tag b tag.HereWord) d && same_bool (same_tag b tag.HereOperator) (same_kind t.1 kind.HereRedirect))) ≡ true)
    (sym (ends_by (same_kind t.1 kind.WordEnd) plain (same_tag a tag.HereOperator) (is_bare t.1) os outside out known)) h

opened_more : (w : Waits) (word : Bool) (os ls outside : List Bool) → opened w word os ≡ Some ls → opened w word (os ++ outside) ≡ Some (ls ++ outside)
opened_more Still word os ls outside h = let e : os ≡ ls = cc in ap (λ xs. Some (xs ++ outside)) e
opened_more Opening word os ls outside h = let e : word ∷ os ≡ ls = cc in ap (λ xs. Some (xs ++ outside)) e
opened_more Closing word [] ls outside h = cc
opened_more Closing word (o ∷ os) ls outside h = let e : os ≡ ls = cc in ap (λ xs. Some (xs ++ outside)) e

openings_more : (t : Token) (ts us : List Tag) (os ls : List Bool) (w : Waits) (rest : List Tag) (outside : List Bool) → agrees t (ts, os, w) us ≡ true
    → openings_behind t (ts, os, w) ≡ Some ls → openings_behind t (over_rest rest outside (ts, os, w)) ≡ Some (ls ++ outside)
openings_more t [] us os ls w rest outside a h = cc
openings_more t (b ∷ ts) us os ls w rest outside a h = opened_more w (same_tag b tag.HereOperator && starts_word t.1) os ls outside h

-- ---- steps

token_more : (plain : Bool) (t : Token) (x y : Text) (us : List Tag) (rest : List Tag) (outside : List Bool) → Outside plain outside → is_known plain t x ≡ true
    → token_step t x us ≡ Some y → token_step t (over_rest rest outside x) (us ++ rest) ≡ Some (over_rest rest outside y)
token_more plain t x y us rest outside out known h =
    let g = guarded (agrees t x us) (with_openings (heard us) (openings_behind t x)) y h in
    let k = with_some (heard us) (openings_behind t x) y g.goes in
    if_so (agrees t (over_rest rest outside x) (us ++ rest)) (with_openings (heard (us ++ rest)) (openings_behind t (over_rest rest outside x))) (Some (over_rest rest outside y))
    (agree_more plain t x.0 us x.1 x.2 rest outside out known g.so)
    (with_these (heard (us ++ rest)) (openings_behind t (over_rest rest outside x)) (over_rest rest outside y) (heard_more us y.0 rest k.tags)
    (openings_more t x.0 us x.1 y.1 x.2 rest outside g.so k.openings) k.still)

pub end_more : (plain : Bool) (t : Token) (x y : Text) (rest : List Tag) (outside : List Bool) → Outside plain outside → is_known plain t x ≡ true
    → end_step t x ≡ Some y → end_step t (over_rest rest outside x) ≡ Some (over_rest rest outside y)
end_more plain t x y rest outside out known h =
    let g = guarded (agrees t x x.0) (with_openings (Some x.0) (openings_behind t x)) y h in
    let k = with_some (Some x.0) (openings_behind t x) y g.goes in
    let same : x.0 ≡ y.0 = cc in
    if_so (agrees t (over_rest rest outside x) (x.0 ++ rest)) (with_openings (Some (x.0 ++ rest)) (openings_behind t (over_rest rest outside x))) (Some (over_rest rest outside y))
    (agree_more plain t x.0 x.0 x.1 x.2 rest outside out known g.so)
    (with_these (Some (x.0 ++ rest)) (openings_behind t (over_rest rest outside x)) (over_rest rest outside y) (ap (λ ts. Some (ts ++ rest)) same)
    (openings_more t x.0 x.0 x.1 y.1 x.2 rest outside g.so k.openings) k.still)

pub took_more : (plain : Bool) (t : Token) (x y : Text) (rest : List Tag) (outside : List Bool) → Outside plain outside → is_known plain t x ≡ true
    → text_step (Took t) x ≡ Some y → text_step (Took t) (over_rest rest outside x) ≡ Some (over_rest rest outside y)
took_more plain t x y rest outside out known h =
    let k = then_goes (token_step t x) (moves (Took t) x.0) y h in
    ap (option_and_then (token_step t (over_rest rest outside x))) (moves_more (Took t) x.0 k.x rest k.some) ∙ token_more plain t x y k.x rest outside out known k.goes

-- ---- marks

agree_on_mark_more : (ts us : List Tag) (os : List Bool) (w : Waits) (rest : List Tag) (outside : List Bool) → agrees_on_mark (ts, os, w) us ≡ true
    → agrees_on_mark (over_rest rest outside (ts, os, w)) (us ++ rest) ≡ true
agree_on_mark_more [] us os w rest outside h = cc
agree_on_mark_more (a ∷ ts) [] os w rest outside h = cc
agree_on_mark_more (a ∷ ts) (b ∷ us) os w rest outside h = h

waits_more : (o : Option Waits) (us : List Tag) (os : List Bool) (y : Text) (rest : List Tag) (outside : List Bool) → option_map (λ w. (us, os, w)) o ≡ Some y
    → option_map (λ w. (us ++ rest, os ++ outside, w)) o ≡ Some (over_rest rest outside y)
waits_more None us os y rest outside h = cc
waits_more (Some w) us os y rest outside h = let same : (us, os, w) ≡ y = cc in ap (λ z. Some (over_rest rest outside z)) same

mark_more : (m : Mark) (x y : Text) (us : List Tag) (rest : List Tag) (outside : List Bool) → mark_step m x us ≡ Some y → mark_step m (over_rest rest outside x) (us ++ rest) ≡ Some (over_rest rest outside y)
mark_more m x y us rest outside h =
    let g = guarded (agrees_on_mark x us) (option_map (λ w. (us, x.1, w)) (waits_behind m x.2)) y h in
    if_so (agrees_on_mark (over_rest rest outside x) (us ++ rest)) (option_map (λ w. (us ++ rest, x.1 ++ outside, w)) (waits_behind m x.2)) (Some (over_rest rest outside y))
    (agree_on_mark_more x.0 us x.1 x.2 rest outside g.so) (waits_more (waits_behind m x.2) us x.1 y rest outside g.goes)

pub marked_more : (m : Mark) (x y : Text) (rest : List Tag) (outside : List Bool) → text_step (Marked m) x ≡ Some y → text_step (Marked m) (over_rest rest outside x) ≡ Some (over_rest rest outside y)
marked_more m x y rest outside h =
    let k = then_goes (mark_step m x) (moves (Marked m) x.0) y h in
    ap (option_and_then (mark_step m (over_rest rest outside x))) (moves_more (Marked m) x.0 k.x rest k.some) ∙ mark_more m x y k.x rest outside k.goes
