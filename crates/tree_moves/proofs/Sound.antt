-- What is computed of a rule holds of all that the rule reads.
use Rattle.std.specs.Prelude.{◌≡◌, ℕ, zero, suc, Bool, true, false, ◌&&◌, List, [], ◌∷◌, ◌++◌, map, filter, slice_get, Option, Some, None, option_map, if◌then◌else◌}
use Rattle.std.proofs.Common.{refl, sym, ◌∙◌, ap, subst, append_assoc}
use Rattle.std.proofs.lemmas.Bool.{eqb-true}
use Rattle.std.specs.List.{list_all, list_any}
use Rattle.ksh_grammar.specs.declared.symbol.Place.TheVariants as place
use Rattle.ksh_grammar.specs.declared.symbol.Symbol.TheVariants as symbol
use Rattle.ksh_grammar.specs.Rules.{at, IsRuleOf}
use Rattle.ksh_grammar.proofs.Begins.{and_left, and_right, or_to}
use Rattle.ksh_grammar.proofs.Checked.{all_at}
use Rattle.ksh_syntax.specs.declared.kind.Mode.{Mode}
use Rattle.ksh_syntax.specs.declared.kind.Mode.TheVariants as mode
use Rattle.ksh_syntax.specs.declared.kind.Kind.{Kind}
use Rattle.ksh_syntax.specs.declared.kind.Kind.TheVariants as kind
use Rattle.ksh_syntax.specs.declared.part.Terminal.{Terminal}
use Rattle.ksh_syntax.specs.declared.part.Terminal.TheVariants.{One, Any}
use Rattle.ksh_syntax.specs.declared.part.Part as declared
use Rattle.ksh_syntax.specs.declared.part.Part.TheVariants as part
use Rattle.ksh_syntax.specs.Takes.{takes, takes_in, are_in, same_kind, same_mode, kind_number, mode_number}
use Rattle.ksh_syntax.specs.Rules.{Rule, rules}
use Rattle.ksh_syntax.specs.Steps.{Left}
use Rattle.ksh_syntax.specs.Sentences.{Took, Marked, Token, anywhere}
use Rattle.ksh_syntax.proofs.Everything.{kinds, kind_at, modes, mode_at, parts, all_parts}
use Rattle.tree_moves.specs.Tags.{Tag, same_tag}
use Rattle.tree_moves.specs.Tags as tag
use Rattle.tree_moves.specs.Moves.{Fit, Over, Another, Few, fit}
use Rattle.tree_moves.specs.Turns.{Role, Own, Opens, Next, Last, Ends, is_lexed, role_of}
use Rattle.tree_moves.specs.HereWords.{Text, Waits, Still, Opening, Closing, end_step, fresh, is_still, text_step, text_turn_by}
use Rattle.tree_moves.proofs.Bounds.{Bounds, Any, Plain, Closes, Stands, bounds, front}
use Rattle.tree_moves.proofs.Effects.{Effect, effects}
use Rattle.tree_moves.proofs.Leads.{Among, Goes, over, bodies, body_end, behind_part, Leads, in_state, over_rest, State}
use Rattle.tree_moves.proofs.Follows.{mode_in, kinds_in, same_bools, same_tags, then_all, by_role, in_effect, by_effects, by_openings, by_part, ends_so, is_bodies, is_known, is_plain, open_behind, follows, follows_bodies, is_followed}
use Rattle.tree_moves.proofs.Words.{Outside, end_more, marked_more, took_more}
use Rattle.tree_moves.proofs.Checks.{all_followed}
use Rattle.tree_moves.proofs.Numbers.{tag_same}
use Rattle.tree_moves.proofs.Rows.{fit_front}

-- ---- what is in lists

pub one_among : {X : Type 0} (x y : X) → Among y (x ∷ []) → y ≡ x
one_among x y (zero, e) = cc
one_among x y (suc j, e) = cc

among_map : {X Y : Type 0} (f : X → Y) (xs : List X) (j : ℕ) (y : Y) → slice_get (map f xs) j ≡ Some y → (x : X) × (y ≡ f x) × (slice_get xs j ≡ Some x)
among_map f [] j y e = cc
among_map f (x ∷ xs) zero y e = let same : f x ≡ y = cc in (x, sym same, refl)
among_map f (x ∷ xs) (suc j) y e = among_map f xs j y e

map_among : {X Y : Type 0} (f : X → Y) (xs : List X) (j : ℕ) (x : X) → slice_get xs j ≡ Some x → slice_get (map f xs) j ≡ Some (f x)
map_among f [] j x e = cc
map_among f (y ∷ xs) zero x e = let same : y ≡ x = cc in ap (λ z. Some (f z)) same
map_among f (y ∷ xs) (suc j) x e = map_among f xs j x e

all_filtered : {X : Type 0} (f g : X → Bool) (xs : List X) (j : ℕ) (x : X) → slice_get xs j ≡ Some x → f x ≡ true → list_all g (filter f xs) ≡ true → g x ≡ true
all_filtered f g [] j x e h a = cc
all_filtered {X} f g (y ∷ xs) zero x e h a =
    let same : y ≡ x = cc in
    subst (λ z. g z ≡ true) same (kept_first (f y) y (filter f xs) (ap f same ∙ h) a)
  where
    kept_first : (b : Bool) (z : X) (zs : List X) → b ≡ true → list_all g (if b then z ∷ zs else zs) ≡ true → g z ≡ true
    kept_first true z zs e h = and_left (g z) (list_all g zs) h
    kept_first false z zs e h = cc
all_filtered {X} f g (y ∷ xs) (suc j) x e h a = all_filtered f g xs j x e h (kept_rest (f y) y (filter f xs) a)
  where
    kept_rest : (b : Bool) (z : X) (zs : List X) → list_all g (if b then z ∷ zs else zs) ≡ true → list_all g zs ≡ true
    kept_rest true z zs h = and_right (g z) (list_all g zs) h
    kept_rest false z zs h = h

-- ---- tags, kinds and modes

tags_same : (ts us : List Tag) → same_tags ts us ≡ true → ts ≡ us
tags_same [] [] h = refl
tags_same [] (u ∷ us) h = cc
tags_same (t ∷ ts) [] h = cc
tags_same (t ∷ ts) (u ∷ us) h =
    let first : t ≡ u = tag_same t u (and_left (same_tag t u) (same_tags ts us) h) in
    let rest : ts ≡ us = tags_same ts us (and_right (same_tag t u) (same_tags ts us) h) in
    cc

any_among : (ts : List Tag) (behinds : List (List Tag)) → list_any (same_tags ts) behinds ≡ true → Among ts behinds
any_among ts [] h = cc
any_among ts (us ∷ behinds) h =
    or_to (same_tags ts us) (list_any (same_tags ts) behinds) h
    (λ e. (0, ap (λ xs. Some xs) (sym (tags_same ts us e))))
    (λ e. let k = any_among ts behinds e in (suc k.0, k.1))

same_kinds : (k l : Kind) → same_kind k l ≡ true → k ≡ l
same_kinds k l h =
    let e = sym (kind_at k) ∙ ap (slice_get kinds) (eqb-true (kind_number k) (kind_number l) h) ∙ kind_at l in
    cc

same_modes : (m n : Mode) → same_mode m n ≡ true → m ≡ n
same_modes m n h =
    let e = sym (mode_at m) ∙ ap (slice_get modes) (eqb-true (mode_number m) (mode_number n) h) ∙ mode_at n in
    cc

mode_taken : (c : Terminal) (m : Mode) → takes_in c m ≡ true → mode_in c ≡ m
mode_taken (One n l) m h = same_modes n m h
mode_taken (Any n ws) m h = same_modes n m h

kind_taken : (c : Terminal) (g : Kind → Bool) (k : Kind) → list_all g (kinds_in c) ≡ true → takes c k ≡ true → g k ≡ true
kind_taken (One m l) g k a h = subst (λ x. g x ≡ true) (same_kinds l k h) (and_left (g l) true a)
kind_taken (Any m ws) g k a h = all_filtered (are_in ws) g kinds (kind_number k) k (kind_at k) h a

-- ---- tokens and marks

record Then (o : Option Text) (next : Text → Bool) : Type 0 where
  x : Text
  some : o ≡ Some x
  goes : next x ≡ true

then_some : (o : Option Text) (next : Text → Bool) → then_all next o ≡ true → Then o next
then_some None next h = cc
then_some (Some x) next h = record { x = x; some = refl; goes = h }

where_so : (b x : Bool) → b ≡ true → (if b then x else true) ≡ true → x ≡ true
where_so true x e h = h
where_so false x e h = cc

role_leads : (plain : Bool) (r : Role) (t : Token) (next behind : Text → Bool) (left : Left) (Q : State → Type 0) (x : Text) (rest : List Tag) (outside : List Bool) (outer : State) → Outside plain outside
    → ((y : Text) → next y ≡ true → Leads left (in_state rest outside outer y) Q)
    → ((y : Text) → behind y ≡ true → Leads left (fresh ∷ in_state rest outside outer y) Q)
    → is_lexed t ≡ true → by_role plain r next behind t x ≡ true → (now : State) × (text_turn_by r (Took t) (over_rest rest outside x) outer ≡ Some now) × Leads left now Q
role_leads plain Own t next behind left Q x rest outside outer out next_leads behind_leads l h =
    let so = where_so (is_lexed t) (is_known plain t x && then_all next (text_step (Took t) x)) l h in
    let k = then_some (text_step (Took t) x) next (and_right (is_known plain t x) (then_all next (text_step (Took t) x)) so) in (
      in_state rest outside outer k.x,
      ap (option_map (λ y. y ∷ outer)) (took_more plain t x k.x rest outside out (and_left (is_known plain t x) (then_all next (text_step (Took t) x)) so) k.some),
      next_leads k.x k.goes,
    )
role_leads plain Opens t next behind left Q x rest outside outer out next_leads behind_leads l h =
    let k = then_some (text_step (Took t) x) behind (and_right (is_known plain t x) (then_all behind (text_step (Took t) x)) h) in (
      fresh ∷ in_state rest outside outer k.x,
      ap (option_map (λ y. fresh ∷ y ∷ outer)) (took_more plain t x k.x rest outside out (and_left (is_known plain t x) (then_all behind (text_step (Took t) x)) h) k.some),
      behind_leads k.x k.goes,
    )
role_leads plain Next t next behind left Q x rest outside outer out next_leads behind_leads l h = cc
role_leads plain Last t next behind left Q x rest outside outer out next_leads behind_leads l h = cc
role_leads plain Ends t next behind left Q x rest outside outer out next_leads behind_leads l h =
    let k = then_some (end_step t x) next (and_right (is_known plain t x) (then_all next (end_step t x)) h) in (
      in_state rest outside outer k.x,
      ap (option_map (λ y. y ∷ outer)) (end_more plain t x k.x rest outside out (and_left (is_known plain t x) (then_all next (end_step t x)) h) k.some),
      next_leads k.x k.goes,
    )

-- ---- parts

record Found (es : List Effect) (next : List Tag → Bool) (ts : List Tag) : Type 0 where
  effect : Effect
  rest : List Tag
  number : ℕ
  among : slice_get es number ≡ Some effect
  fits : fit effect.0 ts ≡ Over rest
  all : list_all (λ us. next (us ++ rest)) effect.1 ≡ true

found_later : (e : Effect) (es : List Effect) (next : List Tag → Bool) (ts : List Tag) → Found es next ts → Found (e ∷ es) next ts
found_later e es next ts k = record { effect = k.effect; rest = k.rest; number = suc k.number; among = k.among; fits = k.fits; all = k.all }

found_by : (f : Fit) (e : Effect) (es : List Effect) (next : List Tag → Bool) (ts : List Tag) → fit e.0 ts ≡ f → (by_effects es next ts ≡ true → Found es next ts)
    → in_effect f e.1 next (by_effects es next ts) ≡ true → Found (e ∷ es) next ts
found_by (Over rest) e es next ts fits more h = record { effect = e; rest = rest; number = 0; among = refl; fits = fits; all = h }
found_by Another e es next ts fits more h = found_later e es next ts (more h)
found_by Few e es next ts fits more h = found_later e es next ts (more h)

found : (es : List Effect) (next : List Tag → Bool) (ts : List Tag) → by_effects es next ts ≡ true → Found es next ts
found [] next ts h = cc
found (e ∷ es) next ts h = found_by (fit e.0 ts) e es next ts refl (found es next ts) h

-- what is open outside a part that may begin there
record Within (b : Bounds) (os ls outside : List Bool) : Type 0 where
  more : List Bool
  stands : Stands b more
  before : os ++ outside ≡ front b ++ more
  behind : ls ++ outside ≡ more

within_plain : (plain : Bool) (ls outside : List Bool) → Outside plain outside → (if plain then Some [] else None) ≡ Some ls → Within Plain [] ls outside
within_plain true ls outside out h =
    let same : [] ≡ ls = cc in
    record { more = outside; stands = out refl; before = refl; behind = ap (λ xs. xs ++ outside) (sym same) }
within_plain false ls outside out h = cc

within : (b : Bounds) (plain : Bool) (os ls outside : List Bool) → Outside plain outside → open_behind b plain os ≡ Some ls → Within b os ls outside
within Any plain os ls outside out h =
    let same : os ≡ ls = cc in
    record { more = os ++ outside; stands = tt; before = refl; behind = ap (λ xs. xs ++ outside) (sym same) }
within Plain plain [] ls outside out h = within_plain plain ls outside out h
within Plain plain (true ∷ os) ls outside out h = cc
within Plain plain (false ∷ os) ls outside out h =
    let same : false ∷ os ≡ ls = cc in
    record { more = false ∷ (os ++ outside); stands = refl; before = refl; behind = ap (λ xs. xs ++ outside) (sym same) }
within Closes plain [] ls outside out h = cc
within Closes plain (true ∷ os) ls outside out h = cc
within Closes plain (false ∷ os) ls outside out h =
    let same : os ≡ ls = cc in
    record { more = os ++ outside; stands = tt; before = refl; behind = ap (λ xs. xs ++ outside) (sym same) }

still_so : (w : Waits) → is_still w ≡ true → w ≡ Still
still_so Still h = refl
still_so Opening h = cc
still_so Closing h = cc

record Opened (es : List Effect) (next : Text → Bool) (ts : List Tag) (o : Option (List Bool)) : Type 0 where
  ls : List Bool
  some : o ≡ Some ls
  goes : by_effects es (λ us. next (us, ls, Still)) ts ≡ true

opened_some : (es : List Effect) (next : Text → Bool) (ts : List Tag) (o : Option (List Bool)) → by_openings es next ts o ≡ true → Opened es next ts o
opened_some es next ts None h = cc
opened_some es next ts (Some ls) h = record { ls = ls; some = refl; goes = h }

part_leads : (plain : Bool) (p : declared.Part) (d : ℕ) (next : Text → Bool) (left : Left) (Q : State → Type 0) (x : Text) (rest : List Tag) (outside : List Bool) (outer : State) → Outside plain outside
    → ((y : Text) → next y ≡ true → Leads left (in_state rest outside outer y) Q) → by_part plain p next x ≡ true → Leads (symbol.Part p d ∷ left) (in_state rest outside outer x) Q
part_leads plain p d next left Q x rest outside outer out next_leads h =
    let still = still_so x.2 (and_left (is_still x.2) (by_openings (effects p) next x.0 (open_behind (bounds p) plain x.1)) h) in
    let o = opened_some (effects p) next x.0 (open_behind (bounds p) plain x.1) (and_right (is_still x.2) (by_openings (effects p) next x.0 (open_behind (bounds p) plain x.1)) h) in
    let w = within (bounds p) plain x.1 o.ls outside out o.some in
    let k = found (effects p) (λ us. next (us, o.ls, Still)) x.0 o.goes in
    let whole : x.0 ++ rest ≡ k.effect.0 ++ (k.rest ++ rest) = ap (λ xs. xs ++ rest) (fit_front k.effect.0 x.0 k.rest k.fits) ∙ append_assoc k.effect.0 k.rest rest in
    let begins : in_state rest outside outer x ≡ in_state (k.rest ++ rest) w.more outer (k.effect.0, front (bounds p), Still) =
    ap (λ ts. (ts, x.1 ++ outside, x.2) ∷ outer) whole
    ∙ (ap (λ os. (k.effect.0 ++ (k.rest ++ rest), os, x.2) ∷ outer) w.before ∙ ap (λ v. (k.effect.0 ++ (k.rest ++ rest), front (bounds p) ++ w.more, v) ∷ outer) still) in (
      map (behind_part (k.rest ++ rest) w.more outer) k.effect.1,
      over k.effect.0 k.effect.1 (k.rest ++ rest) w.more outer (in_state rest outside outer x) (map (behind_part (k.rest ++ rest) w.more outer) k.effect.1) (k.number, k.among) w.stands begins refl,
      λ now a.
          let y = among_map (behind_part (k.rest ++ rest) w.more outer) k.effect.1 a.0 now a.1 in
          let goes = all_at (λ us. next (us ++ k.rest, o.ls, Still)) k.effect.1 a.0 y.0 y.2 k.all in
          let same : in_state rest outside outer (y.0 ++ k.rest, o.ls, Still) ≡ behind_part (k.rest ++ rest) w.more outer y.0 =
          ap (λ ts. (ts, o.ls ++ outside, Still) ∷ outer) (append_assoc y.0 k.rest rest) ∙ ap (λ os. (y.0 ++ (k.rest ++ rest), os, Still) ∷ outer) w.behind in
          subst (λ s. Leads left s Q) (same ∙ sym y.1) (next_leads (y.0 ++ k.rest, o.ls, Still) goes),
    )

-- ---- rules

abbrev EndsIn : List Tag → List Bool → State → List (List Tag) → State → Type 0
EndsIn rest outside outer behinds now = Among now (map (behind_part rest outside outer) behinds)

record IsSound (plain : Bool) (d : ℕ) (rule : Rule) (behinds : List (List Tag)) (rest : List Tag) (outside : List Bool) (outer : State) : Type 0 where
  next : (x : Text) → follows plain rule behinds x ≡ true → Leads (map (at d) rule) (in_state rest outside outer x) (EndsIn rest outside outer behinds)
  behind : (x : Text) → follows_bodies plain rule behinds x ≡ true → Leads (map (at d) rule) (fresh ∷ in_state rest outside outer x) (EndsIn rest outside outer behinds)

are_bodies : (p : declared.Part) → is_bodies p ≡ true → p ≡ part.BodyTexts
are_bodies part.BodyTexts h = refl
are_bodies _ h = cc

bodies_lead : (p : declared.Part) (d : ℕ) (left : Left) (Q : State → Type 0) (x : Text) (outer : State) → p ≡ part.BodyTexts → Leads left (x ∷ outer) Q
    → Leads (symbol.Part p d ∷ left) (fresh ∷ x ∷ outer) Q
bodies_lead p d left Q x outer e h =
    subst (λ q. Leads (symbol.Part q d ∷ left) (fresh ∷ x ∷ outer) Q) (sym e) (
      (x ∷ outer) ∷ [],
      bodies x outer (fresh ∷ x ∷ outer) ((x ∷ outer) ∷ []) refl refl,
      λ now a. subst (λ s. Leads left s Q) (sym (one_among (x ∷ outer) now a)) h,
    )

none_open : (bs : List Bool) → same_bools bs [] ≡ true → bs ≡ []
none_open [] h = refl
none_open (b ∷ bs) h = cc

-- the end of a rule
rule_ends : (behinds : List (List Tag)) (x : Text) (rest : List Tag) (outside : List Bool) (outer : State) → ends_so behinds x ≡ true → EndsIn rest outside outer behinds (in_state rest outside outer x)
rule_ends behinds x rest outside outer h =
    let still = still_so x.2 (and_left (is_still x.2) (same_bools x.1 [] && list_any (same_tags x.0) behinds) h) in
    let more = and_right (is_still x.2) (same_bools x.1 [] && list_any (same_tags x.0) behinds) h in
    let none = none_open x.1 (and_left (same_bools x.1 []) (list_any (same_tags x.0) behinds) more) in
    let k = any_among x.0 behinds (and_right (same_bools x.1 []) (list_any (same_tags x.0) behinds) more) in
    let same : behind_part rest outside outer x.0 ≡ in_state rest outside outer x =
    ap (λ os. (x.0 ++ rest, os ++ outside, Still) ∷ outer) (sym none) ∙ ap (λ v. (x.0 ++ rest, x.1 ++ outside, v) ∷ outer) (sym still) in
    (k.0, map_among (behind_part rest outside outer) behinds k.0 x.0 k.1 ∙ ap (λ s. Some s) same)

sound : (plain : Bool) (d : ℕ) (rule : Rule) (behinds : List (List Tag)) (rest : List Tag) (outside : List Bool) (outer : State) → Outside plain outside → IsSound plain d rule behinds rest outside outer
sound plain d [] behinds rest outside outer out = record {
  next = λ x h. rule_ends behinds x rest outside outer h;
  behind = λ x h. cc;
}
sound plain d (place.Token c ∷ rule) behinds rest outside outer out =
    let more = sound plain d rule behinds rest outside outer out in
    record {
      next = λ x h t e l.
          let test : Kind → Bool = λ k. by_role plain (role_of k) (follows plain rule behinds) (follows_bodies plain rule behinds) (mode_in c, k) x in
          let taken : by_role plain (role_of t.1) (follows plain rule behinds) (follows_bodies plain rule behinds) (mode_in c, t.1) x ≡ true = kind_taken c test t.1 h (and_right (takes_in c t.0) (takes c t.1) e) in
          role_leads plain (role_of t.1) t (follows plain rule behinds) (follows_bodies plain rule behinds) (map (at d) rule) (EndsIn rest outside outer behinds) x rest outside outer out more.next more.behind l
          (subst (λ m. by_role plain (role_of t.1) (follows plain rule behinds) (follows_bodies plain rule behinds) (m, t.1) x ≡ true) (mode_taken c t.0 (and_left (takes_in c t.0) (takes c t.1) e)) taken);
      behind = λ x h. cc;
    }
sound plain d (place.Part p ∷ rule) behinds rest outside outer out =
    let more = sound plain d rule behinds rest outside outer out in
    record {
      next = λ x h. part_leads plain p d (follows plain rule behinds) (map (at d) rule) (EndsIn rest outside outer behinds) x rest outside outer out more.next h;
      behind = λ x h.
          bodies_lead p d (map (at d) rule) (EndsIn rest outside outer behinds) (over_rest rest outside x) outer (are_bodies p (and_left (is_bodies p) (follows plain rule behinds x) h))
          (more.next x (and_right (is_bodies p) (follows plain rule behinds x) h));
    }
sound plain d (place.Inside p ∷ rule) behinds rest outside outer out =
    let more = sound plain d rule behinds rest outside outer out in
    record {
      next = λ x h. part_leads plain p (suc d) (follows plain rule behinds) (map (at d) rule) (EndsIn rest outside outer behinds) x rest outside outer out more.next h;
      behind = λ x h. cc;
    }
sound plain d (place.Make m ∷ rule) behinds rest outside outer out =
    let more = sound plain d rule behinds rest outside outer out in
    record {
      next = λ x h.
          let k = then_some (text_step (Marked m) x) (follows plain rule behinds) h in
          (in_state rest outside outer k.x, ap (option_map (λ y. y ∷ outer)) (marked_more m x k.x rest outside k.some), more.next k.x k.goes);
      behind = λ x h. cc;
    }

one_rule : (x y : Rule) (j : ℕ) → slice_get (x ∷ []) j ≡ Some y → x ≡ y
one_rule x y zero e = cc
one_rule x y (suc j) e = cc

-- in the text of a body, within another
abbrev in_body : Text → State → State
in_body x outer = fresh ∷ x ∷ outer

abbrev BehindBodies : Text → State → State → Type 0
BehindBodies x outer now = Among now ((x ∷ outer) ∷ [])

-- a body, and what ends it
body_lead : (d : ℕ) (x : Text) (outer : State) → Leads (symbol.Part (part.Text mode.Body) d ∷ symbol.Part part.BodyEnd d ∷ []) (in_body x outer) (BehindBodies x outer)
body_lead d x outer = (
  in_body x outer ∷ [],
  over (tag.Text ∷ []) ((tag.Text ∷ []) ∷ []) [] [] (x ∷ outer) (in_body x outer) (in_body x outer ∷ []) (0, refl) tt refl refl,
  λ now a. ((x ∷ outer) ∷ [], body_end x outer now ((x ∷ outer) ∷ []) (one_among (in_body x outer) now a) refl, λ last b. b),
)

turn_kind : (t : Token) (k : Kind) (s : State) (now : State) → same_kind k t.1 ≡ true → text_turn_by (role_of k) (Took t) fresh s ≡ Some now → text_turn_by (role_of t.1) (Took t) fresh s ≡ Some now
turn_kind t k s now e h = ap (λ l. text_turn_by (role_of l) (Took t) fresh s) (sym (same_kinds k t.1 e)) ∙ h

next_leads : (d : ℕ) (x : Text) (outer : State) → Leads (symbol.Token (One mode.Body kind.BodyNext) ∷ symbol.Part part.BodyTexts d ∷ []) (in_body x outer) (BehindBodies x outer)
next_leads d x outer t e l = (
  in_body x outer,
  turn_kind t kind.BodyNext (x ∷ outer) (in_body x outer) (and_right (takes_in (One mode.Body kind.BodyNext) t.0) (takes (One mode.Body kind.BodyNext) t.1) e) refl,
  ((x ∷ outer) ∷ [], bodies x outer (in_body x outer) ((x ∷ outer) ∷ []) refl refl, λ now a. a),
)

last_leads : (x : Text) (outer : State) → Leads (symbol.Token (One mode.Body kind.BodyLast) ∷ []) (in_body x outer) (BehindBodies x outer)
last_leads x outer t e l = (
  x ∷ outer,
  turn_kind t kind.BodyLast (x ∷ outer) (x ∷ outer) (and_right (takes_in (One mode.Body kind.BodyLast) t.0) (takes (One mode.Body kind.BodyLast) t.1) e) refl,
  (0, refl),
)

end_leads : (d : ℕ) (x : Text) (outer : State) (j : ℕ) (rule : Rule) → slice_get (rules part.BodyEnd) j ≡ Some rule → Leads (map (at d) rule) (in_body x outer) (BehindBodies x outer)
end_leads d x outer zero rule e =
    let same : (place.Token (One mode.Body kind.BodyNext) ∷ place.Part part.BodyTexts ∷ []) ≡ rule = cc in
    subst (λ r. Leads (map (at d) r) (in_body x outer) (BehindBodies x outer)) same (next_leads d x outer)
end_leads d x outer (suc zero) rule e =
    let same : (place.Token (One mode.Body kind.BodyLast) ∷ []) ≡ rule = cc in
    subst (λ r. Leads (map (at d) r) (in_body x outer) (BehindBodies x outer)) same (last_leads x outer)
end_leads d x outer (suc (suc j)) rule e = cc

-- what leads from one state to others leads from and to equal ones
moved_to : (d : ℕ) (rule : Rule) (left : Left) (s s' : State) (outs outs' : List State) → left ≡ map (at d) rule → s ≡ s' → outs ≡ outs'
    → Leads (map (at d) rule) s' (λ now. Among now outs') → Leads left s (λ now. Among now outs)
moved_to d rule left s s' outs outs' el es eo h =
    subst (λ l. Leads l s (λ now. Among now outs)) (sym el)
    (subst (λ xs. Leads (map (at d) rule) s (λ now. Among now xs)) (sym eo)
    (subst (λ x. Leads (map (at d) rule) x (λ now. Among now outs')) (sym es) h))

stands_outside : (b : Bounds) (outside : List Bool) → Stands b outside → Outside (is_plain b) outside
stands_outside Any outside h e = cc
stands_outside Plain outside h e = h
stands_outside Closes outside h e = cc

-- a rule of a part, where the part comes
pub rule_leads : (p : declared.Part) (d : ℕ) (left : Left) (s : State) (outs : List State) → IsRuleOf rules anywhere p d left → Goes p s outs → Leads left s (λ now. Among now outs)
rule_leads p d left s outs r (over before behinds rest outside outer s' outs' a b es eo) =
    let plain : Bool = is_plain (bounds p) in
    let x : Text = (before, front (bounds p), Still) in
    let followed = all_at is_followed parts (all_parts p).0 p (all_parts p).1 all_followed in
    let each = all_at (λ (e : Effect). list_all (λ rule. follows plain rule e.1 (e.0, front (bounds p), Still)) (rules p)) (effects p) a.0 (before, behinds) a.1 followed in
    let own = all_at (λ rule. follows plain rule behinds x) (rules p) r.0 r.1 r.2 each in
    moved_to d r.1 left s (in_state rest outside outer x) outs (map (behind_part rest outside outer) behinds) r.4 es eo
    ((sound plain d r.1 behinds rest outside outer (stands_outside (bounds p) outside b)).next x own)
rule_leads p d left s outs r (bodies x outer s' outs' es eo) =
    moved_to d r.1 left s (in_body x outer) outs ((x ∷ outer) ∷ []) r.4 es eo
    (subst (λ rule. Leads (map (at d) rule) (in_body x outer) (BehindBodies x outer)) (one_rule (place.Part (part.Text mode.Body) ∷ place.Part part.BodyEnd ∷ []) r.1 r.0 r.2) (body_lead d x outer))
rule_leads p d left s outs r (body_end x outer s' outs' es eo) =
    moved_to d r.1 left s (in_body x outer) outs ((x ∷ outer) ∷ []) r.4 es eo (end_leads d x outer r.0 r.1 r.2)
