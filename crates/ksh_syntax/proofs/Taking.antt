-- How a reading goes on by a token.
use Rattle.std.specs.Prelude.{◌≡◌, ◌<◌, ◌≤◌, ℕ, suc, Bool, true, false, nat_lt, not, ◌&&◌, ◌||◌, List, [], ◌∷◌, ◌++◌, map, reverse, Option, Some, None, Ok, slice_get, option_and_then, if◌then◌else◌}
use Rattle.std.proofs.Common.{refl, sym, ◌∙◌, ap, subst, append_assoc, append-nil, arith}
use Rattle.std.proofs.lemmas.List.{map-append, reverse-append}
use Rattle.std.proofs.lemmas.Bool.{lt-ltb, le-ltb, eq-eqb}
use Rattle.ksh_grammar.specs.declared.symbol.Symbol.TheVariants as left
use Rattle.ksh_grammar.specs.Grammar.{Reads, IsLeft}
use Rattle.ksh_grammar.specs.Modes.{with_mode, by_kind}
use Rattle.ksh_grammar.specs.Rules.{at, opens, rule_at, IsRuleOf, chosen_by}
use Rattle.ksh_grammar.proofs.Moves.{InHand, as_it_is, acted, none_left, taken, not_this, dead, opened, no_rule}
use Rattle.ksh_grammar.proofs.Reading.{fits_rule}
use Rattle.ksh_syntax.specs.declared.kind.Mode.{Mode}
use Rattle.ksh_syntax.specs.declared.kind.Mode.TheVariants as mode
use Rattle.ksh_syntax.specs.declared.kind.Kind.{Kind}
use Rattle.ksh_syntax.specs.declared.part.Terminal.{Terminal}
use Rattle.ksh_syntax.specs.declared.part.Part as declared
use Rattle.ksh_syntax.specs.declared.part.Mark.{Mark}
use Rattle.ksh_syntax.specs.declared.reading.Next.TheVariants as next
use Rattle.ksh_syntax.specs.declared.reading.Step.TheVariants as step
use Rattle.ksh_syntax.specs.Takes.{takes, takes_in, same_mode, mode_number}
use Rattle.ksh_syntax.specs.Rules.{Rule, rules, mode_of}
use Rattle.ksh_syntax.specs.Pick.{pick}
use Rattle.ksh_syntax.specs.Bounds.{starts, follows, follows_in, empty}
use Rattle.ksh_syntax.specs.Steps.{limit, Left, IsPut, IsRead}
use Rattle.ksh_syntax.specs.Sentences.{Token, Event, Took, Marked, took, marked, anywhere, within_limit, script, FitsAll, Goes, HasRead, IsLive, IsLiveWithin}
use Rattle.std.specs.List.{list_all}
use Rattle.ksh_grammar.specs.declared.symbol.Place.TheVariants as place
use Rattle.ksh_grammar.proofs.Begins.{both}
use Rattle.ksh_grammar.proofs.Checked.{all_at, from_implied}
use Rattle.ksh_syntax.specs.declared.part.Terminal.TheVariants.{One, Any}
use Rattle.ksh_syntax.proofs.Ends.{completed}
use Rattle.ksh_syntax.proofs.Everything.{kinds, all_kinds, parts, all_parts}
use Rattle.ksh_syntax.proofs.Predictive.{one_token}
use Rattle.ksh_syntax.proofs.Weights.{front_weight, lighter}

-- with a token in hand, the one list of symbols may stand for the other
abbrev Hand : (ℕ → Bool) → Left → List Event → Token → Left → List Event → Type 0
Hand may = InHand (λ (t : Token). t) (with_mode takes_in takes) (IsRuleOf rules may) took marked

-- inside so many openings as the limit allows another may stand
abbrev Allows : (ℕ → Bool) → Type 0
Allows may = (d : ℕ) → d < limit → may d ≡ true

allows_anywhere : Allows anywhere
allows_anywhere d h = refl

allows_within : Allows within_limit
allows_within d h = lt-ltb d limit h

-- the marks that were passed with the token in hand, and what is left then
pub record Passing (t : Token) (old now : Left) (passed : List Mark) : Type 0 where
  pub fits : FitsAll old → FitsAll now
  pub hand : (may : ℕ → Bool) → Allows may → FitsAll old → (m : Mode) (events : List Event) → Hand may old events (m, t.1) now (events ++ map Marked passed)

pub passing_none : (t : Token) (old : Left) → Passing t old old []
passing_none t old = record {
  fits = λ f. f;
  hand = λ may a f n events. subst (λ es. Hand may old events (n, t.1) old es) (sym (append-nil events)) (as_it_is (λ (u : Token). u) (with_mode takes_in takes) (IsRuleOf rules may) took marked old events (n, t.1));
}

pub passing_mark : (t : Token) (old rest : Left) (passed : List Mark) (m : Mark) → Passing t old (left.Make m ∷ rest) passed → Passing t old rest (passed ++ m ∷ [])
passing_mark t old rest passed m h = record {
  fits = h.fits;
  hand = λ may a f n events.
      subst (λ es. Hand may old events (n, t.1) rest es) (append_assoc events (map Marked passed) (Marked m ∷ []) ∙ ap (λ xs. events ++ xs) (sym (map-append Marked passed (m ∷ []))))
      (acted (λ (u : Token). u) (with_mode takes_in takes) (IsRuleOf rules may) took marked m rest (events ++ map Marked passed) (h.hand may a f n events));
}

-- the rule that the token picks is among those of the part, wherever it may stand
picked_rule : (may : ℕ → Bool) (p : declared.Part) (d : ℕ) (k : Kind) (rule : Rule) → slice_get (rules p) (pick p k) ≡ Some rule → (opens rule ≡ true → may d ≡ true) → chosen_by rules may pick p d k ≡ Some (map (at d) rule)
picked_rule may p d k rule e o = ap (λ r. option_and_then (λ x. rule_at rules may x d) r) e ∙ stands (opens rule) (may d) (map (at d) rule) o
  where
    stands : {X : Type 0} (a b : Bool) (x : X) → (a ≡ true → b ≡ true) → (if a && not b then None else Some x) ≡ Some x
    stands true true x h = refl
    stands true false x h = let e : false ≡ true = h refl in cc
    stands false b x h = refl

no_picked : (may : ℕ → Bool) (p : declared.Part) (d : ℕ) (k : Kind) → slice_get (rules p) (pick p k) ≡ None → chosen_by rules may pick p d k ≡ None
no_picked may p d k e = ap (λ r. option_and_then (λ x. rule_at rules may x d) r) e

pub passing_part : (t : Token) (old rest : Left) (passed : List Mark) (p : declared.Part) (d : ℕ) (rule : Rule)
    → Passing t old (left.Part p d ∷ rest) passed → slice_get (rules p) (pick p t.1) ≡ Some rule → (opens rule ≡ true → d < limit) → Passing t old (map (at d) rule ++ rest) passed
passing_part t old rest passed p d rule h e o = record {
  fits = λ f. fits_rule (λ (u : Token). u) (with_mode takes_in takes) (IsRuleOf rules anywhere) took marked
      (with_mode (λ q m. same_mode (mode_of q) m) starts) (with_mode follows_in follows) empty (by_kind (chosen_by rules anywhere pick)) (one_token anywhere)
      p d (map (at d) rule) rest (h.fits f) (pick p t.1, rule, e, (λ _. refl), refl);
  hand = λ may a f n events.
      opened (λ (u : Token). u) (with_mode takes_in takes) (IsRuleOf rules may) took marked
      (with_mode (λ q m. same_mode (mode_of q) m) starts) (with_mode follows_in follows) empty (by_kind (chosen_by rules may pick)) (one_token may)
      p d rest (map (at d) rule) (events ++ map Marked passed) (h.hand may a f n events) (h.fits f) (picked_rule may p d t.1 rule e (λ q. a d (o q)));
}

pub goes_taken : (t : Token) (old new : Left) (before after passed : List Mark) (c : Terminal) (rest : Left)
    → Passing t (reverse old) (left.Token c ∷ rest) passed → reverse new ≡ rest → after ≡ before ++ passed → with_mode takes_in takes c t ≡ true → Goes t old new before after next.Taken
goes_taken t old new before after passed c rest h e p k = (
  passed,
  p,
  λ front events r. record {
    rest = subst (λ xs. IsLeft (λ (u : Token). u) (with_mode takes_in takes) (IsRuleOf rules anywhere) took marked script (front ++ t ∷ []) [] xs ((events ++ map Marked passed) ++ Took t ∷ [])) (sym e)
        (taken (λ (u : Token). u) (with_mode takes_in takes) (IsRuleOf rules anywhere) took marked script front [] c rest (events ++ map Marked passed) r.rest (h.hand anywhere allows_anywhere r.fits t.0 events) k);
    within = subst (λ xs. IsLeft (λ (u : Token). u) (with_mode takes_in takes) (IsRuleOf rules within_limit) took marked script (front ++ t ∷ []) [] xs ((events ++ map Marked passed) ++ Took t ∷ [])) (sym e)
        (taken (λ (u : Token). u) (with_mode takes_in takes) (IsRuleOf rules within_limit) took marked script front [] c rest (events ++ map Marked passed) r.within (h.hand within_limit allows_within r.fits t.0 events) k);
    fits = subst FitsAll (sym e) (h.fits r.fits);
  },
)

pub goes_none : (t : Token) (old new : Left) (before after passed : List Mark) → Passing t (reverse old) [] passed → Goes t old new before after next.Refused
goes_none t old new before after passed h front events r =
    dead (λ (u : Token). u) (with_mode takes_in takes) (IsRuleOf rules anywhere) took marked script front [] (reverse old) events t r.rest
    (none_left (λ (u : Token). u) (with_mode takes_in takes) (IsRuleOf rules anywhere) took marked (reverse old) events t (events ++ map Marked passed) (h.hand anywhere allows_anywhere r.fits t.0 events))

pub goes_not_this : (t : Token) (old new : Left) (before after passed : List Mark) (c : Terminal) (rest : Left)
    → Passing t (reverse old) (left.Token c ∷ rest) passed → with_mode takes_in takes c t ≡ false → Goes t old new before after next.Refused
goes_not_this t old new before after passed c rest h k front events r =
    dead (λ (u : Token). u) (with_mode takes_in takes) (IsRuleOf rules anywhere) took marked script front [] (reverse old) events t r.rest
    (not_this (λ (u : Token). u) (with_mode takes_in takes) (IsRuleOf rules anywhere) took marked (reverse old) events t c rest (events ++ map Marked passed) (h.hand anywhere allows_anywhere r.fits t.0 events) (λ yes. differ k yes))
  where
    differ : {b : Bool} → b ≡ false → b ≡ true → ⊥
    differ x y = cc

pub goes_no_rule : (t : Token) (old new : Left) (before after passed : List Mark) (p : declared.Part) (d : ℕ) (rest : Left)
    → Passing t (reverse old) (left.Part p d ∷ rest) passed → slice_get (rules p) (pick p t.1) ≡ None → Goes t old new before after next.Refused
goes_no_rule t old new before after passed p d rest h e front events r =
    dead (λ (u : Token). u) (with_mode takes_in takes) (IsRuleOf rules anywhere) took marked script front [] (reverse old) events t r.rest
    (no_rule (λ (u : Token). u) (with_mode takes_in takes) (IsRuleOf rules anywhere) took marked
    (with_mode (λ q m. same_mode (mode_of q) m) starts) (with_mode follows_in follows) empty (by_kind (chosen_by rules anywhere pick)) (one_token anywhere)
    (reverse old) events t p d rest (events ++ map Marked passed) (h.hand anywhere allows_anywhere r.fits t.0 events) (h.fits r.fits) (no_picked anywhere p d t.1 e))

-- a rule that opens something begins with a token of the kind that picks it, perhaps behind actions
abbrev first_takes : Rule → Kind → Bool
first_takes [] k = false
first_takes (place.Token c ∷ rule) k = takes c k
first_takes (place.Part p ∷ rule) k = false
first_takes (place.Inside p ∷ rule) k = false
first_takes (place.Make m ∷ rule) k = first_takes rule k

abbrev opening_fits : Option Rule → Kind → Bool
opening_fits None k = true
opening_fits (Some rule) k = not (opens rule) || first_takes rule k

openings_fit : list_all (λ p. list_all (λ k. opening_fits (slice_get (rules p) (pick p k)) k) kinds) parts ≡ true
openings_fit = refl

opening_takes : (p : declared.Part) (k : Kind) (rule : Rule) → slice_get (rules p) (pick p k) ≡ Some rule → opens rule ≡ true → first_takes rule k ≡ true
opening_takes p k rule e o =
    let each = all_at (λ q. list_all (λ l. opening_fits (slice_get (rules q) (pick q l)) l) kinds) parts (all_parts p).0 p (all_parts p).1 openings_fit in
    let one = all_at (λ l. opening_fits (slice_get (rules p) (pick p l)) l) kinds (all_kinds k).0 k (all_kinds k).1 each in
    from_implied (opens rule) (first_takes rule k) (subst (λ x. opening_fits x k ≡ true) e one) o

own_mode : Terminal → Mode
own_mode (One m k) = m
own_mode (Any m ws) = m

in_own_mode : (c : Terminal) → takes_in c (own_mode c) ≡ true
unfolding own_mode
in_own_mode (One m k) = eq-eqb (mode_number m) (mode_number m) refl
in_own_mode (Any m ws) = eq-eqb (mode_number m) (mode_number m) refl

-- the mode in which that token is read
first_mode : Rule → Mode
first_mode [] = mode.Command
first_mode (place.Token c ∷ rule) = own_mode c
first_mode (place.Part p ∷ rule) = mode.Command
first_mode (place.Inside p ∷ rule) = mode.Command
first_mode (place.Make m ∷ rule) = first_mode rule

first_in : Rule → Mode → Bool
first_in [] m = false
first_in (place.Token c ∷ rule) m = takes_in c m
first_in (place.Part p ∷ rule) m = false
first_in (place.Inside p ∷ rule) m = false
first_in (place.Make a ∷ rule) m = first_in rule m

in_first_mode : (rule : Rule) (k : Kind) → first_takes rule k ≡ true → first_in rule (first_mode rule) ≡ true
unfolding first_mode first_in
in_first_mode [] k first = cc
in_first_mode (place.Part q ∷ rule) k first = cc
in_first_mode (place.Inside q ∷ rule) k first = cc
in_first_mode (place.Make a ∷ rule) k first = in_first_mode rule k first
in_first_mode (place.Token c ∷ rule) k first = in_own_mode c

-- what is left begins with a rule whose first token is in hand
live_by : (u : Token) (old : Left) (front : List Token) (events now : List Event) (d : ℕ) (rule : Rule) (rest : Left) → HasRead front old events
    → Hand anywhere (reverse old) events u (map (at d) rule ++ rest) now → first_takes rule u.1 ≡ true → first_in rule u.0 ≡ true → IsLive (front ++ u ∷ [])
unfolding first_in
live_by u old front events now d [] rest r hand first own = cc
live_by u old front events now d (place.Part q ∷ rule) rest r hand first own = cc
live_by u old front events now d (place.Inside q ∷ rule) rest r hand first own = cc
live_by u old front events now d (place.Make a ∷ rule) rest r hand first own =
    live_by u old front events (marked a now) d rule rest r
    (acted (λ (u : Token). u) (with_mode takes_in takes) (IsRuleOf rules anywhere) took marked a (map (at d) rule ++ rest) now hand) first own
live_by u old front events now d (place.Token c ∷ rule) rest r hand first own =
    let after = taken (λ (u : Token). u) (with_mode takes_in takes) (IsRuleOf rules anywhere) took marked script front [] c (map (at d) rule ++ rest) now r.rest hand
    (both (takes_in c u.0) (takes c u.1) own first) in
    let more = completed (map (at d) rule ++ rest) (took u now) in
    (more.0, more.1, after.goes_on more.0 more.1 more.2)

-- a token of the kind, read in the mode of the rule's first token, is one with which a script goes on
opening_live_by : (t : Token) (old : Left) (passed : List Mark) (p : declared.Part) (d : ℕ) (rest : Left) (rule : Rule)
    → Passing t (reverse old) (left.Part p d ∷ rest) passed → slice_get (rules p) (pick p t.1) ≡ Some rule → first_takes rule t.1 ≡ true
    → (front : List Token) (events : List Event) → HasRead front old events → (m : Mode) × IsLive (front ++ (m, t.1) ∷ [])
opening_live_by t old passed p d rest rule h e first front events r =
    let hand = opened (λ (u : Token). u) (with_mode takes_in takes) (IsRuleOf rules anywhere) took marked
    (with_mode (λ q m. same_mode (mode_of q) m) starts) (with_mode follows_in follows) empty (by_kind (chosen_by rules anywhere pick)) (one_token anywhere)
    p d rest (map (at d) rule) (events ++ map Marked passed) (h.hand anywhere allows_anywhere r.fits (first_mode rule) events) (h.fits r.fits) (picked_rule anywhere p d t.1 rule e (λ q. refl)) in
    (first_mode rule, live_by (first_mode rule, t.1) old front events (events ++ map Marked passed) d rule rest r hand first (in_first_mode rule t.1 first))

opening_live : (t : Token) (old : Left) (passed : List Mark) (p : declared.Part) (d : ℕ) (rest : Left) (rule : Rule)
    → Passing t (reverse old) (left.Part p d ∷ rest) passed → slice_get (rules p) (pick p t.1) ≡ Some rule → opens rule ≡ true
    → (front : List Token) (events : List Event) → HasRead front old events → (m : Mode) × IsLive (front ++ (m, t.1) ∷ [])
opening_live t old passed p d rest rule h e o = opening_live_by t old passed p d rest rule h e (opening_takes p t.1 rule e o)

pub goes_too_deep : (t : Token) (old new : Left) (before after passed : List Mark) (p : declared.Part) (d : ℕ) (rest : Left) (rule : Rule)
    → Passing t (reverse old) (left.Part p d ∷ rest) passed → slice_get (rules p) (pick p t.1) ≡ Some rule → opens rule ≡ true → limit ≤ d → Goes t old new before after next.TooDeep
goes_too_deep t old new before after passed p d rest rule h e o deep front events r = (
  (λ live. no_rule (λ (u : Token). u) (with_mode takes_in takes) (IsRuleOf rules within_limit) took marked
      (with_mode (λ q m. same_mode (mode_of q) m) starts) (with_mode follows_in follows) empty (by_kind (chosen_by rules within_limit pick)) (one_token within_limit)
      (reverse old) events t p d rest (events ++ map Marked passed) (h.hand within_limit allows_within r.fits t.0 events) (h.fits r.fits)
      (ap (λ x. option_and_then (λ y. rule_at rules within_limit y d) x) e ∙ forbidden (opens rule) (nat_lt d limit) (map (at d) rule) o (not_less d deep))
      live.0 live.1 (r.within.only_so (t ∷ live.0) live.1 (subst (λ xs. Reads (λ (u : Token). u) (with_mode takes_in takes) (IsRuleOf rules within_limit) took marked script xs [] live.1) (append_assoc front (t ∷ []) live.0) live.2))),
  opening_live t old passed p d rest rule h e o front events r,
)
  where
    forbidden : {X : Type 0} (a b : Bool) (x : X) → a ≡ true → b ≡ false → (if a && not b then None else Some x) ≡ None
    forbidden true true x p q = cc
    forbidden true false x p q = refl
    forbidden false b x p q = cc

    not_less : (d : ℕ) → limit ≤ d → nat_lt d limit ≡ false
    not_less d h = le-ltb d limit h

-- the last of the list that is kept is the front of what is left
front_of : {X : Type 0} (xs ys : List X) (x : X) → xs ≡ ys ++ x ∷ [] → reverse xs ≡ x ∷ reverse ys
front_of xs ys x e = ap reverse e ∙ reverse-append ys (x ∷ [])

record Chosen (p : declared.Part) (d : ℕ) (k : Kind) (old new : Left) : Type 0 where
  rule : Rule
  picked : slice_get (rules p) (pick p k) ≡ Some rule
  shallow : opens rule ≡ true → d < limit
  put : reverse new ≡ map (at d) rule ++ reverse old

chosen_read : (p : declared.Part) (d : ℕ) (k : Kind) (old new : Left) (o : Option Rule) → slice_get (rules p) (pick p k) ≡ o → IsPut o d (Ok step.Read) old new → Chosen p d k old new
chosen_read p d k old new None e h = absurd h
chosen_read p d k old new (Some rule) e h = record { rule = rule; picked = e; shallow = h.0; put = h.1 }

chosen_none : (d : ℕ) (old new : Left) (o : Option Rule) → IsPut o d (Ok step.Refused) old new → o ≡ None
chosen_none d old new None h = refl
chosen_none d old new (Some rule) h = absurd h

record Deep (p : declared.Part) (d : ℕ) (k : Kind) : Type 0 where
  rule : Rule
  picked : slice_get (rules p) (pick p k) ≡ Some rule
  opening : opens rule ≡ true
  deep : limit ≤ d

chosen_deep : (p : declared.Part) (d : ℕ) (k : Kind) (old new : Left) (o : Option Rule) → slice_get (rules p) (pick p k) ≡ o → IsPut o d (Ok step.TooDeep) old new → Deep p d k
chosen_deep p d k old new None e h = absurd h
chosen_deep p d k old new (Some rule) e h = record { rule = rule; picked = e; opening = h.0; deep = h.1 }

-- the marks that were passed so far, at a turn of the loop
abbrev pub Passed : Token → Left → Left → List Mark → List Mark → Type 0
Passed t old now before after = (passed : List Mark) × (after ≡ before ++ passed) × Passing t (reverse old) (reverse now) passed

pub turn_mark : (t : Token) (old now next : Left) (before marks after : List Mark) (m : Mark) → Passed t old now before marks → now ≡ next ++ left.Make m ∷ [] → after ≡ marks ++ m ∷ [] → Passed t old next before after
turn_mark t old now next before marks after m h e f = (
  h.0 ++ m ∷ [],
  f ∙ ap (λ xs. xs ++ m ∷ []) h.1 ∙ append_assoc before h.0 (m ∷ []),
  passing_mark t (reverse old) (reverse next) h.0 m (subst (λ xs. Passing t (reverse old) xs h.0) (front_of now next (left.Make m) e) h.2),
)

pub turn_part : (t : Token) (old now popped next : Left) (before after : List Mark) (p : declared.Part) (d : ℕ) → Passed t old now before after → now ≡ popped ++ left.Part p d ∷ [] → IsRead p d t.1 (Ok step.Read) popped next → Passed t old next before after
turn_part t old now popped next before after p d h e r =
    let c = chosen_read p d t.1 popped next (slice_get (rules p) (pick p t.1)) refl r in (
      h.0,
      h.1,
      subst (λ xs. Passing t (reverse old) xs h.0) (sym c.put)
          (passing_part t (reverse old) (reverse popped) h.0 p d c.rule (subst (λ xs. Passing t (reverse old) xs h.0) (front_of now popped (left.Part p d) e) h.2) c.picked c.shallow),
    )

pub turn_lighter : (k : Kind) (now popped next : Left) (p : declared.Part) (d : ℕ) → now ≡ popped ++ left.Part p d ∷ [] → IsRead p d k (Ok step.Read) popped next → front_weight (reverse next) < front_weight (reverse now)
turn_lighter k now popped next p d e r =
    let c = chosen_read p d k popped next (slice_get (rules p) (pick p k)) refl r in
    subst (λ xs. front_weight xs < front_weight (reverse now)) (sym c.put)
    (subst (λ xs. front_weight (map (at d) c.rule ++ reverse popped) < front_weight xs) (sym (front_of now popped (left.Part p d) e)) (lighter p d (pick p k) c.rule (reverse popped) c.picked))

pub mark_lighter : (now next : Left) (m : Mark) → now ≡ next ++ left.Make m ∷ [] → front_weight (reverse next) < front_weight (reverse now)
mark_lighter now next m e =
    let f : front_weight (reverse now) ≡ suc (front_weight (reverse next)) = ap front_weight (front_of now next (left.Make m) e) in
    omega arith

pub end_none : (t : Token) (old now new : Left) (before after : List Mark) → Passed t old now before after → now ≡ [] → Goes t old new before after next.Refused
end_none t old now new before after h e =
    goes_none t old new before after h.0 (subst (λ xs. Passing t (reverse old) xs h.0) (ap reverse e) h.2)

pub end_taken : (t : Token) (old now new : Left) (before after : List Mark) (c : Terminal) → Passed t old now before after → now ≡ new ++ left.Token c ∷ [] → with_mode takes_in takes c t ≡ true → Goes t old new before after next.Taken
end_taken t old now new before after c h e k =
    goes_taken t old new before after h.0 c (reverse new) (subst (λ xs. Passing t (reverse old) xs h.0) (front_of now new (left.Token c) e) h.2) refl h.1 k

pub end_not_this : (t : Token) (old now new : Left) (before after : List Mark) (c : Terminal) → Passed t old now before after → now ≡ new ++ left.Token c ∷ [] → with_mode takes_in takes c t ≡ false → Goes t old new before after next.Refused
end_not_this t old now new before after c h e k =
    goes_not_this t old new before after h.0 c (reverse new) (subst (λ xs. Passing t (reverse old) xs h.0) (front_of now new (left.Token c) e) h.2) k

pub end_no_rule : (t : Token) (old now popped new : Left) (before after : List Mark) (p : declared.Part) (d : ℕ) → Passed t old now before after → now ≡ popped ++ left.Part p d ∷ [] → IsRead p d t.1 (Ok step.Refused) popped new → Goes t old new before after next.Refused
end_no_rule t old now popped new before after p d h e r =
    goes_no_rule t old new before after h.0 p d (reverse popped) (subst (λ xs. Passing t (reverse old) xs h.0) (front_of now popped (left.Part p d) e) h.2) (chosen_none d popped new (slice_get (rules p) (pick p t.1)) r)

pub end_too_deep : (t : Token) (old now popped new : Left) (before after : List Mark) (p : declared.Part) (d : ℕ) → Passed t old now before after → now ≡ popped ++ left.Part p d ∷ [] → IsRead p d t.1 (Ok step.TooDeep) popped new → Goes t old new before after next.TooDeep
end_too_deep t old now popped new before after p d h e r =
    let c = chosen_deep p d t.1 popped new (slice_get (rules p) (pick p t.1)) refl r in
    goes_too_deep t old new before after h.0 p d (reverse popped) c.rule (subst (λ xs. Passing t (reverse old) xs h.0) (front_of now popped (left.Part p d) e) h.2) c.picked c.opening c.deep
