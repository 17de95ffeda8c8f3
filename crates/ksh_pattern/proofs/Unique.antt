-- Marked bytes have one reading at most: a tree comes back from what it spells.
use Rattle.std.proofs.Common.{◌≡◌, ℕ, zero, suc, ◌+◌, ◌-◌, ◌<◌, ◌≤◌, ◌==◌, Bool, true, false, ◌&&◌, List, [], ◌∷◌, ◌++◌, map, Option, Some, None, refl, ap, sym, ◌∙◌, subst, arith, append_assoc, nat_lt, nat_le}
use Rattle.std.proofs.lemmas.Bool.Decides.{nat_tests}
use Rattle.std.proofs.lemmas.List.{append-nil}
use Rattle.ksh_pattern.specs.declared.marked.Marked.{Marked}
use Rattle.ksh_pattern.specs.declared.part.Kind.{Kind}
use Rattle.ksh_pattern.specs.declared.part.Kind.TheVariants as kind
use Rattle.ksh_pattern.specs.declared.part.Part.{Part, Part-F, fold-Part, fold-roll-Part, roll-Part, ind-Part, map-Part}
use Rattle.ksh_pattern.specs.declared.part.Part.TheVariants as part
use Rattle.ksh_pattern.specs.declared.token.Token.{Token}
use Rattle.ksh_pattern.specs.declared.token.Token.TheVariants as token
use Rattle.ksh_pattern.specs.declared.build.Opened.{Opened}
use Rattle.ksh_pattern.specs.Reading.{opening, unopened, settled, closed, part_spelling, spelling, tokens_of, IsReadAs}
use Rattle.ksh_pattern.proofs.Buildings.{one_spelling, any_spelling, group_spelling, settled_lone, settled_group, settled_deep}

-- how many groups the tokens open and close
abbrev opens : List Token → ℕ
opens [] = 0
opens (token.Open k ∷ ts) = suc (opens ts)
opens (token.One t ∷ ts) = opens ts
opens (token.AnyText ∷ ts) = opens ts
opens (token.Bar ∷ ts) = opens ts
opens (token.Close ∷ ts) = opens ts

abbrev closes : List Token → ℕ
closes [] = 0
closes (token.Close ∷ ts) = suc (closes ts)
closes (token.One t ∷ ts) = closes ts
closes (token.AnyText ∷ ts) = closes ts
closes (token.Bar ∷ ts) = closes ts
closes (token.Open k ∷ ts) = closes ts

opens_append : (ts us : List Token) → opens (ts ++ us) ≡ opens ts + opens us
opens_append [] us = omega arith
opens_append (token.Open k ∷ ts) us = let h : opens (ts ++ us) ≡ opens ts + opens us = opens_append ts us in omega arith
opens_append (token.One t ∷ ts) us = opens_append ts us
opens_append (token.AnyText ∷ ts) us = opens_append ts us
opens_append (token.Bar ∷ ts) us = opens_append ts us
opens_append (token.Close ∷ ts) us = opens_append ts us

closes_append : (ts us : List Token) → closes (ts ++ us) ≡ closes ts + closes us
closes_append [] us = omega arith
closes_append (token.Close ∷ ts) us = let h : closes (ts ++ us) ≡ closes ts + closes us = closes_append ts us in omega arith
closes_append (token.One t ∷ ts) us = closes_append ts us
closes_append (token.AnyText ∷ ts) us = closes_append ts us
closes_append (token.Bar ∷ ts) us = closes_append ts us
closes_append (token.Open k ∷ ts) us = closes_append ts us

opening_opens : (k : Kind) (ts : List Token) → opens (opening k ++ ts) ≡ opens ts
opening_opens kind.Optional ts = refl
opening_opens kind.Any ts = refl
opening_opens kind.Many ts = refl
opening_opens kind.One ts = refl
opening_opens kind.Not ts = refl

opening_closes : (k : Kind) (ts : List Token) → closes (opening k ++ ts) ≡ closes ts
opening_closes kind.Optional ts = refl
opening_closes kind.Any ts = refl
opening_closes kind.Many ts = refl
opening_closes kind.One ts = refl
opening_closes kind.Not ts = refl

-- the groups that are open are closed by what is settled
abbrev IsEven : ℕ → List Token → Type 0
IsEven g ts = opens ts + g ≡ closes ts

as_before : (g : ℕ) (ts us : List Token) → opens ts ≡ opens us → closes ts ≡ closes us → IsEven g us → IsEven g ts
as_before g ts us o c h = ap (λ n. n + g) o ∙ h ∙ sym c

one_open : (o c g : ℕ) → o + (g + 1) ≡ c → suc o + g ≡ c
one_open o c g h = omega arith

one_closed : (o c g : ℕ) → o + g ≡ c → o + suc g ≡ suc c
one_closed o c g h = omega arith

none_left : (u g d : ℕ) → nat_lt 0 u ≡ false → g + d ≤ u - 1 → g + d ≤ u
none_left u g d e h = omega arith

in_group : (u g d : ℕ) → nat_lt 0 u ≡ true → g + d ≤ u - 1 → (g + 1) + 0 ≤ u
in_group u g d e h = let some : 0 < u = grind (arith, nat_tests, e) in omega (arith, some)

in_deep : (u g d : ℕ) → nat_lt 0 u ≡ true → g + d ≤ u - 1 → g + (d + 1) ≤ u
in_deep u g d e h = let some : 0 < u = grind (arith, nat_tests, e) in omega (arith, some)

open_even : (g d : ℕ) (k : Kind) (ts : List Token) → ((h e : ℕ) → h + e ≤ unopened ts → IsEven h (settled h e ts)) → (a b : Bool)
    → nat_lt 0 (unopened ts) ≡ a → (nat_le g 64 && d == 0) ≡ b → g + d ≤ unopened ts - 1 → IsEven g (settled g d (token.Open k ∷ ts))
open_even g d k ts further false b e f h =
    as_before g (settled g d (token.Open k ∷ ts)) (settled g d ts)
    (ap opens (settled_lone g d k ts e) ∙ opening_opens k (settled g d ts))
    (ap closes (settled_lone g d k ts e) ∙ opening_closes k (settled g d ts))
    (further g d (none_left (unopened ts) g d e h))
open_even g d k ts further true true e f h =
    as_before g (settled g d (token.Open k ∷ ts)) (token.Open k ∷ settled (g + 1) 0 ts)
    (ap opens (settled_group g d k ts e f))
    (ap closes (settled_group g d k ts e f))
    (one_open (opens (settled (g + 1) 0 ts)) (closes (settled (g + 1) 0 ts)) g (further (g + 1) 0 (in_group (unopened ts) g d e h)))
open_even g d k ts further true false e f h =
    as_before g (settled g d (token.Open k ∷ ts)) (settled g (d + 1) ts)
    (ap opens (settled_deep g d k ts e f) ∙ opening_opens k (settled g (d + 1) ts))
    (ap closes (settled_deep g d k ts e f) ∙ opening_closes k (settled g (d + 1) ts))
    (further g (d + 1) (in_deep (unopened ts) g d e h))

settled_even : (g d : ℕ) (ts : List Token) → g + d ≤ unopened ts → IsEven g (settled g d ts)
settled_even g d [] h = let none : g ≡ 0 = omega arith in omega (arith, none)
settled_even g d (token.One t ∷ ts) h = settled_even g d ts h
settled_even g d (token.AnyText ∷ ts) h = settled_even g d ts h
settled_even g d (token.Open k ∷ ts) h = open_even g d k ts (λ i j. settled_even i j ts) (nat_lt 0 (unopened ts)) (nat_le g 64 && d == 0) refl refl h
settled_even g (suc d) (token.Close ∷ ts) h = settled_even g d ts (omega arith)
settled_even (suc g) zero (token.Close ∷ ts) h = one_closed (opens (settled g 0 ts)) (closes (settled g 0 ts)) g (settled_even g 0 ts (omega arith))
settled_even zero zero (token.Close ∷ ts) h = settled_even 0 0 ts (omega arith)
settled_even g (suc d) (token.Bar ∷ ts) h = settled_even g (suc d) ts h
settled_even (suc g) zero (token.Bar ∷ ts) h = settled_even (suc g) 0 ts h
settled_even zero zero (token.Bar ∷ ts) h = settled_even 0 0 ts h

-- how many groups have no alternative
abbrev added : List ℕ → ℕ
added [] = 0
added (n ∷ ns) = n + added ns

abbrev hollow_of : List (List ℕ) → ℕ
hollow_of [] = 1
hollow_of (a ∷ []) = added a
hollow_of (a ∷ b ∷ rest) = added a + hollow_of (b ∷ rest)

abbrev hollow_step : Part-F ℕ → ℕ
hollow_step (Part-F.One t) = 0
hollow_step Part-F.AnyText = 0
hollow_step (Part-F.Group k alternatives) = hollow_of alternatives

abbrev hollow : Part → ℕ
hollow = fold-Part ℕ hollow_step

abbrev hollows : List Part → ℕ
hollows parts = added (map hollow parts)

abbrev hollow_some : List (List Part) → ℕ
hollow_some alternatives = hollow_of (map (map hollow) alternatives)

hollow_one : (t : _) → hollow (part.One t) ≡ 0
hollow_one t = ap hollow (sym (part.rolls-One t)) ∙ fold-roll-Part ℕ hollow_step (Part-F.One t)

hollow_any : hollow part.AnyText ≡ 0
hollow_any = ap hollow (sym part.rolls-AnyText) ∙ fold-roll-Part ℕ hollow_step Part-F.AnyText

hollow_group : (k : Kind) (alts : List (List Part)) → hollow (part.Group k alts) ≡ hollow_some alts
hollow_group k alts = ap hollow (sym (part.rolls-Group k alts)) ∙ fold-roll-Part ℕ hollow_step (Part-F.Group k alts)

-- such a group is opened and not closed, every other is both
abbrev IsCounted : Part → Type 0
IsCounted p = opens (part_spelling p) ≡ closes (part_spelling p) + hollow p

Counted : Type 0
Counted = (p : Part) × IsCounted p

abbrev bare : List ((p : Part) × IsCounted p) → List Part
bare ps = map (λ e. e.0) ps

put_together : (o c h o' c' h' a b : ℕ) → a ≡ o + o' → b ≡ c + c' → o ≡ c + h → o' ≡ c' + h' → a ≡ b + (h + h')
put_together o c h o' c' h' a b p q r s = omega arith

counted_all : (ps : List ((p : Part) × IsCounted p)) → opens (spelling (bare ps)) ≡ closes (spelling (bare ps)) + hollows (bare ps)
counted_all [] = omega arith
counted_all (p ∷ ps) =
    put_together (opens (part_spelling p.0)) (closes (part_spelling p.0)) (hollow p.0) (opens (spelling (bare ps))) (closes (spelling (bare ps))) (hollows (bare ps))
    (opens (spelling (bare (p ∷ ps)))) (closes (spelling (bare (p ∷ ps))))
    (opens_append (part_spelling p.0) (spelling (bare ps))) (closes_append (part_spelling p.0) (spelling (bare ps))) p.1 (counted_all ps)

last_counted : (o c h a b : ℕ) → a ≡ o + 0 → b ≡ c + 1 → o ≡ c + h → suc a ≡ b + h
last_counted o c h a b p q r = omega arith

next_counted : (o c h o' c' h' a b : ℕ) → a ≡ o + o' → b ≡ c + c' → o ≡ c + h → suc o' ≡ c' + h' → suc a ≡ b + (h + h')
next_counted o c h o' c' h' a b p q r s = omega arith

abbrev bares : List (List ((p : Part) × IsCounted p)) → List (List Part)
bares alts = map bare alts

counted_some : (alts : List (List ((p : Part) × IsCounted p))) → suc (opens (closed (map spelling (bares alts)))) ≡ closes (closed (map spelling (bares alts))) + hollow_some (bares alts)
counted_some [] = omega arith
counted_some (a ∷ []) =
    last_counted (opens (spelling (bare a))) (closes (spelling (bare a))) (hollows (bare a)) _ _
    (opens_append (spelling (bare a)) (token.Close ∷ [])) (closes_append (spelling (bare a)) (token.Close ∷ [])) (counted_all a)
counted_some (a ∷ b ∷ rest) =
    next_counted (opens (spelling (bare a))) (closes (spelling (bare a))) (hollows (bare a))
    (opens (closed (map spelling (bares (b ∷ rest))))) (closes (closed (map spelling (bares (b ∷ rest))))) (hollow_some (bares (b ∷ rest))) _ _
    (opens_append (spelling (bare a)) (token.Bar ∷ closed (map spelling (bares (b ∷ rest)))))
    (closes_append (spelling (bare a)) (token.Bar ∷ closed (map spelling (bares (b ∷ rest)))))
    (counted_all a) (counted_some (b ∷ rest))

counted_step : (x : Part-F Part) (y : Part-F ((p : Part) × IsCounted p)) → map-Part ((p : Part) × IsCounted p) Part (λ e. e.0) y ≡ x → IsCounted (roll-Part x)
counted_step x (Part-F.One t) is =
    subst (λ z. IsCounted (roll-Part z)) is (subst IsCounted (sym (part.rolls-One t)) (leaf (part.One t) (token.One t) (one_spelling t) (hollow_one t) refl refl))
  where
    leaf : (p : Part) (t : Token) → part_spelling p ≡ t ∷ [] → hollow p ≡ 0 → opens (t ∷ []) ≡ 0 → closes (t ∷ []) ≡ 0 → IsCounted p
    leaf p t s h o c = let e : opens (part_spelling p) ≡ 0 = ap opens s ∙ o in let f : closes (part_spelling p) ≡ 0 = ap closes s ∙ c in omega (arith, e, f, h)
counted_step x Part-F.AnyText is =
    subst (λ z. IsCounted (roll-Part z)) is (subst IsCounted (sym part.rolls-AnyText) (any_leaf (ap opens any_spelling) (ap closes any_spelling) hollow_any))
  where
    any_leaf : opens (part_spelling part.AnyText) ≡ 0 → closes (part_spelling part.AnyText) ≡ 0 → hollow part.AnyText ≡ 0 → IsCounted part.AnyText
    any_leaf o c h = omega (arith, o, c, h)
counted_step x (Part-F.Group k alts) is =
    subst (λ z. IsCounted (roll-Part z)) is (subst IsCounted (sym (part.rolls-Group k (bares alts)))
    (ap opens (group_spelling k (bares alts)) ∙ counted_some alts
    ∙ (λ i. closes (sym (group_spelling k (bares alts)) i) + sym (hollow_group k (bares alts)) i)))

counted : (p : Part) → IsCounted p
counted = ind-Part IsCounted counted_step

abbrev beside : List Part → List ((p : Part) × IsCounted p)
beside ps = map (λ p. (p, counted p)) ps

bare_beside : (ps : List Part) → bare (beside ps) ≡ ps
bare_beside [] = refl
bare_beside (p ∷ ps) = ap (λ qs. p ∷ qs) (bare_beside ps)

spelled_counted : (ps : List Part) → opens (spelling ps) ≡ closes (spelling ps) + hollows ps
spelled_counted ps = subst (λ qs. opens (spelling qs) ≡ closes (spelling qs) + hollows qs) (bare_beside ps) (counted_all (beside ps))

-- the tree of tokens, in open groups, the innermost first, and behind some parts
abbrev tree_of : List Token → List Opened → List Part → Option (List Part)
tree_of [] [] ps = Some ps
tree_of [] (o ∷ os) ps = None
tree_of (token.One t ∷ ts) os ps = tree_of ts os (ps ++ part.One t ∷ [])
tree_of (token.AnyText ∷ ts) os ps = tree_of ts os (ps ++ part.AnyText ∷ [])
tree_of (token.Open k ∷ ts) os ps = tree_of ts (record { kind = k; before = ps; alternatives = [] } ∷ os) []
tree_of (token.Bar ∷ ts) [] ps = None
tree_of (token.Bar ∷ ts) (o ∷ os) ps = tree_of ts (record { kind = o.kind; before = o.before; alternatives = o.alternatives ++ ps ∷ [] } ∷ os) []
tree_of (token.Close ∷ ts) [] ps = None
tree_of (token.Close ∷ ts) (o ∷ os) ps = tree_of ts os (o.before ++ part.Group o.kind (o.alternatives ++ ps ∷ []) ∷ [])

-- what a part without such groups spells is read as the part
abbrev IsRead : Part → Type 0
IsRead p = hollow p ≡ 0 → (ts : List Token) (os : List Opened) (ps : List Part) → tree_of (part_spelling p ++ ts) os ps ≡ tree_of ts os (ps ++ p ∷ [])

abbrev plain : List ((p : Part) × IsRead p) → List Part
plain ps = map (λ e. e.0) ps

abbrev plains : List (List ((p : Part) × IsRead p)) → List (List Part)
plains alts = map plain alts

both_none : (m n : ℕ) → m + n ≡ 0 → (m ≡ 0) × (n ≡ 0)
both_none m n h = (omega arith, omega arith)

read_all : (qs : List ((p : Part) × IsRead p)) → hollows (plain qs) ≡ 0 → (ts : List Token) (os : List Opened) (ps : List Part)
    → tree_of (spelling (plain qs) ++ ts) os ps ≡ tree_of ts os (ps ++ plain qs)
read_all [] h ts os ps = ap (tree_of ts os) (sym (append-nil ps))
read_all (q ∷ qs) h ts os ps =
    let none = both_none (hollow q.0) (hollows (plain qs)) h in
    ap (λ us. tree_of us os ps) (append_assoc (part_spelling q.0) (spelling (plain qs)) ts)
    ∙ q.1 none.0 (spelling (plain qs) ++ ts) os ps
    ∙ read_all qs none.1 ts os (ps ++ q.0 ∷ [])
    ∙ ap (tree_of ts os) (append_assoc ps (q.0 ∷ []) (plain qs))

read_some : (alts : List (List ((p : Part) × IsRead p))) → hollow_some (plains alts) ≡ 0 → (ts : List Token) (os : List Opened) (k : Kind) (b : List Part) (before : List (List Part))
    → tree_of (closed (map spelling (plains alts)) ++ ts) (record { kind = k; before = b; alternatives = before } ∷ os) [] ≡ tree_of ts os (b ++ part.Group k (before ++ plains alts) ∷ [])
read_some [] h ts os k b before = absurd (omega (arith, h))
read_some (a ∷ []) h ts os k b before =
    ap (λ us. tree_of us (record { kind = k; before = b; alternatives = before } ∷ os) []) (append_assoc (spelling (plain a)) (token.Close ∷ []) ts)
    ∙ read_all a h (token.Close ∷ ts) (record { kind = k; before = b; alternatives = before } ∷ os) []
read_some (a ∷ c ∷ rest) h ts os k b before =
    let none = both_none (hollows (plain a)) (hollow_some (plains (c ∷ rest))) h in
    ap (λ us. tree_of us (record { kind = k; before = b; alternatives = before } ∷ os) []) (append_assoc (spelling (plain a)) (token.Bar ∷ closed (map spelling (plains (c ∷ rest)))) ts)
    ∙ read_all a none.0 (token.Bar ∷ (closed (map spelling (plains (c ∷ rest))) ++ ts)) (record { kind = k; before = b; alternatives = before } ∷ os) []
    ∙ read_some (c ∷ rest) none.1 ts os k b (before ++ plain a ∷ [])
    ∙ ap (λ xs. tree_of ts os (b ++ part.Group k xs ∷ [])) (append_assoc before (plain a ∷ []) (plains (c ∷ rest)))

read_step : (x : Part-F Part) (y : Part-F ((p : Part) × IsRead p)) → map-Part ((p : Part) × IsRead p) Part (λ e. e.0) y ≡ x → IsRead (roll-Part x)
read_step x (Part-F.One t) is =
    subst (λ z. IsRead (roll-Part z)) is (subst IsRead (sym (part.rolls-One t)) (λ h ts os ps. ap (λ us. tree_of (us ++ ts) os ps) (one_spelling t)))
read_step x Part-F.AnyText is =
    subst (λ z. IsRead (roll-Part z)) is (subst IsRead (sym part.rolls-AnyText) (λ h ts os ps. ap (λ us. tree_of (us ++ ts) os ps) any_spelling))
read_step x (Part-F.Group k alts) is =
    subst (λ z. IsRead (roll-Part z)) is (subst IsRead (sym (part.rolls-Group k (plains alts))) (λ h ts os ps.
    ap (λ us. tree_of (us ++ ts) os ps) (group_spelling k (plains alts))
    ∙ read_some alts (sym (hollow_group k (plains alts)) ∙ h) ts os k ps []))

read : (p : Part) → IsRead p
read = ind-Part IsRead read_step

spelled_read : (ps : List Part) → hollows ps ≡ 0 → tree_of (spelling ps) [] [] ≡ Some ps
spelled_read ps h =
    ap (λ us. tree_of us [] []) (sym (append-nil (spelling ps)))
    ∙ subst (λ qs. hollows qs ≡ 0 → tree_of (spelling qs ++ []) [] [] ≡ Some qs) (with_read ps) (λ e. read_all (map (λ p. (p, read p)) ps) e [] [] []) h
  where
    with_read : (ps : List Part) → plain (map (λ p. (p, read p)) ps) ≡ ps
    with_read [] = refl
    with_read (p ∷ ps) = ap (λ qs. p ∷ qs) (with_read ps)

-- marked bytes leave no group without an alternative
no_hollows : (ms : List Marked) (ps : List Part) → IsReadAs ms ps → hollows ps ≡ 0
no_hollows ms ps h =
    same_counts (opens (spelling ps)) (closes (spelling ps)) (hollows ps) (spelled_counted ps)
    (subst (λ ts. opens ts + 0 ≡ closes ts) (sym h) (settled_even 0 0 (tokens_of 0 ms) (omega arith)))
  where
    same_counts : (o c n : ℕ) → o ≡ c + n → o + 0 ≡ c → n ≡ 0
    same_counts o c n e f = omega arith

same_some : (a b : List Part) → (let x : Option (List Part) = Some a in x ≡ Some b) → a ≡ b
same_some a b h = cc

pub one : (ms : List Marked) (a b : List Part) → IsReadAs ms a → IsReadAs ms b → a ≡ b
one ms a b h g =
    same_some a b (sym (spelled_read a (no_hollows ms a h)) ∙ ap (λ ts. tree_of ts [] []) (h ∙ sym g) ∙ spelled_read b (no_hollows ms b g))
