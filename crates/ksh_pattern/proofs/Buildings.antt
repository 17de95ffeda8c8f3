-- What a tree spells, one step further.
use Rattle.std.proofs.Common.{◌≡◌, ℕ, zero, suc, ◌+◌, ◌-◌, ◌<◌, ◌≤◌, ◌==◌, Bool, true, false, ◌||◌, ◌&&◌, not, List, [], ◌∷◌, ◌++◌, length, map, take, drop, get_or, refl, ap, sym, ◌∙◌, arith, if◌then◌else◌, append_assoc, nat_lt, nat_le}
use Rattle.std.proofs.lemmas.List.{drop_more, append-nil, map-append}
use Rattle.std.proofs.lemmas.Simd.{map-map}
use Rattle.ksh_pattern.specs.declared.part.Kind.{Kind}
use Rattle.ksh_pattern.specs.declared.part.Part.{Part, Part-F, fold-roll-Part}
use Rattle.ksh_pattern.specs.declared.part.Part.TheVariants as part
use Rattle.ksh_pattern.specs.declared.byte_test.ByteTest.{ByteTest}
use Rattle.ksh_pattern.specs.declared.byte_test.ByteTest.TheVariants as test
use Rattle.ksh_pattern.specs.declared.token.Token.{Token}
use Rattle.ksh_pattern.specs.declared.token.Token.TheVariants as token
use Rattle.ksh_pattern.specs.declared.build.Opened.{Opened}
use Rattle.ksh_pattern.specs.Reading.{literal, opening, unopened, settled, closed, joined_tokens, spelling_step, part_spelling, spelling}
use Rattle.ksh_pattern.specs.Building.{each_barred, opened_spelling}

pub one_spelling : (t : ByteTest) → part_spelling (part.One t) ≡ token.One t ∷ []
one_spelling t = ap part_spelling (sym (part.rolls-One t)) ∙ fold-roll-Part (List Token) spelling_step (Part-F.One t)

pub any_spelling : part_spelling part.AnyText ≡ token.AnyText ∷ []
any_spelling = ap part_spelling (sym part.rolls-AnyText) ∙ fold-roll-Part (List Token) spelling_step Part-F.AnyText

pub group_spelling : (k : Kind) (alts : List (List Part)) → part_spelling (part.Group k alts) ≡ token.Open k ∷ closed (map spelling alts)
group_spelling k alts =
    ap part_spelling (sym (part.rolls-Group k alts))
    ∙ fold-roll-Part (List Token) spelling_step (Part-F.Group k alts)
    ∙ ap (λ ts. token.Open k ∷ closed ts) (map-map joined_tokens _ alts)

joined_more : (tss : List (List Token)) (ts : List Token) → joined_tokens (tss ++ ts ∷ []) ≡ joined_tokens tss ++ ts
joined_more [] ts = append-nil ts
joined_more (us ∷ tss) ts = ap (λ x. us ++ x) (joined_more tss ts) ∙ sym (append_assoc us (joined_tokens tss) ts)

pub spelling_more : (ps : List Part) (p : Part) → spelling (ps ++ p ∷ []) ≡ spelling ps ++ part_spelling p
spelling_more ps p = ap joined_tokens (map-append part_spelling ps (p ∷ [])) ∙ joined_more (map part_spelling ps) (part_spelling p)

each_more : (alts : List (List Part)) (a : List Part) → each_barred (alts ++ a ∷ []) ≡ each_barred alts ++ (spelling a ++ token.Bar ∷ [])
each_more [] a = refl
each_more (b ∷ alts) a = ap (λ x. spelling b ++ token.Bar ∷ x) (each_more alts a) ∙ sym (append_assoc (spelling b) (token.Bar ∷ each_barred alts) (spelling a ++ token.Bar ∷ []))

closed_last : (alts : List (List Part)) (a : List Part) → closed (map spelling (alts ++ a ∷ [])) ≡ each_barred alts ++ (spelling a ++ token.Close ∷ [])
closed_last [] a = refl
closed_last (b ∷ []) a = sym (append_assoc (spelling b) (token.Bar ∷ []) (spelling a ++ token.Close ∷ []))
closed_last (b ∷ c ∷ alts) a =
    ap (λ x. spelling b ++ token.Bar ∷ x) (closed_last (c ∷ alts) a)
    ∙ sym (append_assoc (spelling b) (token.Bar ∷ each_barred (c ∷ alts)) (spelling a ++ token.Close ∷ []))

pub opened_more : (os : List Opened) (o : Opened) → opened_spelling (os ++ o ∷ []) ≡ opened_spelling os ++ (spelling o.before ++ token.Open o.kind ∷ each_barred o.alternatives)
opened_more [] o = ap (λ x. spelling o.before ++ token.Open o.kind ∷ x) (append-nil (each_barred o.alternatives))
opened_more (p ∷ os) o =
    ap (λ x. spelling p.before ++ token.Open p.kind ∷ (each_barred p.alternatives ++ x)) (opened_more os o)
    ∙ ap (λ x. spelling p.before ++ token.Open p.kind ∷ x) (sym (append_assoc (each_barred p.alternatives) (opened_spelling os) (spelling o.before ++ token.Open o.kind ∷ each_barred o.alternatives)))
    ∙ sym (append_assoc (spelling p.before) (token.Open p.kind ∷ (each_barred p.alternatives ++ opened_spelling os)) (spelling o.before ++ token.Open o.kind ∷ each_barred o.alternatives))

-- a part more, a group opened, another alternative, and a group closed
pub push_spells : (os : List Opened) (ps : List Part) (p : Part) → opened_spelling os ++ spelling (ps ++ p ∷ []) ≡ (opened_spelling os ++ spelling ps) ++ part_spelling p
push_spells os ps p = ap (λ x. opened_spelling os ++ x) (spelling_more ps p) ∙ sym (append_assoc (opened_spelling os) (spelling ps) (part_spelling p))

pub open_spells : (os : List Opened) (ps : List Part) (k : Kind) → opened_spelling (os ++ record { kind = k; before = ps; alternatives = [] } ∷ []) ++ [] ≡ (opened_spelling os ++ spelling ps) ++ token.Open k ∷ []
open_spells os ps k = append-nil (opened_spelling (os ++ record { kind = k; before = ps; alternatives = [] } ∷ [])) ∙ opened_more os (record { kind = k; before = ps; alternatives = [] }) ∙ sym (append_assoc (opened_spelling os) (spelling ps) (token.Open k ∷ []))

before_parts : (os : List Opened) (o : Opened) (ps : List Part) (more : List Token)
    → (opened_spelling (os ++ o ∷ []) ++ spelling ps) ++ more ≡ opened_spelling os ++ (spelling o.before ++ token.Open o.kind ∷ (each_barred o.alternatives ++ (spelling ps ++ more)))
before_parts os o ps more =
    append_assoc (opened_spelling (os ++ o ∷ [])) (spelling ps) more
    ∙ ap (λ x. x ++ (spelling ps ++ more)) (opened_more os o)
    ∙ append_assoc (opened_spelling os) (spelling o.before ++ token.Open o.kind ∷ each_barred o.alternatives) (spelling ps ++ more)
    ∙ ap (λ x. opened_spelling os ++ x) (append_assoc (spelling o.before) (token.Open o.kind ∷ each_barred o.alternatives) (spelling ps ++ more))

pub bar_spells : (os : List Opened) (o : Opened) (ps : List Part)
    → opened_spelling (os ++ record { kind = o.kind; before = o.before; alternatives = o.alternatives ++ ps ∷ [] } ∷ []) ++ [] ≡ (opened_spelling (os ++ o ∷ []) ++ spelling ps) ++ token.Bar ∷ []
bar_spells os o ps =
    append-nil (opened_spelling (os ++ record { kind = o.kind; before = o.before; alternatives = o.alternatives ++ ps ∷ [] } ∷ []))
    ∙ opened_more os (record { kind = o.kind; before = o.before; alternatives = o.alternatives ++ ps ∷ [] })
    ∙ ap (λ x. opened_spelling os ++ (spelling o.before ++ token.Open o.kind ∷ x)) (each_more o.alternatives ps)
    ∙ sym (before_parts os o ps (token.Bar ∷ []))

pub close_spells : (os : List Opened) (o : Opened) (ps : List Part)
    → opened_spelling os ++ spelling (o.before ++ part.Group o.kind (o.alternatives ++ ps ∷ []) ∷ []) ≡ (opened_spelling (os ++ o ∷ []) ++ spelling ps) ++ token.Close ∷ []
close_spells os o ps =
    ap (λ x. opened_spelling os ++ x) (spelling_more o.before (part.Group o.kind (o.alternatives ++ ps ∷ [])) ∙ ap (λ x. spelling o.before ++ x) (group_spelling o.kind (o.alternatives ++ ps ∷ [])))
    ∙ ap (λ x. opened_spelling os ++ (spelling o.before ++ token.Open o.kind ∷ x)) (closed_last o.alternatives ps)
    ∙ sym (before_parts os o ps (token.Close ∷ []))

pub open_step : (os os' : List Opened) (ps ps' b : List Part) (alts : List (List Part)) (k : Kind) → os' ≡ os ++ record { kind = k; before = b; alternatives = alts } ∷ [] → ps' ≡ [] → b ≡ ps → alts ≡ []
    → opened_spelling os' ++ spelling ps' ≡ (opened_spelling os ++ spelling ps) ++ token.Open k ∷ []
open_step os os' ps ps' b alts k e f g h =
    (λ j. opened_spelling (e j) ++ spelling (f j))
    ∙ (λ j. opened_spelling (os ++ record { kind = k; before = g j; alternatives = h j } ∷ []) ++ [])
    ∙ open_spells os ps k

pub bar_step : (old os new : List Opened) (o : Opened) (ps ps' qs : List Part) (alts : List (List Part)) → old ≡ os ++ o ∷ [] → alts ≡ o.alternatives ++ qs ∷ [] → qs ≡ ps
    → new ≡ os ++ record { kind = o.kind; before = o.before; alternatives = alts } ∷ [] → ps' ≡ []
    → opened_spelling new ++ spelling ps' ≡ (opened_spelling old ++ spelling ps) ++ token.Bar ∷ []
bar_step old os new o ps ps' qs alts a b d e f =
    (λ j. opened_spelling (e j) ++ spelling (f j))
    ∙ (λ j. opened_spelling (os ++ record { kind = o.kind; before = o.before; alternatives = (b ∙ ap (λ x. o.alternatives ++ x ∷ []) d) j } ∷ []) ++ [])
    ∙ bar_spells os o ps
    ∙ sym (λ j. (opened_spelling (a j) ++ spelling ps) ++ token.Bar ∷ [])

pub close_step : (old os : List Opened) (o : Opened) (ps ps' qs b : List Part) (alts alts' : List (List Part)) → old ≡ os ++ o ∷ [] → alts ≡ o.alternatives ++ qs ∷ [] → qs ≡ ps → alts' ≡ alts
    → b ≡ o.before → ps' ≡ b ++ part.Group o.kind alts' ∷ []
    → opened_spelling os ++ spelling ps' ≡ (opened_spelling old ++ spelling ps) ++ token.Close ∷ []
close_step old os o ps ps' qs b alts alts' a e d f g h =
    ap (λ x. opened_spelling os ++ spelling x) h
    ∙ (λ j. opened_spelling os ++ spelling (g j ++ part.Group o.kind ((f ∙ e ∙ ap (λ x. o.alternatives ++ x ∷ []) d) j) ∷ []))
    ∙ close_spells os o ps
    ∙ sym (λ j. (opened_spelling (a j) ++ spelling ps) ++ token.Close ∷ [])

-- what was spelled has a token more, or its bytes, and the tokens ahead one less
pub moved : (now was step ahead before : List Token) → now ≡ was ++ step → before ≡ step ++ ahead → now ++ ahead ≡ was ++ before
moved now was step ahead before e f = ap (λ x. x ++ ahead) e ∙ append_assoc was step ahead ∙ ap (λ x. was ++ x) (sym f)

pub settled_lone : (g d : ℕ) (k : Kind) (ts : List Token) → nat_lt 0 (unopened ts) ≡ false → settled g d (token.Open k ∷ ts) ≡ opening k ++ settled g d ts
settled_lone g d k ts e =
    ap (λ b. if b then (if nat_le g 64 && d == 0 then token.Open k ∷ settled (g + 1) 0 ts else opening k ++ settled g (d + 1) ts) else opening k ++ settled g d ts) e

pub settled_group : (g d : ℕ) (k : Kind) (ts : List Token) → nat_lt 0 (unopened ts) ≡ true → (nat_le g 64 && d == 0) ≡ true → settled g d (token.Open k ∷ ts) ≡ token.Open k ∷ settled (g + 1) 0 ts
settled_group g d k ts e f =
    ap (λ b. if b then (if nat_le g 64 && d == 0 then token.Open k ∷ settled (g + 1) 0 ts else opening k ++ settled g (d + 1) ts) else opening k ++ settled g d ts) e
    ∙ ap (λ b. if b then token.Open k ∷ settled (g + 1) 0 ts else opening k ++ settled g (d + 1) ts) f

pub settled_deep : (g d : ℕ) (k : Kind) (ts : List Token) → nat_lt 0 (unopened ts) ≡ true → (nat_le g 64 && d == 0) ≡ false → settled g d (token.Open k ∷ ts) ≡ opening k ++ settled g (d + 1) ts
settled_deep g d k ts e f =
    ap (λ b. if b then (if nat_le g 64 && d == 0 then token.Open k ∷ settled (g + 1) 0 ts else opening k ++ settled g (d + 1) ts) else opening k ++ settled g d ts) e
    ∙ ap (λ b. if b then token.Open k ∷ settled (g + 1) 0 ts else opening k ++ settled g (d + 1) ts) f

pub close_deep : (g d : ℕ) (ts : List Token) → 0 < d → settled g d (token.Close ∷ ts) ≡ literal 41 ∷ settled g (d - 1) ts
close_deep g zero ts h = absurd (omega arith)
close_deep g (suc d) ts h = ap (λ n. literal 41 ∷ settled g n ts) (let same : d ≡ suc d - 1 = omega arith in same)

pub close_group : (g d : ℕ) (ts : List Token) → 0 < g → d ≡ 0 → settled g d (token.Close ∷ ts) ≡ token.Close ∷ settled (g - 1) d ts
close_group zero d ts h e = absurd (omega arith)
close_group (suc g) d ts h e =
    ap (λ n. settled (suc g) n (token.Close ∷ ts)) e
    ∙ (λ j. token.Close ∷ settled ((let same : g ≡ suc g - 1 = omega arith in same) j) (sym e j) ts)

pub close_none : (g d : ℕ) (ts : List Token) → g ≡ 0 → d ≡ 0 → settled g d (token.Close ∷ ts) ≡ literal 41 ∷ settled g d ts
close_none g d ts f e = (λ j. settled (f j) (e j) (token.Close ∷ ts)) ∙ (λ j. literal 41 ∷ settled (sym f j) (sym e j) ts)

pub bar_deep : (g d : ℕ) (ts : List Token) → 0 < d → settled g d (token.Bar ∷ ts) ≡ literal 124 ∷ settled g d ts
bar_deep g zero ts h = absurd (omega arith)
bar_deep g (suc d) ts h = refl

pub bar_group : (g d : ℕ) (ts : List Token) → 0 < g → d ≡ 0 → settled g d (token.Bar ∷ ts) ≡ token.Bar ∷ settled g d ts
bar_group zero d ts h e = absurd (omega arith)
bar_group (suc g) d ts h e = ap (λ n. settled (suc g) n (token.Bar ∷ ts)) e ∙ (λ j. token.Bar ∷ settled (suc g) (sym e j) ts)

pub bar_none : (g d : ℕ) (ts : List Token) → g ≡ 0 → d ≡ 0 → settled g d (token.Bar ∷ ts) ≡ literal 124 ∷ settled g d ts
bar_none g d ts f e = (λ j. settled (f j) (e j) (token.Bar ∷ ts)) ∙ (λ j. literal 124 ∷ settled (sym f j) (sym e j) ts)

pub unopened_few : (ts : List Token) → unopened ts ≤ length ts
unopened_few [] = omega arith
unopened_few (token.One t ∷ ts) = let h : unopened ts ≤ length ts = unopened_few ts in omega arith
unopened_few (token.AnyText ∷ ts) = let h : unopened ts ≤ length ts = unopened_few ts in omega arith
unopened_few (token.Open k ∷ ts) = let h : unopened ts ≤ length ts = unopened_few ts in omega arith
unopened_few (token.Bar ∷ ts) = let h : unopened ts ≤ length ts = unopened_few ts in omega arith
unopened_few (token.Close ∷ ts) = let h : unopened ts ≤ length ts = unopened_few ts in omega arith
