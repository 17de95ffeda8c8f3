-- A list of parts, or of alternatives, that is walked from the left.
use Rattle.std.proofs.Common.{◌≡◌, ℕ, ◌+◌, ◌<◌, Bool, true, false, ◌||◌, ◌&&◌, not, List, [], ◌∷◌, ◌++◌, length, map, take, drop, get_or, refl, ap, sym, ◌∙◌, arith}
use Rattle.std.proofs.lemmas.List.{get_or-drop, map-append, take_more}
use Rattle.std.specs.Global.{Vec}
use Rattle.ksh_pattern.specs.declared.part.Part.{Part}
use Rattle.ksh_pattern.specs.declared.part.Kind.{Kind}
use Rattle.ksh_pattern.specs.declared.part.Kind.TheVariants as kind
use Rattle.ksh_pattern.specs.declared.cell.Cell.{Cell}
use Rattle.ksh_pattern.specs.declared.cell.Cell.TheVariants as cell
use Rattle.ksh_pattern.specs.Match.{Texts, some_cut, joined, either, any_number, repeated, part_matches, matches, one_matches, is_not, may_vanish}
use Rattle.ksh_pattern.specs.Cells.{wholes, rests, meaning, whole, rest, whole_all, rest_all, whole_some, rest_some, rest_copies, rest_repeated, looped}
use Rattle.std.proofs.Math.Bool.{and-true}
use Rattle.ksh_pattern.proofs.Cuts.{cut_and, cut_same, wholes_more, rests_more, joined_more, either_more, number_of_one}
use Rattle.ksh_pattern.proofs.Levels.{cell_whole, cell_rest, not_whole, not_rest}

-- the item at an index behind those before it
pub taken : {A : Type 0} (xs : List A) (i : ℕ) (x : A) → i < length xs → x ≡ get_or xs i x → take (i + 1) xs ≡ take i xs ++ x ∷ []
taken {A = A} xs i x h e = take_more xs i x h ∙ ap (λ (y : A). take i xs ++ y ∷ []) (sym e)

pub matches_more : (ps : List Part) (p : Part) (w : List ℕ) → matches (ps ++ p ∷ []) w ≡ some_cut (matches ps) (part_matches p) w
matches_more ps p w = ap (λ ts. joined ts w) (map-append part_matches ps (p ∷ [])) ∙ joined_more (map part_matches ps) (part_matches p) w

pub matches_next : (ps : List Part) (i : ℕ) (p : Part) → i < length ps → p ≡ get_or ps i p → (w : List ℕ) → matches (take (i + 1) ps) w ≡ some_cut (matches (take i ps)) (part_matches p) w
matches_next ps i p h e w = ap (λ qs. matches qs w) (taken ps i p h e) ∙ matches_more (take i ps) p w

pub one_next : (alts : List (List Part)) (i : ℕ) (a : List Part) → i < length alts → a ≡ get_or alts i a → (w : List ℕ) → one_matches (take (i + 1) alts) w ≡ (one_matches (take i alts) w || matches a w)
one_next alts i a h e w =
    ap (λ bs. one_matches bs w) (taken alts i a h e)
    ∙ ap (λ ts. either ts w) (map-append matches (take i alts) (a ∷ []))
    ∙ either_more (map matches (take i alts)) (matches a) w

pub whole_more : (cs : List Cell) (c : Cell) (w : List ℕ) → whole_all (cs ++ c ∷ []) w ≡ some_cut (whole_all cs) (whole c) w
whole_more cs c w = ap (λ ms. wholes ms w) (map-append meaning cs (c ∷ [])) ∙ wholes_more (map meaning cs) (meaning c) w

pub rest_more : (cs : List Cell) (c : Cell) (w : List ℕ) → rest_all (cs ++ c ∷ []) w ≡ (some_cut (rest_all cs) (whole c) w || rest c w)
rest_more cs c w = ap (λ ms. rests ms w) (map-append meaning cs (c ∷ [])) ∙ rests_more (map meaning cs) (meaning c) w

pub whole_next : (cs : List Cell) (i : ℕ) (c : Cell) → i < length cs → c ≡ get_or cs i c → (w : List ℕ) → whole_all (take (i + 1) cs) w ≡ some_cut (whole_all (take i cs)) (whole c) w
whole_next cs i c h e w = ap (λ ds. whole_all ds w) (taken cs i c h e) ∙ whole_more (take i cs) c w

pub rest_next : (cs : List Cell) (i : ℕ) (c : Cell) → i < length cs → c ≡ get_or cs i c → (w : List ℕ) → rest_all (take (i + 1) cs) w ≡ (some_cut (rest_all (take i cs)) (whole c) w || rest c w)
rest_next cs i c h e w = ap (λ ds. rest_all ds w) (taken cs i c h e) ∙ rest_more (take i cs) c w

-- alternatives with one more, by what each gives
some_more : (f : Vec Cell → Texts) (alts : List (Vec Cell)) (a : Vec Cell) (w : List ℕ) → either (map f (alts ++ a ∷ [])) w ≡ (either (map f alts) w || f a w)
some_more f alts a w = ap (λ ts. either ts w) (map-append f alts (a ∷ [])) ∙ either_more (map f alts) (f a) w

pub whole_some_more : (alts : List (Vec Cell)) (a : Vec Cell) (w : List ℕ) → whole_some (alts ++ a ∷ []) w ≡ (whole_some alts w || whole_all a.items w)
whole_some_more alts a w = some_more (λ v. whole_all v.items) alts a w

pub rest_some_more : (alts : List (Vec Cell)) (a : Vec Cell) (w : List ℕ) → rest_some (alts ++ a ∷ []) w ≡ (rest_some alts w || rest_all a.items w)
rest_some_more alts a w = some_more (λ v. rest_all v.items) alts a w

pub whole_some_next : (alts : List (Vec Cell)) (i : ℕ) (a : Vec Cell) → i < length alts → a ≡ get_or alts i a → (w : List ℕ) → whole_some (take (i + 1) alts) w ≡ (whole_some (take i alts) w || whole_all a.items w)
whole_some_next alts i a h e w = ap (λ bs. whole_some bs w) (taken alts i a h e) ∙ whole_some_more (take i alts) a w

pub rest_some_next : (alts : List (Vec Cell)) (i : ℕ) (a : Vec Cell) → i < length alts → a ≡ get_or alts i a → (w : List ℕ) → rest_some (take (i + 1) alts) w ≡ (rest_some (take i alts) w || rest_all a.items w)
rest_some_next alts i a h e w = ap (λ bs. rest_some bs w) (taken alts i a h e) ∙ rest_some_more (take i alts) a w

-- a list of parts that begins with a byte, one part further
begin_bits : (m w s : Bool) (a : Bool) → ((m && s) || ((m && w) && a)) ≡ (m && ((w && a) || s))
begin_bits m w s a = grind arith

pub begin_rest : (ps : List Part) (i : ℕ) (p : Part) (cs : List Cell) (c : Cell) (m enters : Bool) (byte : ℕ)
    → i < length ps → p ≡ get_or ps i p
    → ((w : List ℕ) → rest_all cs w ≡ (m && matches (take i ps) (byte ∷ w)))
    → enters ≡ (m && matches (take i ps) [])
    → ((w : List ℕ) → whole c w ≡ part_matches p w)
    → ((w : List ℕ) → rest c w ≡ (enters && part_matches p (byte ∷ w)))
    → (w : List ℕ) → rest_all (cs ++ c ∷ []) w ≡ (m && matches (take (i + 1) ps) (byte ∷ w))
begin_rest ps i p cs c m enters byte h e rs en wc rc w =
    rest_more cs c w
    ∙ (λ j. cut_same (rest_all cs) (λ x. m && matches (take i ps) (byte ∷ x)) (whole c) (part_matches p) rs wc w j || (rc w ∙ ap (λ b. b && part_matches p (byte ∷ w)) en) j)
    ∙ ap (λ b. b || ((m && matches (take i ps) []) && part_matches p (byte ∷ w))) (cut_and m (λ x. matches (take i ps) (byte ∷ x)) (part_matches p) w)
    ∙ begin_bits m (matches (take i ps) []) (some_cut (λ x. matches (take i ps) (byte ∷ x)) (part_matches p) w) (part_matches p (byte ∷ w))
    ∙ ap (λ b. m && b) (sym (matches_next ps i p h e (byte ∷ w)))

pub begin_whole : (ps : List Part) (i : ℕ) (p : Part) (cs : List Cell) (c : Cell)
    → i < length ps → p ≡ get_or ps i p
    → ((w : List ℕ) → whole_all cs w ≡ matches (take i ps) w)
    → ((w : List ℕ) → whole c w ≡ part_matches p w)
    → (w : List ℕ) → whole_all (cs ++ c ∷ []) w ≡ matches (take (i + 1) ps) w
begin_whole ps i p cs c h e ws wc w =
    whole_more cs c w
    ∙ cut_same (whole_all cs) (matches (take i ps)) (whole c) (part_matches p) ws wc w
    ∙ sym (matches_next ps i p h e w)

-- alternatives that begin with a byte, one alternative further
or_bits : (m a b : Bool) → ((m && a) || (m && b)) ≡ (m && (a || b))
or_bits m a b = grind arith

pub begin_some_rest : (alts : List (List Part)) (i : ℕ) (a : List Part) (cs : List (Vec Cell)) (v : Vec Cell) (m : Bool) (byte : ℕ)
    → i < length alts → a ≡ get_or alts i a
    → ((w : List ℕ) → rest_some cs w ≡ (m && one_matches (take i alts) (byte ∷ w)))
    → ((w : List ℕ) → rest_all v.items w ≡ (m && matches a (byte ∷ w)))
    → (w : List ℕ) → rest_some (cs ++ v ∷ []) w ≡ (m && one_matches (take (i + 1) alts) (byte ∷ w))
begin_some_rest alts i a cs v m byte h e rs rv w =
    rest_some_more cs v w
    ∙ (λ j. rs w j || rv w j)
    ∙ or_bits m (one_matches (take i alts) (byte ∷ w)) (matches a (byte ∷ w))
    ∙ ap (λ b. m && b) (sym (one_next alts i a h e (byte ∷ w)))

pub begin_some_whole : (alts : List (List Part)) (i : ℕ) (a : List Part) (cs : List (Vec Cell)) (v : Vec Cell)
    → i < length alts → a ≡ get_or alts i a
    → ((w : List ℕ) → whole_some cs w ≡ one_matches (take i alts) w)
    → ((w : List ℕ) → whole_all v.items w ≡ matches a w)
    → (w : List ℕ) → whole_some (cs ++ v ∷ []) w ≡ one_matches (take (i + 1) alts) w
begin_some_whole alts i a cs v h e ws wv w =
    whole_some_more cs v w ∙ (λ j. ws w j || wv w j) ∙ sym (one_next alts i a h e w)

-- a group that begins with a byte
number_bits : (m : Bool) (p r : Texts) (c : ℕ) → ((w : List ℕ) → r w ≡ (m && p (c ∷ w))) → (w : List ℕ) → some_cut r (any_number p) w ≡ (m && any_number p (c ∷ w))
number_bits m p r c h w =
    cut_same r (λ x. m && p (c ∷ x)) (any_number p) (any_number p) h (λ x. refl) w
    ∙ cut_and m (λ x. p (c ∷ x)) (any_number p) w
    ∙ ap (λ b. m && b) (sym (number_of_one p c w))

once_more : (m x y : Bool) → (m && y) ≡ (m && ((x && y) || y))
once_more m x y = grind arith

pub begin_repeated : (k : Kind) (p r : Texts) (m : Bool) (c : ℕ) → ((w : List ℕ) → r w ≡ (m && p (c ∷ w))) → (w : List ℕ) → rest_repeated k p r w ≡ (m && looped k p (c ∷ w))
begin_repeated kind.Optional p r m c h w = h w
begin_repeated kind.Any p r m c h w = number_bits m p r c h w
begin_repeated kind.Many p r m c h w =
    number_bits m p r c h w
    ∙ once_more m (p []) (any_number p (c ∷ w))
    ∙ ap (λ b. m && ((p [] && any_number p (c ∷ w)) || b)) (number_of_one p c w)
begin_repeated kind.One p r m c h w = h w
begin_repeated kind.Not p r m c h w = h w

pub looped_is : (k : Kind) (p : Texts) → is_not k ≡ false → (w : List ℕ) → looped k p w ≡ repeated k p w
looped_is kind.Optional p h w = refl
looped_is kind.Any p h w = refl
looped_is kind.Many p h w = refl
looped_is kind.One p h w = refl
looped_is kind.Not p h w = absurd (true_not_false h)
  where
    true_not_false : true ≡ false → ⊥
    true_not_false e = cc

not_is : (k : Kind) (p : Texts) → is_not k ≡ true → (w : List ℕ) → repeated k p w ≡ not (p w)
not_is kind.Optional p h w = cc
not_is kind.Any p h w = cc
not_is kind.Many p h w = cc
not_is kind.One p h w = cc
not_is kind.Not p h w = refl

same_looped : (k : Kind) (p q : Texts) → ((w : List ℕ) → p w ≡ q w) → (w : List ℕ) → looped k p w ≡ looped k q w
same_looped k p q h w = ap (λ f. looped k f w) (λ i x. h x i)

-- the cell of a group other than `!`, and of a `!` group
pub group_begins_whole : (k : Kind) (alts alts' : List (List Part)) (cs : Vec (Vec Cell)) → is_not k ≡ false → alts' ≡ alts
    → ((w : List ℕ) → whole_some cs.items w ≡ one_matches alts' w)
    → (w : List ℕ) → whole (cell.Group k cs) w ≡ repeated k (one_matches alts) w
group_begins_whole k alts alts' cs n e h w =
    cell_whole k cs w ∙ same_looped k (whole_some cs.items) (one_matches alts') h w ∙ looped_is k (one_matches alts') n w ∙ ap (λ a. repeated k (one_matches a) w) e

pub group_begins_rest : (k : Kind) (alts alts' : List (List Part)) (cs : Vec (Vec Cell)) (m : Bool) (byte : ℕ) → is_not k ≡ false → alts' ≡ alts
    → ((w : List ℕ) → whole_some cs.items w ≡ one_matches alts' w)
    → ((w : List ℕ) → rest_some cs.items w ≡ (m && one_matches alts' (byte ∷ w)))
    → (w : List ℕ) → rest (cell.Group k cs) w ≡ (m && repeated k (one_matches alts) (byte ∷ w))
group_begins_rest k alts alts' cs m byte n e h r w =
    cell_rest k cs w
    ∙ ap (λ (f : Texts). rest_repeated k f (rest_some cs.items) w) (λ i x. h x i)
    ∙ begin_repeated k (one_matches alts') (rest_some cs.items) m byte r w
    ∙ ap (λ b. m && b) (looped_is k (one_matches alts') n (byte ∷ w) ∙ ap (λ a. repeated k (one_matches a) (byte ∷ w)) e)

pub not_begins_whole : (k : Kind) (alts alts' : List (List Part)) (cs : Vec (Vec (Vec Cell))) → is_not k ≡ true → alts' ≡ alts
    → (w : List ℕ) → whole (cell.Not alts' cs) w ≡ repeated k (one_matches alts) w
not_begins_whole k alts alts' cs n e w = not_whole alts' cs w ∙ ap (λ a. not (one_matches a w)) e ∙ sym (not_is k (one_matches alts) n w)

pub not_begins_rest : (k : Kind) (alts alts' : List (List Part)) (cs : Vec (Vec (Vec Cell))) (m : Bool) (byte : ℕ) → is_not k ≡ true → alts' ≡ alts
    → ((w : List ℕ) → rest_copies cs.items w ≡ (m && not (one_matches alts' (byte ∷ w))))
    → (w : List ℕ) → rest (cell.Not alts' cs) w ≡ (m && repeated k (one_matches alts) (byte ∷ w))
not_begins_rest k alts alts' cs m byte n e r w =
    not_rest alts' cs w ∙ r w ∙ ap (λ b. m && b) (ap (λ a. not (one_matches a (byte ∷ w))) e ∙ sym (not_is k (one_matches alts) n (byte ∷ w)))

enter_bits : (m w a : Bool) → ((m && w) && a) ≡ (m && (w && a))
enter_bits m w a = grind arith

pub passes_on : (ps : List Part) (i : ℕ) (p : Part) (m enters : Bool) → i < length ps → p ≡ get_or ps i p → enters ≡ (m && matches (take i ps) [])
    → (enters && part_matches p []) ≡ (m && matches (take (i + 1) ps) [])
passes_on ps i p m enters h e en =
    ap (λ b. b && part_matches p []) en ∙ enter_bits m (matches (take i ps) []) (part_matches p []) ∙ ap (λ b. m && b) (sym (matches_next ps i p h e []))

-- what is true at a place, of a cell that is known
looped_empty : (k : Kind) (p : Texts) → looped k p [] ≡ may_vanish k (p [])
looped_empty kind.Optional p = refl
looped_empty kind.Any p = refl
looped_empty kind.Many p = and-true (p [])
looped_empty kind.One p = refl
looped_empty kind.Not p = refl

rest_repeated_empty : (k : Kind) (p r : Texts) → rest_repeated k p r [] ≡ r []
rest_repeated_empty kind.Optional p r = refl
rest_repeated_empty kind.Any p r = and-true (r [])
rest_repeated_empty kind.Many p r = and-true (r [])
rest_repeated_empty kind.One p r = refl
rest_repeated_empty kind.Not p r = refl

pub group_rest_here : (d : Cell) (k : Kind) (cs : Vec (Vec Cell)) → d ≡ cell.Group k cs → rest d [] ≡ rest_some cs.items []
group_rest_here d k cs e = ap (λ x. rest x []) e ∙ cell_rest k cs [] ∙ rest_repeated_empty k (whole_some cs.items) (rest_some cs.items)

pub group_whole_here : (d : Cell) (k : Kind) (cs : Vec (Vec Cell)) → d ≡ cell.Group k cs → whole d [] ≡ may_vanish k (whole_some cs.items [])
group_whole_here d k cs e = ap (λ x. whole x []) e ∙ cell_whole k cs [] ∙ looped_empty k (whole_some cs.items)

pub not_rest_is : (d : Cell) (alts : List (List Part)) (cs : Vec (Vec (Vec Cell))) → d ≡ cell.Not alts cs → (w : List ℕ) → rest d w ≡ rest_copies cs.items w
not_rest_is d alts cs e w = ap (λ x. rest x w) e ∙ not_rest alts cs w

-- the item at an index of a list that is as it was from there on
pub ahead_item : {A : Type 0} (cur old : List A) (i : ℕ) (x : A) → drop i cur ≡ drop i old → get_or cur i x ≡ get_or old i x
ahead_item {A = A} cur old i x e =
    ap (λ n. get_or cur n x) plus_zero ∙ sym (get_or-drop i cur 0 x) ∙ ap (λ (xs : List A). get_or xs 0 x) e ∙ get_or-drop i old 0 x ∙ ap (λ n. get_or old n x) (sym plus_zero)
  where
    plus_zero : i ≡ i + 0
    plus_zero = omega arith
