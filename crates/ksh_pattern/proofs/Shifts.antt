-- Cells after a further byte.
use Rattle.std.proofs.Common.{◌≡◌, ℕ, ◌+◌, ◌<◌, Bool, true, false, ◌||◌, ◌&&◌, not, List, [], ◌∷◌, ◌++◌, length, take, drop, set, get_or, refl, ap, sym, ◌∙◌, arith}
use Rattle.std.proofs.Math.Bool.{or-false}
use Rattle.std.proofs.lemmas.List.{get_or_default, take_more_set, drop-set-lt, drop-drop}
use Rattle.std.proofs.lemmas.List.Folds.{list_any-append}
use Rattle.std.specs.Global.{Vec}
use Rattle.ksh_pattern.specs.declared.part.Part.{Part}
use Rattle.ksh_pattern.specs.declared.part.Kind.{Kind}
use Rattle.ksh_pattern.specs.declared.part.Kind.TheVariants as kind
use Rattle.ksh_pattern.specs.declared.cell.Cell.{Cell}
use Rattle.ksh_pattern.specs.declared.cell.Cell.TheVariants as cell
use Rattle.ksh_pattern.specs.Match.{Texts, some_cut, any_number, one_matches, goes_on}
use Rattle.ksh_pattern.specs.Cells.{whole, rest, whole_all, rest_all, whole_some, rest_some, rest_copies, rest_repeated, looped}
use Rattle.ksh_pattern.proofs.Cuts.{cut_or, cut_none, cut_same, number_of_one}
use Rattle.ksh_pattern.proofs.Levels.{cell_whole, cell_rest, not_whole, not_rest}
use Rattle.ksh_pattern.proofs.Walks.{taken, ahead_item, whole_more, rest_more, whole_next, rest_next, whole_some_more, rest_some_more, whole_some_next, rest_some_next}

-- the list behind the index is as it was
pub ahead_next : {A : Type 0} (cur old : List A) (i : ℕ) (n : A) → drop i cur ≡ drop i old → drop (i + 1) (set cur i n) ≡ drop (i + 1) old
ahead_next {A = A} cur old i n e =
    drop-set-lt (i + 1) cur i n (omega arith) ∙ sym (drop-drop 1 i cur) ∙ ap (λ (xs : List A). drop 1 xs) e ∙ drop-drop 1 i old

-- the item at the index was that of the list at first
pub old_item : {A : Type 0} (cur old : List A) (i : ℕ) (o d : A) → drop i cur ≡ drop i old → length cur ≡ length old → i < length cur → o ≡ get_or cur i d → o ≡ get_or old i o
old_item cur old i o d e l lt is = is ∙ ahead_item cur old i d e ∙ get_or_default old i d o (omega arith)

shift_bits : (m r0 w0 a s1 s2 b : Bool) → ((s1 || (m && s2)) || (b || ((r0 || (m && w0)) && a))) ≡ ((((r0 && a) || s1) || b) || (m && ((w0 && a) || s2)))
shift_bits m r0 w0 a s1 s2 b = grind arith

-- a list of parts, one part further
pub same_next : (cur old : List Cell) (i : ℕ) (o n : Cell) → i < length cur → i < length old → o ≡ get_or old i o
    → ((w : List ℕ) → whole_all (take i cur) w ≡ whole_all (take i old) w)
    → ((w : List ℕ) → whole n w ≡ whole o w)
    → (w : List ℕ) → whole_all (take (i + 1) (set cur i n)) w ≡ whole_all (take (i + 1) old) w
same_next cur old i o n lt lt' e same whole' w =
    ap (λ cs. whole_all cs w) (take_more_set cur i n lt)
    ∙ whole_more (take i cur) n w
    ∙ cut_same (whole_all (take i cur)) (whole_all (take i old)) (whole n) (whole o) same whole' w
    ∙ sym (whole_next old i o lt' e w)

pub shifts_next : (cur old : List Cell) (i : ℕ) (o n : Cell) (m enters last empty : Bool) (byte : ℕ) → i < length cur → i < length old → o ≡ get_or old i o
    → ((w : List ℕ) → rest_all (take i cur) w ≡ (rest_all (take i old) (byte ∷ w) || (m && whole_all (take i old) (byte ∷ w))))
    → last ≡ rest_all (take i old) [] → empty ≡ whole_all (take i old) [] → enters ≡ (last || (m && empty))
    → ((w : List ℕ) → whole n w ≡ whole o w)
    → ((w : List ℕ) → rest n w ≡ (rest o (byte ∷ w) || (enters && whole o (byte ∷ w))))
    → (w : List ℕ) → rest_all (take (i + 1) (set cur i n)) w ≡ (rest_all (take (i + 1) old) (byte ∷ w) || (m && whole_all (take (i + 1) old) (byte ∷ w)))
shifts_next cur old i o n m enters last empty byte lt lt' e shifts l em en whole' rest' w =
    ap (λ cs. rest_all cs w) (take_more_set cur i n lt)
    ∙ rest_more (take i cur) n w
    ∙ (λ j. cut_same (rest_all (take i cur)) (λ x. rest_all (take i old) (byte ∷ x) || (m && whole_all (take i old) (byte ∷ x))) (whole n) (whole o) shifts whole' w j
    || (rest' w ∙ ap (λ b. rest o (byte ∷ w) || (b && whole o (byte ∷ w))) (en ∙ (λ k. l k || (m && em k)))) j)
    ∙ ap (λ b. b || (rest o (byte ∷ w) || ((rest_all (take i old) [] || (m && whole_all (take i old) [])) && whole o (byte ∷ w))))
    (cut_or m (λ x. rest_all (take i old) (byte ∷ x)) (λ x. whole_all (take i old) (byte ∷ x)) (whole o) w)
    ∙ shift_bits m (rest_all (take i old) []) (whole_all (take i old) []) (whole o (byte ∷ w)) (some_cut (λ x. rest_all (take i old) (byte ∷ x)) (whole o) w) (some_cut (λ x. whole_all (take i old) (byte ∷ x)) (whole o) w) (rest o (byte ∷ w))
    ∙ sym (λ j. rest_next old i o lt' e (byte ∷ w) j || (m && whole_next old i o lt' e (byte ∷ w) j))

both_false : (a b : Bool) → (a || b) ≡ false → (a ≡ false) × (b ≡ false)
both_false false false h = (refl, refl)
both_false false true h = (refl, h)
both_false true b h = (h, absurd (no h))
  where
    no : true ≡ false → ⊥
    no e = cc

pub dead_next : (cur : List Cell) (i : ℕ) (n : Cell) (live l s : Bool) → i < length cur
    → (l ≡ false → (w : List ℕ) → rest_all (take i cur) w ≡ false)
    → (s ≡ false → (w : List ℕ) → rest n w ≡ false)
    → live ≡ (l || s) → live ≡ false → (w : List ℕ) → rest_all (take (i + 1) (set cur i n)) w ≡ false
dead_next cur i n live l s lt dead dead' is off w =
    let b : (l ≡ false) × (s ≡ false) = both_false l s (sym is ∙ off) in
    ap (λ cs. rest_all cs w) (take_more_set cur i n lt)
    ∙ rest_more (take i cur) n w
    ∙ (λ j. cut_same (rest_all (take i cur)) (λ x. false) (whole n) (whole n) (dead b.0) (λ x. refl) w j || dead' b.1 w j)
    ∙ or-false (some_cut (λ x. false) (whole n) w)
    ∙ cut_none (whole n) w

-- alternatives, one alternative further
pub same_some_next : (cur old : List (Vec Cell)) (i : ℕ) (o n : Vec Cell) → i < length cur → i < length old → o ≡ get_or old i o
    → ((w : List ℕ) → whole_some (take i cur) w ≡ whole_some (take i old) w)
    → ((w : List ℕ) → whole_all n.items w ≡ whole_all o.items w)
    → (w : List ℕ) → whole_some (take (i + 1) (set cur i n)) w ≡ whole_some (take (i + 1) old) w
same_some_next cur old i o n lt lt' e same whole' w =
    ap (λ cs. whole_some cs w) (take_more_set cur i n lt)
    ∙ whole_some_more (take i cur) n w
    ∙ (λ j. same w j || whole' w j)
    ∙ sym (whole_some_next old i o lt' e w)

some_bits : (m r w b a : Bool) → ((r || (m && w)) || (b || (m && a))) ≡ ((r || b) || (m && (w || a)))
some_bits m r w b a = grind arith

pub shifts_some_next : (cur old : List (Vec Cell)) (i : ℕ) (o n : Vec Cell) (m : Bool) (byte : ℕ) → i < length cur → i < length old → o ≡ get_or old i o
    → ((w : List ℕ) → rest_some (take i cur) w ≡ (rest_some (take i old) (byte ∷ w) || (m && whole_some (take i old) (byte ∷ w))))
    → ((w : List ℕ) → rest_all n.items w ≡ (rest_all o.items (byte ∷ w) || (m && whole_all o.items (byte ∷ w))))
    → (w : List ℕ) → rest_some (take (i + 1) (set cur i n)) w ≡ (rest_some (take (i + 1) old) (byte ∷ w) || (m && whole_some (take (i + 1) old) (byte ∷ w)))
shifts_some_next cur old i o n m byte lt lt' e shifts rest' w =
    ap (λ cs. rest_some cs w) (take_more_set cur i n lt)
    ∙ rest_some_more (take i cur) n w
    ∙ (λ j. shifts w j || rest' w j)
    ∙ some_bits m (rest_some (take i old) (byte ∷ w)) (whole_some (take i old) (byte ∷ w)) (rest_all o.items (byte ∷ w)) (whole_all o.items (byte ∷ w))
    ∙ sym (λ j. rest_some_next old i o lt' e (byte ∷ w) j || (m && whole_some_next old i o lt' e (byte ∷ w) j))

pub dead_some_next : (cur : List (Vec Cell)) (i : ℕ) (n : Vec Cell) (live l s : Bool) → i < length cur
    → (l ≡ false → (w : List ℕ) → rest_some (take i cur) w ≡ false)
    → (s ≡ false → (w : List ℕ) → rest_all n.items w ≡ false)
    → live ≡ (l || s) → live ≡ false → (w : List ℕ) → rest_some (take (i + 1) (set cur i n)) w ≡ false
dead_some_next cur i n live l s lt dead dead' is off w =
    let b : (l ≡ false) × (s ≡ false) = both_false l s (sym is ∙ off) in
    ap (λ cs. rest_some cs w) (take_more_set cur i n lt)
    ∙ rest_some_more (take i cur) n w
    ∙ (λ j. dead b.0 w j || dead' b.1 w j)

-- the copies of a `!` group, one copy further
copies_more : (cs : List (Vec (Vec Cell))) (c : Vec (Vec Cell)) (w : List ℕ) → rest_copies (cs ++ c ∷ []) w ≡ (rest_copies cs w || not (rest_some c.items w))
copies_more cs c w =
    list_any-append (λ (copy : Vec (Vec Cell)). not (rest_some copy.items w)) cs (c ∷ [])
    ∙ ap (λ b. rest_copies cs w || b) (or-false (not (rest_some c.items w)))

copies_next : (cs : List (Vec (Vec Cell))) (i : ℕ) (c : Vec (Vec Cell)) → i < length cs → c ≡ get_or cs i c → (w : List ℕ) → rest_copies (take (i + 1) cs) w ≡ (rest_copies (take i cs) w || not (rest_some c.items w))
copies_next cs i c lt e w = ap (λ ds. rest_copies ds w) (taken cs i c lt e) ∙ copies_more (take i cs) c w

pub copies_last_next : (old : List (Vec (Vec Cell))) (i : ℕ) (o : Vec (Vec Cell)) (now last here : Bool) → i < length old → o ≡ get_or old i o
    → now ≡ (last || not here) → last ≡ rest_copies (take i old) [] → here ≡ rest_some o.items []
    → now ≡ rest_copies (take (i + 1) old) []
copies_last_next old i o now last here lt e is l h = is ∙ (λ j. l j || not (h j)) ∙ sym (copies_next old i o lt e [])

no_entry : (r w : Bool) → (r || (false && w)) ≡ r
no_entry r w = or-false r

pub copies_shifts_next : (cur old : List (Vec (Vec Cell))) (i : ℕ) (o n : Vec (Vec Cell)) (byte : ℕ) → i < length cur → i < length old → o ≡ get_or old i o
    → ((w : List ℕ) → rest_copies (take i cur) w ≡ rest_copies (take i old) (byte ∷ w))
    → ((w : List ℕ) → rest_some n.items w ≡ (rest_some o.items (byte ∷ w) || (false && whole_some o.items (byte ∷ w))))
    → (w : List ℕ) → rest_copies (take (i + 1) (set cur i n)) w ≡ rest_copies (take (i + 1) old) (byte ∷ w)
copies_shifts_next cur old i o n byte lt lt' e shifts rest' w =
    ap (λ cs. rest_copies cs w) (take_more_set cur i n lt)
    ∙ copies_more (take i cur) n w
    ∙ (λ j. shifts w j || not ((rest' w ∙ or-false (rest_some o.items (byte ∷ w))) j))
    ∙ sym (copies_next old i o lt' e (byte ∷ w))

pub copies_enter : (cs : List (Vec (Vec Cell))) (c : Vec (Vec Cell)) (alts : List (List Part)) (byte : ℕ) (r : Texts)
    → ((w : List ℕ) → rest_copies cs w ≡ r w)
    → ((w : List ℕ) → rest_some c.items w ≡ (true && one_matches alts (byte ∷ w)))
    → (w : List ℕ) → rest_copies (cs ++ c ∷ []) w ≡ (r w || (true && not (one_matches alts (byte ∷ w))))
copies_enter cs c alts byte r h k w = copies_more cs c w ∙ (λ j. h w j || not (k w j))

-- a repeated group, by what its alternatives do
number_shifts : (m : Bool) (p r r' : Texts) (c : ℕ)
    → ((w : List ℕ) → r' w ≡ (r (c ∷ w) || ((m || r []) && p (c ∷ w))))
    → (w : List ℕ) → some_cut r' (any_number p) w ≡ (some_cut r (any_number p) (c ∷ w) || (m && any_number p (c ∷ w)))
number_shifts m p r r' c h w =
    cut_same r' (λ x. r (c ∷ x) || ((m || r []) && p (c ∷ x))) (any_number p) (any_number p) h (λ x. refl) w
    ∙ cut_or (m || r []) (λ x. r (c ∷ x)) (λ x. p (c ∷ x)) (any_number p) w
    ∙ ap (λ b. some_cut (λ x. r (c ∷ x)) (any_number p) w || ((m || r []) && b)) (sym (number_of_one p c w))
    ∙ number_bits m (r []) (any_number p (c ∷ w)) (some_cut (λ x. r (c ∷ x)) (any_number p) w)
  where
    number_bits : (m r0 n s : Bool) → (s || ((m || r0) && n)) ≡ (((r0 && n) || s) || (m && n))
    number_bits m r0 n s = grind arith

many_bits : (m x s y : Bool) → (s || (m && y)) ≡ (s || (m && ((x && y) || y)))
many_bits m x s y = grind arith

once : (m r q p : Bool) → (r || ((m || (false && q)) && p)) ≡ (r || (m && p))
once m r q p = grind arith

pub repeated_shifts : (k : Kind) (p r r' : Texts) (m : Bool) (c : ℕ)
    → ((w : List ℕ) → r' w ≡ (r (c ∷ w) || ((m || (goes_on k && r [])) && p (c ∷ w))))
    → (w : List ℕ) → rest_repeated k p r' w ≡ (rest_repeated k p r (c ∷ w) || (m && looped k p (c ∷ w)))
repeated_shifts kind.Optional p r r' m c h w = h w ∙ once m (r (c ∷ w)) (r []) (p (c ∷ w))
repeated_shifts kind.Any p r r' m c h w = number_shifts m p r r' c h w
repeated_shifts kind.Many p r r' m c h w =
    number_shifts m p r r' c h w
    ∙ many_bits m (p []) (some_cut r (any_number p) (c ∷ w)) (any_number p (c ∷ w))
    ∙ ap (λ b. some_cut r (any_number p) (c ∷ w) || (m && ((p [] && any_number p (c ∷ w)) || b))) (number_of_one p c w)
repeated_shifts kind.One p r r' m c h w = h w ∙ once m (r (c ∷ w)) (r []) (p (c ∷ w))
repeated_shifts kind.Not p r r' m c h w = h w ∙ once m (r (c ∷ w)) (r []) (p (c ∷ w))

pub repeated_dead : (k : Kind) (p r : Texts) → ((w : List ℕ) → r w ≡ false) → (w : List ℕ) → rest_repeated k p r w ≡ false
repeated_dead kind.Optional p r h w = h w
repeated_dead kind.Any p r h w = cut_same r (λ x. false) (any_number p) (any_number p) h (λ x. refl) w ∙ cut_none (any_number p) w
repeated_dead kind.Many p r h w = cut_same r (λ x. false) (any_number p) (any_number p) h (λ x. refl) w ∙ cut_none (any_number p) w
repeated_dead kind.One p r h w = h w
repeated_dead kind.Not p r h w = h w

-- the alternatives' own sets stay, so the group may be read with the new ones or the old
pub group_shifts : (k : Kind) (new old : Vec (Vec Cell)) (m enters : Bool) (c : ℕ)
    → ((w : List ℕ) → whole_some new.items w ≡ whole_some old.items w)
    → ((w : List ℕ) → rest_some new.items w ≡ (rest_some old.items (c ∷ w) || (enters && whole_some old.items (c ∷ w))))
    → enters ≡ (m || (goes_on k && rest_some old.items []))
    → (w : List ℕ) → rest_repeated k (whole_some new.items) (rest_some new.items) w
    ≡ (rest_repeated k (whole_some old.items) (rest_some old.items) (c ∷ w) || (m && looped k (whole_some old.items) (c ∷ w)))
group_shifts k new old m enters c same shifts en w =
    ap (λ (f : Texts). rest_repeated k f (rest_some new.items) w) (λ i x. same x i)
    ∙ repeated_shifts k (whole_some old.items) (rest_some old.items) (rest_some new.items) m c (λ x. shifts x ∙ ap (λ b. rest_some old.items (c ∷ x) || (b && whole_some old.items (c ∷ x))) en) w

-- a cell that is known to be a group, whose parts were read once more
pub cell_shifts : (d : Cell) (k k0 : Kind) (alts alts0 new : Vec (Vec Cell)) (m : Bool) (c : ℕ) → d ≡ cell.Group k alts → k0 ≡ k → alts0 ≡ alts
    → ((w : List ℕ) → rest_repeated k0 (whole_some new.items) (rest_some new.items) w
    ≡ (rest_repeated k0 (whole_some alts0.items) (rest_some alts0.items) (c ∷ w) || (m && looped k0 (whole_some alts0.items) (c ∷ w))))
    → (w : List ℕ) → rest (cell.Group k0 new) w ≡ (rest d (c ∷ w) || (m && whole d (c ∷ w)))
cell_shifts d k k0 alts alts0 new m c e f g h w =
    cell_rest k0 new w
    ∙ h w
    ∙ (λ j. rest_repeated (f j) (whole_some (g j).items) (rest_some (g j).items) (c ∷ w) || (m && looped (f j) (whole_some (g j).items) (c ∷ w)))
    ∙ sym (λ j. (ap (λ x. rest x (c ∷ w)) e ∙ cell_rest k alts (c ∷ w)) j || (m && (ap (λ x. whole x (c ∷ w)) e ∙ cell_whole k alts (c ∷ w)) j))

pub cell_same : (d : Cell) (k k0 : Kind) (alts alts0 new : Vec (Vec Cell)) → d ≡ cell.Group k alts → k0 ≡ k → alts0 ≡ alts
    → ((w : List ℕ) → looped k0 (whole_some new.items) w ≡ looped k0 (whole_some alts0.items) w)
    → (w : List ℕ) → whole (cell.Group k0 new) w ≡ whole d w
cell_same d k k0 alts alts0 new e f g h w =
    cell_whole k0 new w
    ∙ h w
    ∙ (λ j. looped (f j) (whole_some (g j).items) w)
    ∙ sym (ap (λ x. whole x w) e ∙ cell_whole k alts w)

pub cell_dead : (k : Kind) (new : Vec (Vec Cell)) → ((w : List ℕ) → rest_repeated k (whole_some new.items) (rest_some new.items) w ≡ false)
    → (w : List ℕ) → rest (cell.Group k new) w ≡ false
cell_dead k new h w = cell_rest k new w ∙ h w

pub cell_last : (d : Cell) (k k0 : Kind) (alts alts0 : Vec (Vec Cell)) (b : Bool) → d ≡ cell.Group k alts → k0 ≡ k → alts0 ≡ alts
    → b ≡ rest_repeated k0 (whole_some alts0.items) (rest_some alts0.items) [] → b ≡ rest d []
cell_last d k k0 alts alts0 b e f g h =
    h ∙ (λ j. rest_repeated (f j) (whole_some (g j).items) (rest_some (g j).items) []) ∙ sym (ap (λ x. rest x []) e ∙ cell_rest k alts [])

pub cell_empty : (d : Cell) (k k0 : Kind) (alts alts0 : Vec (Vec Cell)) (b : Bool) → d ≡ cell.Group k alts → k0 ≡ k → alts0 ≡ alts
    → b ≡ looped k0 (whole_some alts0.items) [] → b ≡ whole d []
cell_empty d k k0 alts alts0 b e f g h =
    h ∙ (λ j. looped (f j) (whole_some (g j).items) []) ∙ sym (ap (λ x. whole x []) e ∙ cell_whole k alts [])

-- a cell that is known to be a `!` group
pub not_shifts : (d : Cell) (alts alts0 alts1 : List (List Part)) (cs cs0 new : Vec (Vec (Vec Cell))) (m : Bool) (c : ℕ) → d ≡ cell.Not alts cs → alts0 ≡ alts → alts1 ≡ alts → cs0 ≡ cs
    → ((w : List ℕ) → rest_copies new.items w ≡ (rest_copies cs0.items (c ∷ w) || (m && not (one_matches alts1 (c ∷ w)))))
    → (w : List ℕ) → rest (cell.Not alts0 new) w ≡ (rest d (c ∷ w) || (m && whole d (c ∷ w)))
not_shifts d alts alts0 alts1 cs cs0 new m c e f f' g h w =
    not_rest alts0 new w
    ∙ h w
    ∙ (λ j. rest_copies (g j).items (c ∷ w) || (m && not (one_matches (f' j) (c ∷ w))))
    ∙ sym (λ j. (ap (λ x. rest x (c ∷ w)) e ∙ not_rest alts cs (c ∷ w)) j || (m && (ap (λ x. whole x (c ∷ w)) e ∙ not_whole alts cs (c ∷ w)) j))

pub not_last : (d : Cell) (alts : List (List Part)) (cs cs0 : Vec (Vec (Vec Cell))) (b : Bool) → d ≡ cell.Not alts cs → cs0 ≡ cs → b ≡ rest_copies cs0.items [] → b ≡ rest d []
not_last d alts cs cs0 b e g h = h ∙ ap (λ (v : Vec (Vec (Vec Cell))). rest_copies v.items []) g ∙ sym (ap (λ x. rest x []) e ∙ not_rest alts cs [])

pub not_dead : (alts : List (List Part)) (new : Vec (Vec (Vec Cell))) → ((w : List ℕ) → rest_copies new.items w ≡ false) → (w : List ℕ) → rest (cell.Not alts new) w ≡ false
not_dead alts new h w = not_rest alts new w ∙ h w
