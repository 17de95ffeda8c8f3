-- How sets of texts are cut and chained.
use Rattle.std.proofs.Common.{◌≡◌, ℕ, zero, suc, ◌≤◌, Bool, true, false, ◌||◌, ◌&&◌, List, [], ◌∷◌, ◌++◌, length, refl, ap, sym, ◌∙◌, arith}
use Rattle.std.proofs.Math.Bool.{and-true, or-false}
use Rattle.ksh_pattern.specs.Match.{Texts, is_empty_text, some_cut, joined, either, chained, any_number}
use Rattle.ksh_pattern.specs.Cells.{Meaning, wholes, rests}

spread : (m p p' q : Bool) → ((p || (m && p')) && q) ≡ ((p && q) || (m && (p' && q)))
spread m p p' q = grind arith

regroup : (m p p' q s s' : Bool) → (((p || (m && p')) && q) || (s || (m && s'))) ≡ (((p && q) || s) || (m && ((p' && q) || s')))
regroup m p p' q s s' = grind arith

-- either of two sets in front, of which one may be barred
pub cut_or : (m : Bool) (p p' q : Texts) (w : List ℕ) → some_cut (λ x. p x || (m && p' x)) q w ≡ (some_cut p q w || (m && some_cut p' q w))
cut_or m p p' q [] = spread m (p []) (p' []) (q [])
cut_or m p p' q (c ∷ w) =
    ap (λ b. ((p [] || (m && p' [])) && q (c ∷ w)) || b) (cut_or m (λ x. p (c ∷ x)) (λ x. p' (c ∷ x)) q w)
    ∙ regroup m (p []) (p' []) (q (c ∷ w)) (some_cut (λ x. p (c ∷ x)) q w) (some_cut (λ x. p' (c ∷ x)) q w)

pub cut_none : (q : Texts) (w : List ℕ) → some_cut (λ x. false) q w ≡ false
cut_none q [] = refl
cut_none q (c ∷ w) = cut_none q w

barred : (m s t : Bool) → s ≡ false → (s || (m && t)) ≡ (m && t)
barred m s t h = ap (λ b. b || (m && t)) h

pub cut_and : (m : Bool) (p q : Texts) (w : List ℕ) → some_cut (λ x. m && p x) q w ≡ (m && some_cut p q w)
cut_and m p q w = cut_or m (λ x. false) p q w ∙ barred m (some_cut (λ x. false) q w) (some_cut p q w) (cut_none q w)

pub cut_same : (p p' q q' : Texts) → ((x : List ℕ) → p x ≡ p' x) → ((x : List ℕ) → q x ≡ q' x) → (w : List ℕ) → some_cut p q w ≡ some_cut p' q' w
cut_same p p' q q' h k w = λ i. some_cut (λ x. h x i) (λ x. k x i) w

before_end : (p s t : Bool) → s ≡ t → ((p && false) || s) ≡ t
before_end p s t h = grind arith

pub cut_to_end : (p : Texts) (w : List ℕ) → some_cut p is_empty_text w ≡ p w
cut_to_end p [] = and-true (p [])
cut_to_end p (c ∷ w) = before_end (p []) _ _ (cut_to_end (λ x. p (c ∷ x)) w)

pub cut_from_start : (q : Texts) (w : List ℕ) → some_cut is_empty_text q w ≡ q w
cut_from_start q [] = refl
cut_from_start q (c ∷ w) = ap (λ b. q (c ∷ w) || b) (cut_none q w) ∙ or-false (q (c ∷ w))

nested : (p q r s t : Bool) → ((p && (q && r)) || ((p && s) || t)) ≡ ((p && ((q && r) || s)) || t)
nested p q r s t = grind arith

nested_and : (p q r : Bool) → ((p && q) && r) ≡ (p && (q && r))
nested_and p q r = grind arith

pub cut_assoc : (p q r : Texts) (w : List ℕ) → some_cut (some_cut p q) r w ≡ some_cut p (some_cut q r) w
cut_assoc p q r [] = nested_and (p []) (q []) (r [])
cut_assoc p q r (c ∷ w) =
    ap (λ b. ((p [] && q []) && r (c ∷ w)) || b) (front c p q r w ∙ ap (λ b. (p [] && some_cut (λ x. q (c ∷ x)) r w) || b) (cut_assoc (λ x. p (c ∷ x)) q r w))
    ∙ ap (λ b. b || ((p [] && some_cut (λ x. q (c ∷ x)) r w) || some_cut (λ x. p (c ∷ x)) (some_cut q r) w)) (nested_and (p []) (q []) (r (c ∷ w)))
    ∙ nested (p []) (q []) (r (c ∷ w)) (some_cut (λ x. q (c ∷ x)) r w) (some_cut (λ x. p (c ∷ x)) (some_cut q r) w)
  where
    swap : (a b : Bool) → (a || b) ≡ (b || a)
    swap a b = grind arith

    front : (c : ℕ) (p q r : Texts) (w : List ℕ)
        → some_cut (λ x. (p [] && q (c ∷ x)) || some_cut (λ y. p (c ∷ y)) q x) r w ≡ ((p [] && some_cut (λ x. q (c ∷ x)) r w) || some_cut (some_cut (λ y. p (c ∷ y)) q) r w)
    front c p q r w =
        cut_same _ (λ x. some_cut (λ y. p (c ∷ y)) q x || (p [] && q (c ∷ x))) r r (λ x. swap (p [] && q (c ∷ x)) (some_cut (λ y. p (c ∷ y)) q x)) (λ x. refl) w
        ∙ cut_or (p []) (some_cut (λ y. p (c ∷ y)) q) (λ x. q (c ∷ x)) r w
        ∙ swap (some_cut (some_cut (λ y. p (c ∷ y)) q) r w) (p [] && some_cut (λ x. q (c ∷ x)) r w)

-- a list of parts with one more at its end
pub wholes_more : (ms : List Meaning) (m : Meaning) (w : List ℕ) → wholes (ms ++ m ∷ []) w ≡ some_cut (wholes ms) m.0 w
wholes_more [] m w = cut_to_end m.0 w ∙ sym (cut_from_start m.0 w)
wholes_more (n ∷ ms) m w =
    cut_same n.0 n.0 (wholes (ms ++ m ∷ [])) (some_cut (wholes ms) m.0) (λ x. refl) (wholes_more ms m) w
    ∙ sym (cut_assoc n.0 (wholes ms) m.0 w)

or_grouped : (a b c : Bool) → (a || (b || c)) ≡ ((a || b) || c)
or_grouped a b c = grind arith

pub rests_more : (ms : List Meaning) (m : Meaning) (w : List ℕ) → rests (ms ++ m ∷ []) w ≡ (some_cut (rests ms) m.0 w || m.1 w)
rests_more [] m w = or-false _ ∙ cut_to_end m.1 w ∙ sym (ap (λ b. b || m.1 w) (cut_none m.0 w))
rests_more (n ∷ ms) m w =
    (λ i. cut_same n.1 n.1 (wholes (ms ++ m ∷ [])) (some_cut (wholes ms) m.0) (λ x. refl) (wholes_more ms m) w i || rests_more ms m w i)
    ∙ or_grouped (some_cut n.1 (some_cut (wholes ms) m.0) w) (some_cut (rests ms) m.0 w) (m.1 w)
    ∙ ap (λ b. (b || some_cut (rests ms) m.0 w) || m.1 w) (sym (cut_assoc n.1 (wholes ms) m.0 w))
    ∙ ap (λ b. b || m.1 w) (sym (cut_or true (some_cut n.1 (wholes ms)) (rests ms) m.0 w))

pub joined_more : (ps : List Texts) (p : Texts) (w : List ℕ) → joined (ps ++ p ∷ []) w ≡ some_cut (joined ps) p w
joined_more [] p w = cut_to_end p w ∙ sym (cut_from_start p w)
joined_more (q ∷ ps) p w =
    cut_same q q (joined (ps ++ p ∷ [])) (some_cut (joined ps) p) (λ x. refl) (joined_more ps p) w
    ∙ sym (cut_assoc q (joined ps) p w)

pub either_more : (ps : List Texts) (p : Texts) (w : List ℕ) → either (ps ++ p ∷ []) w ≡ (either ps w || p w)
either_more [] p w = or-false (p w)
either_more (q ∷ ps) p w = ap (λ b. q w || b) (either_more ps p w) ∙ or_grouped (q w) (either ps w) (p w)

-- sets that agree on all texts that are no longer
cut_within : (q f g : Texts) (w : List ℕ) → ((v : List ℕ) → length v ≤ length w → f v ≡ g v) → some_cut q f w ≡ some_cut q g w
cut_within q f g [] h = ap (λ b. q [] && b) (h [] (omega arith))
cut_within q f g (c ∷ w) h = λ i. (q [] && h (c ∷ w) (omega arith) i) || cut_within (λ x. q (c ∷ x)) f g w (λ v l. h v (omega arith)) i

chained_enough : (n m : ℕ) (p : Texts) (v : List ℕ) → length v ≤ n → length v ≤ m → chained n p v ≡ chained m p v
chained_enough n m p [] h k = refl
chained_enough zero m p (c ∷ x) h k = absurd (omega arith)
chained_enough (suc n) zero p (c ∷ x) h k = absurd (omega arith)
chained_enough (suc n) (suc m) p (c ∷ x) h k = cut_within (λ y. p (c ∷ y)) (chained n p) (chained m p) x (λ v l. chained_enough n m p v (omega arith) (omega arith))

-- a first text that isn't empty, and then any number
pub number_of_one : (p : Texts) (c : ℕ) (w : List ℕ) → any_number p (c ∷ w) ≡ some_cut (λ x. p (c ∷ x)) (any_number p) w
number_of_one p c w = cut_within (λ x. p (c ∷ x)) (chained (length w) p) (any_number p) w (λ v l. chained_enough (length w) (length v) p v l (omega arith))
