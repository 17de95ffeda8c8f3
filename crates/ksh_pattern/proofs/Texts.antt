-- Parts at the ends of a pattern, and bytes at the ends of a text.
use Rattle.std.proofs.Common.{◌≡◌, ℕ, zero, suc, ◌+◌, ◌-◌, ◌<◌, ◌≤◌, Bool, true, false, ◌||◌, ◌&&◌, not, List, [], ◌∷◌, ◌++◌, length, map, take, drop, get_or, refl, ap, sym, ◌∙◌, arith, Option, Some, None, if◌then◌else◌, ◌⊎◌, inl, inr, subst, take-add, append_assoc, length-drop}
use Rattle.std.proofs.Math.Bool.{and-true, or-false, and-false}
use Rattle.std.proofs.lemmas.List.{drop_more, take_more, take-append-drop, append-nil, drop-drop}
use Rattle.ksh_pattern.specs.ByteTests.{accepts}
use Rattle.ksh_pattern.specs.declared.byte_test.ByteTest.{ByteTest}
use Rattle.ksh_pattern.specs.declared.part.Part.{Part}
use Rattle.ksh_pattern.specs.declared.part.Part.TheVariants as part
use Rattle.ksh_pattern.specs.Match.{Texts, is_empty_text, one_byte, some_cut, part_matches, matches}
use Rattle.ksh_pattern.specs.Ends.{IsGreatest, IsLeast, IsFirstIn, IsFirstMatch, NoMatch, front_matches, tail_matches, between}
use Rattle.ksh_pattern.proofs.Cuts.{cut_and, cut_from_start, cut_to_end}
use Rattle.ksh_pattern.proofs.Walks.{matches_more}
use Rattle.ksh_pattern.proofs.Levels.{byte_matches, any_matches}

-- a part of one byte at the front
pub one_first : (t : ByteTest) (ps : List Part) (c : ℕ) (w : List ℕ) → matches (part.One t ∷ ps) (c ∷ w) ≡ (accepts t c && matches ps w)
one_first t ps c w = ap (λ p. some_cut p (matches ps) (c ∷ w)) (byte_matches t) ∙ cut_and (accepts t c) is_empty_text (matches ps) w ∙ ap (λ b. accepts t c && b) (cut_from_start (matches ps) w)

pub one_first_empty : (t : ByteTest) (ps : List Part) → matches (part.One t ∷ ps) [] ≡ false
one_first_empty t ps = ap (λ p. some_cut p (matches ps) []) (byte_matches t)

-- a part of one byte at the end
no_text : (w : List ℕ) (c : ℕ) → is_empty_text (w ++ c ∷ []) ≡ false
no_text [] c = refl
no_text (d ∷ w) c = refl

last_bits : (p a q s : Bool) → ((p && (a && true)) || (q && false)) ≡ (p && a)
last_bits p a q s = grind arith

skip_bits : (p a e s : Bool) → e ≡ false → ((p && (a && e)) || s) ≡ s
skip_bits p a e s h = grind arith

cut_last : (p : Texts) (t : ByteTest) (w : List ℕ) (c : ℕ) → some_cut p (one_byte t) (w ++ c ∷ []) ≡ (p w && accepts t c)
cut_last p t [] c = last_bits (p []) (accepts t c) (p (c ∷ [])) false
cut_last p t (d ∷ w) c =
    skip_bits (p []) (accepts t d) (is_empty_text (w ++ c ∷ [])) (some_cut (λ x. p (d ∷ x)) (one_byte t) (w ++ c ∷ [])) (no_text w c)
    ∙ cut_last (λ x. p (d ∷ x)) t w c

pub one_last : (t : ByteTest) (ps : List Part) (c : ℕ) (w : List ℕ) → matches (ps ++ part.One t ∷ []) (w ++ c ∷ []) ≡ (matches ps w && accepts t c)
one_last t ps c w = matches_more ps (part.One t) (w ++ c ∷ []) ∙ ap (λ p. some_cut (matches ps) p (w ++ c ∷ [])) (byte_matches t) ∙ cut_last (matches ps) t w c

pub one_last_empty : (t : ByteTest) (ps : List Part) → matches (ps ++ part.One t ∷ []) [] ≡ false
one_last_empty t ps = matches_more ps (part.One t) [] ∙ ap (λ p. some_cut (matches ps) p []) (byte_matches t) ∙ and-false (matches ps [])

-- the same at a place of the pattern and of the text
pub front_step : (ps : List Part) (w : List ℕ) (i : ℕ) (p : Part) (t : ByteTest) (d : ℕ) → i < length ps → i < length w → p ≡ get_or ps i p → p ≡ part.One t
    → matches (drop i ps) (drop i w) ≡ (accepts t (get_or w i d) && matches (drop (i + 1) ps) (drop (i + 1) w))
front_step ps w i p t d h k e f =
    (λ j. matches ((drop_more ps i p h ∙ ap (λ q. q ∷ drop (i + 1) ps) (sym e ∙ f)) j) (drop_more w i d k j))
    ∙ one_first t (drop (i + 1) ps) (get_or w i d) (drop (i + 1) w)

none_left : (w : List ℕ) (i : ℕ) → length w ≤ i → drop i w ≡ []
none_left [] zero h = refl
none_left [] (suc i) h = refl
none_left (c ∷ w) zero h = absurd (omega arith)
none_left (c ∷ w) (suc i) h = none_left w i (omega arith)

pub front_stop : (ps : List Part) (w : List ℕ) (i : ℕ) (p : Part) (t : ByteTest) → i < length ps → length w ≤ i → p ≡ get_or ps i p → p ≡ part.One t
    → matches (drop i ps) (drop i w) ≡ false
front_stop ps w i p t h k e f =
    (λ j. matches ((drop_more ps i p h ∙ ap (λ q. q ∷ drop (i + 1) ps) (sym e ∙ f)) j) (none_left w i k j))
    ∙ one_first_empty t (drop (i + 1) ps)

pub back_step : (ps : List Part) (w : List ℕ) (i n i' n' : ℕ) (p : Part) (t : ByteTest) (d : ℕ) → i ≡ i' + 1 → n ≡ n' + 1 → i ≤ length ps → n ≤ length w → p ≡ get_or ps i' p → p ≡ part.One t
    → matches (take i ps) (take n w) ≡ (matches (take i' ps) (take n' w) && accepts t (get_or w n' d))
back_step ps w i n i' n' p t d a b h k e f =
    let l : i' < length ps = omega arith in
    let m : n' < length w = omega arith in
    (λ j. matches ((ap (λ x. take x ps) a ∙ take_more ps i' p l ∙ ap (λ q. take i' ps ++ q ∷ []) (sym e ∙ f)) j) ((ap (λ x. take x w) b ∙ take_more w n' d m) j))
    ∙ one_last t (take i' ps) (get_or w n' d) (take n' w)

pub back_stop : (ps : List Part) (w : List ℕ) (i n i' : ℕ) (p : Part) (t : ByteTest) → i ≡ i' + 1 → n ≡ 0 → i ≤ length ps → p ≡ get_or ps i' p → p ≡ part.One t
    → matches (take i ps) (take n w) ≡ false
back_stop ps w i n i' p t a b h e f =
    let l : i' < length ps = omega arith in
    (λ j. matches ((ap (λ x. take x ps) a ∙ take_more ps i' p l ∙ ap (λ q. take i' ps ++ q ∷ []) (sym e ∙ f)) j) (ap (λ x. take x w) b j))
    ∙ one_last_empty t (take i' ps)

pub any_text : (w : List ℕ) → matches (part.AnyText ∷ []) w ≡ true
any_text w = ap (λ p. some_cut p is_empty_text w) any_matches ∙ cut_to_end (λ x. true) w

-- what a refused byte says of the whole
pub refused_first : (whole a b : Bool) → a ≡ whole → a ≡ (b && a) → b ≡ false → whole ≡ false
refused_first whole a b e f g = sym e ∙ f ∙ ap (λ x. x && a) g

pub refused_last : (r s : Bool) → s ≡ false → (r && s) ≡ false
refused_last r s h = ap (λ x. r && x) h ∙ and-false r

pub taken_last : (r s : Bool) → s ≡ true → (r && s) ≡ r
taken_last r s h = ap (λ x. r && x) h ∙ and-true r

-- a first part of one byte bars all fronts
pub barred_by_byte : (ps : List Part) (w : List ℕ) (p : Part) (t : ByteTest) → 0 < length ps → p ≡ get_or ps 0 p → p ≡ part.One t → accepts t (get_or w 0 0) ≡ false → (n : ℕ) → front_matches ps w n ≡ false
barred_by_byte ps w p t h e f g zero = front_stop ps [] 0 p t h (omega arith) e f
barred_by_byte ps [] p t h e f g (suc n) = front_stop ps [] 0 p t h (omega arith) e f
barred_by_byte ps (c ∷ v) p t h e f g (suc n) =
    front_step ps (c ∷ take n v) 0 p t 0 h (omega arith) e f ∙ ap (λ b. b && matches (drop 1 ps) (take n v)) g

pub barred_by_end : (ps : List Part) (w : List ℕ) (p : Part) (t : ByteTest) → 0 < length ps → p ≡ get_or ps 0 p → p ≡ part.One t → w ≡ [] → (n : ℕ) → front_matches ps w n ≡ false
barred_by_end ps w p t h e f g zero = front_stop ps [] 0 p t h (omega arith) e f
barred_by_end ps w p t h e f g (suc n) = ap (λ x. matches ps (take (suc n) x)) g ∙ front_stop ps [] 0 p t h (omega arith) e f

-- a number up to a bound is below it or the bound
apart : (m n : ℕ) → (m ≤ n) ⊎ (n < m)
apart zero n = inl (omega arith)
apart (suc m) zero = inr (omega arith)
apart (suc m) (suc n) = elim (apart m n) [ inl l ↦ inl (omega arith) | inr e ↦ inr (omega arith) ]

split : (m n : ℕ) → m ≤ n + 1 → (m ≤ n) ⊎ (m ≡ n + 1)
split zero n h = inl (omega arith)
split (suc m) zero h = inr (omega arith)
split (suc m) (suc n) h = elim (split m n (omega arith)) [ inl l ↦ inl (omega arith) | inr e ↦ inr (omega arith) ]

-- the greatest and the least number, one number further
pub greatest_more : (f : ℕ → Bool) (n : ℕ) (r : Option ℕ) (b : Bool) → IsGreatest f n r → b ≡ f (n + 1) → IsGreatest f (n + 1) (if b then Some (n + 1) else r)
greatest_more f n r true h e = (omega arith, sym e, λ m l k. absurd (omega arith))
greatest_more f n None false h e = λ m k. elim (split m n k) [ inl l ↦ h m l | inr q ↦ ap f q ∙ sym e ]
greatest_more f n (Some x) false h e = (omega (arith, h.0), h.1, λ m l k. elim (split m n k) [ inl j ↦ h.2 m l j | inr q ↦ ap f q ∙ sym e ])

pub greatest_wider : (f : ℕ → Bool) (n n' : ℕ) (r : Option ℕ) → n ≤ n' → IsGreatest f n r → ((m : ℕ) → n < m → m ≤ n' → f m ≡ false) → IsGreatest f n' r
greatest_wider f n n' None l h k = λ m j. elim (apart m n) [ inl q ↦ h m q | inr q ↦ k m q j ]
greatest_wider f n n' (Some x) l h k = (omega (arith, h.0), h.1, λ m i j. elim (apart m n) [ inl q ↦ h.2 m i q | inr q ↦ k m q j ])

pub least_at_end : (f : ℕ → Bool) (n : ℕ) (b : Bool) → ((m : ℕ) → m ≤ n → f m ≡ false) → b ≡ f (n + 1) → IsLeast f (n + 1) (if b then Some (n + 1) else None)
least_at_end f n true h e = (omega arith, sym e, λ m l. h m (omega arith))
least_at_end f n false h e = λ m k. elim (split m n k) [ inl l ↦ h m l | inr q ↦ ap f q ∙ sym e ]

pub none_more : (f : ℕ → Bool) (n : ℕ) → ((m : ℕ) → m ≤ n → f m ≡ false) → f (n + 1) ≡ false → (m : ℕ) → m ≤ n + 1 → f m ≡ false
none_more f n h e m k = elim (split m n k) [ inl l ↦ h m l | inr q ↦ ap f q ∙ e ]

pub none_wider : (f : ℕ → Bool) (n n' : ℕ) → ((m : ℕ) → m ≤ n → f m ≡ false) → ((m : ℕ) → n < m → m ≤ n' → f m ≡ false) → (m : ℕ) → m ≤ n' → f m ≡ false
none_wider f n n' h k m j = elim (apart m n) [ inl q ↦ h m q | inr q ↦ k m q j ]

-- fronts of a text of which some bytes were walked
pub front_here : (ps : List Part) (w : List ℕ) (n : ℕ) (r : Texts) → ((v : List ℕ) → r v ≡ matches ps (take n w ++ v)) → r [] ≡ front_matches ps w n
front_here ps w n r h = h [] ∙ ap (matches ps) (append-nil (take n w))

pub fronts_dead : (ps : List Part) (w : List ℕ) (n : ℕ) (r : Texts) → ((v : List ℕ) → r v ≡ matches ps (take n w ++ v)) → ((v : List ℕ) → r v ≡ false)
    → (m : ℕ) → n ≤ m → front_matches ps w m ≡ false
fronts_dead ps w n r h dead m l = ap (matches ps) (longer w n m l) ∙ sym (h (take (m - n) (drop n w))) ∙ dead (take (m - n) (drop n w))
  where
    longer : (w : List ℕ) (n m : ℕ) → n ≤ m → take m w ≡ take n w ++ take (m - n) (drop n w)
    longer w n m l = ap (λ k. take k w) sum ∙ take-add n (m - n) w
      where
        sum : m ≡ n + (m - n)
        sum = omega arith

-- one byte further
pub state_more : (ps : List Part) (w : List ℕ) (n byte d : ℕ) (r r' q : Texts) → n < length w → byte ≡ get_or w n d
    → ((x : List ℕ) → r x ≡ matches ps (take n w ++ x))
    → ((x : List ℕ) → r' x ≡ (r (byte ∷ x) || (false && q (byte ∷ x))))
    → (x : List ℕ) → r' x ≡ matches ps (take (n + 1) w ++ x)
state_more ps w n byte d r r' q l e h k x =
    k x ∙ or-false (r (byte ∷ x)) ∙ h (byte ∷ x)
    ∙ ap (matches ps) (sym (append_assoc (take n w) (byte ∷ []) x) ∙ ap (λ t. t ++ x) (sym (take_more w n d l ∙ ap (λ y. take n w ++ y ∷ []) (sym e))))

-- tails, by their starts
pub longest_tail_found : (ps : List Part) (w : List ℕ) (s : ℕ) → s ≤ length w → matches ps (drop s w) ≡ true → ((k : ℕ) → k < s → matches ps (drop k w) ≡ false)
    → IsGreatest (tail_matches ps w) (length w) (Some (length w - s))
longest_tail_found ps w s l e h =
    let same : length w - (length w - s) ≡ s = omega arith in
    (omega arith, ap (λ n. matches ps (drop n w)) same ∙ e, λ m a b. h (length w - m) (omega arith))

pub longest_tail_none : (ps : List Part) (w : List ℕ) → ((k : ℕ) → k < length w + 1 → matches ps (drop k w) ≡ false) → IsGreatest (tail_matches ps w) (length w) None
longest_tail_none ps w h = λ m b. h (length w - m) (omega arith)

pub shortest_tail_none : (f : ℕ → Bool) (n : ℕ) → ((m : ℕ) → m < n + 1 → f m ≡ false) → IsLeast f n None
shortest_tail_none f n h = λ m b. h m (omega arith)

pub below_next : (f : ℕ → Bool) (n : ℕ) → ((m : ℕ) → m < n → f m ≡ false) → f n ≡ false → (m : ℕ) → m < n + 1 → f m ≡ false
below_next f n h e m l = elim (apart n m) [ inl q ↦ ap f (let same : m ≡ n = omega arith in same) ∙ e | inr q ↦ h m q ]

-- matches, by their starts
pub no_match_more : (ps : List Part) (w : List ℕ) (from start : ℕ) → NoMatch ps w from start → ((m : ℕ) → m ≤ length (drop start w) → front_matches ps (drop start w) m ≡ false)
    → NoMatch ps w from (start + 1)
no_match_more ps w from start h k s e a b c d =
    elim (apart start s) [
      | inl q ↦
          let same : s ≡ start = omega arith in
          let len : length (drop start w) ≡ length w - start = length-drop start w in
          ap (λ n. matches ps (take (e - n) (drop n w))) same ∙ k (e - start) (omega arith)
      | inr q ↦ h s e a q c d
    ]

pub first_found : (ps : List Part) (w : List ℕ) (from start count : ℕ) → from ≤ start → start ≤ length w → NoMatch ps w from start
    → IsGreatest (front_matches ps (drop start w)) (length (drop start w)) (Some count)
    → IsFirstMatch ps w from start (start + count)
first_found ps w from start count a b h k =
    let len : length (drop start w) ≡ length w - start = length-drop start w in
    let c : count ≤ length (drop start w) = k.0 in
    let same : start + count - start ≡ count = omega arith in
    record {
      after = a;
      ordered = omega arith;
      within = omega arith;
      matched = ap (λ n. matches ps (take n (drop start w))) same ∙ k.1;
      longest = λ longer l m. k.2 (longer - start) (omega arith) (omega arith);
      first = h;
    }

pub first_none : (ps : List Part) (w : List ℕ) (from : ℕ) → NoMatch ps w from (length w + 1) → IsFirstIn ps w from None
first_none ps w from h = λ s e a b c. h s e a (omega arith) b c

pub off : (b : Bool) → not b ≡ true → b ≡ false
off false h = refl
off true h = sym h

-- the text's byte is the next one of the rest
pub rest_item : (w r : List ℕ) (f i d : ℕ) → w ≡ f ∷ r → get_or r i d ≡ get_or w (i + 1) d
rest_item w r f i d e = ap (λ n. get_or (f ∷ r) n d) next ∙ ap (λ x. get_or x (i + 1) d) (sym e)
  where
    next : suc i ≡ i + 1
    next = omega arith

-- the walk over the rest of a text, one byte further
pub walk_more : (ps : List Part) (w r : List ℕ) (f i : ℕ) (old new : Texts) → w ≡ f ∷ r → i < length r
    → ((x : List ℕ) → old x ≡ matches ps (take (i + 1) w ++ x))
    → ((x : List ℕ) → new x ≡ (old (get_or r i 0 ∷ x) || false))
    → (x : List ℕ) → new x ≡ matches ps (take ((i + 1) + 1) w ++ x)
walk_more ps w r f i old new e l h k =
    let len : length w ≡ length r + 1 = ap length e ∙ (let next : suc (length r) ≡ length r + 1 = omega arith in next) in
    state_more ps w (i + 1) (get_or r i 0) 0 old new old (omega arith) (rest_item w r f i 0 e) h k

pub greatest_here : (ps : List Part) (w : List ℕ) (i : ℕ) (r : Option ℕ) (o : Option ℕ) (b : Bool) (old : Texts)
    → ((x : List ℕ) → old x ≡ matches ps (take (i + 1) w ++ x)) → IsGreatest (front_matches ps w) i r → b ≡ old [] → o ≡ (if b then Some (i + 1) else r)
    → IsGreatest (front_matches ps w) (i + 1) o
greatest_here ps w i r o b old h k e d =
    subst (λ (x : Option ℕ). IsGreatest (front_matches ps w) (i + 1) x) (sym d) (greatest_more (front_matches ps w) i r b k (e ∙ front_here ps w (i + 1) old h))

pub greatest_dead : (ps : List Part) (w r : List ℕ) (f i : ℕ) (o : Option ℕ) (new : Texts) (live : Bool) → w ≡ f ∷ r → i < length r
    → IsGreatest (front_matches ps w) (i + 1) o
    → ((x : List ℕ) → new x ≡ matches ps (take ((i + 1) + 1) w ++ x))
    → (live ≡ false → (x : List ℕ) → new x ≡ false) → not live ≡ true
    → IsGreatest (front_matches ps w) (length w) o
greatest_dead ps w r f i o new live e l h k dead was_off =
    let len : length w ≡ length r + 1 = ap length e ∙ (let next : suc (length r) ≡ length r + 1 = omega arith in next) in
    greatest_wider (front_matches ps w) (i + 1) (length w) o (omega arith) h (λ m a b. fronts_dead ps w ((i + 1) + 1) new k (dead (off live was_off)) m (omega arith))

pub greatest_end : (ps : List Part) (w r : List ℕ) (f i : ℕ) (x o : Option ℕ) (b : Bool) (old : Texts) → w ≡ f ∷ r → i ≡ length r
    → ((x : List ℕ) → old x ≡ matches ps (take (i + 1) w ++ x)) → IsGreatest (front_matches ps w) i x → b ≡ old [] → o ≡ (if b then Some (length w) else x)
    → IsGreatest (front_matches ps w) (length w) o
greatest_end ps w r f i x o b old e l h k c d =
    let next : i + 1 ≡ suc (length r) = omega arith in
    let len : i + 1 ≡ length w = next ∙ sym (ap length e) in
    subst (λ n. IsGreatest (front_matches ps w) n o) len (greatest_here ps w i x o b old h k c (d ∙ ap (λ n. if b then Some n else x) (sym len)))

pub least_dead : (ps : List Part) (w r : List ℕ) (f i : ℕ) (old new : Texts) (live last : Bool) → w ≡ f ∷ r → i < length r
    → ((m : ℕ) → m ≤ i → front_matches ps w m ≡ false)
    → ((x : List ℕ) → old x ≡ matches ps (take (i + 1) w ++ x)) → last ≡ old [] → last ≡ false
    → ((x : List ℕ) → new x ≡ matches ps (take ((i + 1) + 1) w ++ x))
    → (live ≡ false → (x : List ℕ) → new x ≡ false) → not live ≡ true
    → IsLeast (front_matches ps w) (length w) None
least_dead ps w r f i old new live last e l h s here no_end k dead was_off =
    let so_far : (m : ℕ) → m ≤ i + 1 → front_matches ps w m ≡ false = none_more (front_matches ps w) i h (sym (front_here ps w (i + 1) old s) ∙ sym here ∙ no_end) in
    none_wider (front_matches ps w) (i + 1) (length w) so_far (λ m a b. fronts_dead ps w ((i + 1) + 1) new k (dead (off live was_off)) m (omega arith))

pub least_here : (ps : List Part) (w : List ℕ) (i : ℕ) (old : Texts) (last : Bool)
    → ((m : ℕ) → m ≤ i → front_matches ps w m ≡ false)
    → ((x : List ℕ) → old x ≡ matches ps (take (i + 1) w ++ x)) → last ≡ old [] → last ≡ false
    → (m : ℕ) → m ≤ i + 1 → front_matches ps w m ≡ false
least_here ps w i old last h s here no_end = none_more (front_matches ps w) i h (sym (front_here ps w (i + 1) old s) ∙ sym here ∙ no_end)

pub least_found : (ps : List Part) (w r : List ℕ) (f i : ℕ) (old : Texts) (last : Bool) → w ≡ f ∷ r → i < length r
    → ((m : ℕ) → m ≤ i → front_matches ps w m ≡ false)
    → ((x : List ℕ) → old x ≡ matches ps (take (i + 1) w ++ x)) → last ≡ old [] → last ≡ true
    → IsLeast (front_matches ps w) (length w) (Some (i + 1))
least_found ps w r f i old last e l h s here found =
    let len : length w ≡ length r + 1 = ap length e ∙ (let next : suc (length r) ≡ length r + 1 = omega arith in next) in
    (omega arith, sym (front_here ps w (i + 1) old s) ∙ sym here ∙ found, λ m a. h m (omega arith))

pub least_end : (ps : List Part) (w r : List ℕ) (f i : ℕ) (o : Option ℕ) (b : Bool) (old : Texts) → w ≡ f ∷ r → i ≡ length r
    → ((x : List ℕ) → old x ≡ matches ps (take (i + 1) w ++ x)) → ((m : ℕ) → m ≤ i → front_matches ps w m ≡ false) → b ≡ old [] → o ≡ (if b then Some (length w) else None)
    → IsLeast (front_matches ps w) (length w) o
least_end ps w r f i o b old e l h k c d =
    let next : i + 1 ≡ suc (length r) = omega arith in
    let len : i + 1 ≡ length w = next ∙ sym (ap length e) in
    subst (λ (x : Option ℕ). IsLeast (front_matches ps w) (length w) x) (sym d) (subst (λ n. IsLeast (front_matches ps w) n (if b then Some n else None)) len (least_at_end (front_matches ps w) i b k (c ∙ front_here ps w (i + 1) old h)))

-- the empty front
pub empty_front : (ps : List Part) (w : List ℕ) (b : Bool) → b ≡ matches ps [] → b ≡ false → (m : ℕ) → m ≤ 0 → front_matches ps w m ≡ false
empty_front ps w b e h m l = ap (λ n. matches ps (take n w)) (let zero_is : m ≡ 0 = omega arith in zero_is) ∙ sym e ∙ h

pub only_any : (ps : List Part) (p : Part) → length ps ≡ 1 → p ≡ get_or ps 0 p → p ≡ part.AnyText → (w : List ℕ) → matches ps w ≡ true
only_any [] p l e f w = absurd (omega (arith, l))
only_any (x ∷ []) p l e f w = ap (λ y. matches (y ∷ []) w) (sym e ∙ f) ∙ any_text w
only_any (x ∷ y ∷ ps) p l e f w = absurd (omega (arith, l))
