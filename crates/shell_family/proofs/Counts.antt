-- Counts of children, ends and entries, at one child and at the others.
use Rattle.std.proofs.Common.{◌≡◌, ◌≢◌, ℕ, zero, suc, ◌+◌, ◌-◌, ◌<◌, ◌≤◌, ◌⊎◌, inl, inr, Bool, true, false, cond, List, [], ◌∷◌, ◌++◌, length, map, set, get_or, Option, Some, None, refl, ap, sym, ◌∙◌, arith}
use Rattle.std.specs.Prelude.{eqb}
use Rattle.std.proofs.lemmas.Bool.Decides.{eqb_tells}
use Rattle.kernel_ask.specs.Seen.{IsIn}
use Rattle.kernel_ask.specs.declared.ask.Phase.{Phase}
use Rattle.kernel_ask.specs.declared.ask.Phase.TheVariants.{Made, Begun, Unrun, Waited}
use Rattle.shell_family.specs.Told.{at_child, In, is_begun, is_settled, is_waited, is_unrun}
use Rattle.shell_family.specs.Family.{last_from}
use Rattle.shell_family.specs.Fits.{entry_of}

pub same_or_not : (a b : ℕ) → (a ≡ b) ⊎ (a ≢ b)
same_or_not a b = elim (eqb_tells a b) [ inl p ↦ inl p.1 | inr p ↦ inr p.1 ]

pub cond_same : (a b x y : ℕ) → a ≡ b → cond (eqb a b) x y ≡ x
cond_same a b x y e = elim (eqb_tells a b) [ inl p ↦ rw p.0 refl | inr p ↦ absurd (p.1 e) ]

pub cond_other : (a b x y : ℕ) → a ≢ b → cond (eqb a b) x y ≡ y
cond_other a b x y e = elim (eqb_tells a b) [ inl p ↦ absurd (e p.1) | inr p ↦ rw p.0 refl ]

pub at_end_same : (w : Phase → ℕ) (ps : List Phase) (q : Phase) → at_child w (ps ++ q ∷ []) (suc (length ps)) ≡ w q
at_end_same w [] q = refl
at_end_same w (p ∷ ps) q = at_end_same w ps q

pub at_end_other : (w : Phase → ℕ) (ps : List Phase) (q : Phase) (k : ℕ) → k ≢ suc (length ps) → at_child w (ps ++ q ∷ []) k ≡ at_child w ps k
at_end_other w [] q zero n = refl
at_end_other w [] q (suc zero) n = absurd (n refl)
at_end_other w [] q (suc (suc k)) n = refl
at_end_other w (p ∷ ps) q zero n = refl
at_end_other w (p ∷ ps) q (suc zero) n = refl
at_end_other w (p ∷ ps) q (suc (suc k)) n = at_end_other w ps q (suc k) (λ e. n (ap suc e))

pub at_set_same : (w : Phase → ℕ) (ps : List Phase) (i : ℕ) (q : Phase) → i < length ps → at_child w (set ps i q) (suc i) ≡ w q
at_set_same w [] i q h = absurd (omega arith)
at_set_same w (p ∷ ps) zero q h = refl
at_set_same w (p ∷ ps) (suc i) q h = at_set_same w ps i q (omega arith)

pub at_set_other : (w : Phase → ℕ) (ps : List Phase) (i : ℕ) (q : Phase) (k : ℕ) → k ≢ suc i → at_child w (set ps i q) k ≡ at_child w ps k
at_set_other w [] i q k n = refl
at_set_other w (p ∷ ps) zero q zero n = refl
at_set_other w (p ∷ ps) zero q (suc zero) n = absurd (n refl)
at_set_other w (p ∷ ps) zero q (suc (suc k)) n = refl
at_set_other w (p ∷ ps) (suc i) q zero n = refl
at_set_other w (p ∷ ps) (suc i) q (suc zero) n = refl
at_set_other w (p ∷ ps) (suc i) q (suc (suc k)) n = at_set_other w ps i q (suc k) (λ e. n (ap suc e))

pub at_past : (w : Phase → ℕ) (ps : List Phase) (k : ℕ) → length ps < k → at_child w ps k ≡ 0
at_past w [] k h = refl
at_past w (p ∷ ps) zero h = refl
at_past w (p ∷ ps) (suc zero) h = absurd (omega arith)
at_past w (p ∷ ps) (suc (suc k)) h = at_past w ps (suc k) (omega arith)

pub last_is : (x : ℕ) (ys : List ℕ) (k : ℕ) → last_from x (ys ++ k ∷ []) ≡ k
last_is x [] k = refl
last_is x (y ∷ ys) k = last_is y ys k

pub in_more : {X : Type 0} (x : X) (xs ys : List X) → In x xs → In x (xs ++ ys)
in_more x [] ys h = absurd h
in_more x (y ∷ xs) ys h = elim h [ inl e ↦ inl e | inr r ↦ inr (in_more x xs ys r) ]

pub in_end : {X : Type 0} (x : X) (xs : List X) → In x (xs ++ x ∷ [])
in_end x [] = inl refl
in_end x (y ∷ xs) = inr (in_end x xs)

pub in_split : {X : Type 0} (x y : X) (xs : List X) → In x (xs ++ y ∷ []) → In x xs ⊎ (x ≡ y)
in_split x y [] h = elim h [ inl e ↦ inr e | inr r ↦ absurd r ]
in_split x y (z ∷ xs) h =
    elim h [
      | inl e ↦ inl (inl e)
      | inr r ↦ elim (in_split x y xs r) [ inl a ↦ inl (inr a) | inr b ↦ inr b ]
    ]

pub cond_zero : (b : Bool) → ◌≡◌ {A = ℕ} (cond b 0 0) 0
cond_zero true = refl
cond_zero false = refl

pub at_end : (w : Phase → ℕ) (ps : List Phase) (q : Phase) (k j : ℕ) → k ≡ suc (length ps) → at_child w (ps ++ q ∷ []) j ≡ at_child w ps j + cond (eqb j k) (w q) 0
at_end w ps q k j e =
    elim (same_or_not j k) [
      | inl h ↦
          let a : at_child w ps j ≡ 0 = at_past w ps j (omega arith) in
          let b : cond (eqb j k) (w q) 0 ≡ w q = cond_same j k (w q) 0 h in
          let c : at_child w (ps ++ q ∷ []) j ≡ w q = rw (h, e) (at_end_same w ps q) in omega arith
      | inr n ↦
          let b : cond (eqb j k) (w q) 0 ≡ 0 = cond_other j k (w q) 0 n in
          let c : at_child w (ps ++ q ∷ []) j ≡ at_child w ps j = at_end_other w ps q j (λ h. n (h ∙ sym e)) in omega arith
    ]

pub at_get : (w : Phase → ℕ) (ps : List Phase) (i : ℕ) (d : Phase) → i < length ps → at_child w ps (suc i) ≡ w (get_or ps i d)
at_get w [] i d h = absurd (omega arith)
at_get w (p ∷ ps) zero d h = refl
at_get w (p ∷ ps) (suc i) d h = at_get w ps i d (omega arith)

pub at_set : (w : Phase → ℕ) (ps : List Phase) (i : ℕ) (q d : Phase) (k j : ℕ) → k ≡ suc i → i < length ps → at_child w (set ps i q) j + cond (eqb j k) (w (get_or ps i d)) 0 ≡ at_child w ps j + cond (eqb j k) (w q) 0
at_set w ps i q d k j e lt =
    elim (same_or_not j k) [
      | inl h ↦
          let a : at_child w ps j ≡ w (get_or ps i d) = rw (h, e) (at_get w ps i d lt) in
          let b : cond (eqb j k) (w q) 0 ≡ w q = cond_same j k (w q) 0 h in
          let b' : cond (eqb j k) (w (get_or ps i d)) 0 ≡ w (get_or ps i d) = cond_same j k (w (get_or ps i d)) 0 h in
          let c : at_child w (set ps i q) j ≡ w q = rw (h, e) (at_set_same w ps i q lt) in omega arith
      | inr n ↦
          let b : cond (eqb j k) (w q) 0 ≡ 0 = cond_other j k (w q) 0 n in
          let b' : cond (eqb j k) (w (get_or ps i d)) 0 ≡ 0 = cond_other j k (w (get_or ps i d)) 0 n in
          let c : at_child w (set ps i q) j ≡ at_child w ps j = at_set_other w ps i q j (λ h. n (h ∙ sym e)) in omega arith
    ]

pub at_le : (w : Phase → ℕ) (ps : List Phase) (k : ℕ) → ((p : Phase) → w p ≤ 1) → at_child w ps k ≤ 1
at_le w [] k h = omega arith
at_le w (p ∷ ps) zero h = omega arith
at_le w (p ∷ ps) (suc zero) h = h p
at_le w (p ∷ ps) (suc (suc k)) h = at_le w ps (suc k) h

pub begun_le : (p : Phase) → is_begun p ≤ 1
begun_le Made = omega arith
begun_le Begun = omega arith
begun_le Unrun = omega arith
begun_le Waited = omega arith

pub settled_le : (p : Phase) → is_settled p ≤ 1
settled_le Made = omega arith
settled_le Begun = omega arith
settled_le Unrun = omega arith
settled_le Waited = omega arith

pub waited_le : (p : Phase) → is_waited p ≤ 1
waited_le Made = omega arith
waited_le Begun = omega arith
waited_le Unrun = omega arith
waited_le Waited = omega arith

pub not_new : (w : Phase → ℕ) (ps : List Phase) (k : ℕ) → at_child w ps k ≡ 1 → k ≢ suc (length ps)
not_new w ps k h e = let z : at_child w ps k ≡ 0 = at_past w ps k (omega arith) in omega arith

pub set_end : (ps : List Phase) (p q : Phase) → set (ps ++ p ∷ []) (length ps) q ≡ ps ++ q ∷ []
set_end [] p q = refl
set_end (x ∷ ps) p q = ap (λ r. x ∷ r) (set_end ps p q)

phase_others : (p : Phase) → is_begun p ≡ 1 → (is_settled p ≡ 1) × (is_unrun p ≡ 0) × (is_waited p ≡ 0)
phase_others Made h = absurd (omega arith)
phase_others Begun h = (refl, refl, refl)
phase_others Unrun h = absurd (omega arith)
phase_others Waited h = absurd (omega arith)

pub begun_others : (ps : List Phase) (k : ℕ) → at_child is_begun ps k ≡ 1 → (at_child is_settled ps k ≡ 1) × (at_child is_unrun ps k ≡ 0) × (at_child is_waited ps k ≡ 0)
begun_others [] k h = absurd (omega arith)
begun_others (p ∷ ps) zero h = absurd (omega arith)
begun_others (p ∷ ps) (suc zero) h = phase_others p h
begun_others (p ∷ ps) (suc (suc k)) h = begun_others ps (suc k) h

phase_begun : (p : Phase) → is_begun p ≡ 1 → p ≡ Begun
phase_begun Made h = absurd (omega arith)
phase_begun Begun h = refl
phase_begun Unrun h = absurd (omega arith)
phase_begun Waited h = absurd (omega arith)

-- a child that is begun, by its place
pub begun_at : (ps : List Phase) (k : ℕ) → at_child is_begun ps k ≡ 1 → (i : ℕ) × (k ≡ suc i) × (i < length ps) × ((d : Phase) → get_or ps i d ≡ Begun)
begun_at [] k h = absurd (omega arith)
begun_at (p ∷ ps) zero h = absurd (omega arith)
begun_at (p ∷ ps) (suc zero) h = (0, refl, omega arith, λ d. phase_begun p h)
begun_at (p ∷ ps) (suc (suc k)) h =
    let r = begun_at ps (suc k) h in (suc r.0, ap suc r.1, (let l = r.2 in omega arith), r.3)

pub is_in_begun : (ps : List Phase) (k : ℕ) → at_child is_begun ps k ≡ 1 → IsIn ps k Begun
is_in_begun ps k h =
    let r = begun_at ps k h in
    let e = r.1 in
    let l = r.2 in
    let i : k - 1 ≡ r.0 = omega arith in (omega arith, omega arith, rw i (r.3 Unrun))

phase_waited : (p : Phase) → is_waited p ≡ 1 → is_settled p ≡ 1
phase_waited Made h = absurd (omega arith)
phase_waited Begun h = refl
phase_waited Unrun h = refl
phase_waited Waited h = refl

pub waited_settled : (ps : List Phase) (k : ℕ) → at_child is_waited ps k ≡ 1 → at_child is_settled ps k ≡ 1
waited_settled [] k h = h
waited_settled (p ∷ ps) zero h = h
waited_settled (p ∷ ps) (suc zero) h = phase_waited p h
waited_settled (p ∷ ps) (suc (suc k)) h = waited_settled ps (suc k) h
