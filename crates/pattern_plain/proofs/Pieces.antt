-- A text that is cut in two, at some place or at none.
use Rattle.std.proofs.Common.{◌≡◌, ℕ, zero, suc, nat_le, ◌+◌, ◌<◌, ◌≤◌, Bool, true, false, ◌||◌, ◌&&◌, List, [], ◌∷◌, length, take, drop, refl, ap, sym, ◌∙◌, arith}
use Rattle.ksh_pattern.specs.Match.{Texts, some_cut, any_number}
use Rattle.ksh_pattern.proofs.Cuts.{number_of_one}

found_later : (a b : Bool) → b ≡ true → (a || b) ≡ true
found_later a b h = grind arith

found_here : (a r : Bool) → a ≡ true → (a || r) ≡ true
found_here a r h = grind arith

-- a cut that serves
pub cut_found : (p q : Texts) (w : List ℕ) (i : ℕ) → i ≤ length w → (p (take i w) && q (drop i w)) ≡ true → some_cut p q w ≡ true
cut_found p q [] zero l h = h
cut_found p q [] (suc i) l h = absurd (omega arith)
cut_found p q (c ∷ w) zero l h = found_here (p [] && q (c ∷ w)) _ h
cut_found p q (c ∷ w) (suc i) l h = found_later (p [] && q (c ∷ w)) _ (cut_found (λ x. p (c ∷ x)) q w i (omega arith) h)

neither : (a b : Bool) → a ≡ false → b ≡ false → (a || b) ≡ false
neither a b h k = grind arith

-- no cut that does
pub cut_missing : (p q : Texts) (w : List ℕ) → ((i : ℕ) → i ≤ length w → (p (take i w) && q (drop i w)) ≡ false) → some_cut p q w ≡ false
cut_missing p q [] h = h 0 (omega arith)
cut_missing p q (c ∷ w) h = neither (p [] && q (c ∷ w)) _ (h 0 (omega arith)) (cut_missing (λ x. p (c ∷ x)) q w (λ i l. h (suc i) (omega arith)))

-- the same of a first text that isn't empty, and any number of further ones
pub number_found : (p : Texts) (w : List ℕ) (i : ℕ) → 1 ≤ i → i ≤ length w → (p (take i w) && any_number p (drop i w)) ≡ true → any_number p w ≡ true
number_found p w zero l m h = absurd (omega arith)
number_found p [] (suc i) l m h = absurd (omega arith)
number_found p (c ∷ w) (suc i) l m h = number_of_one p c w ∙ cut_found (λ x. p (c ∷ x)) (any_number p) w i (omega arith) h

pub number_missing : (p : Texts) (w : List ℕ) → 0 < length w → ((i : ℕ) → 1 ≤ i → i ≤ length w → (p (take i w) && any_number p (drop i w)) ≡ false) → any_number p w ≡ false
number_missing p [] l h = absurd (omega arith)
number_missing p (c ∷ w) l h = number_of_one p c w ∙ cut_missing (λ x. p (c ∷ x)) (any_number p) w (λ i m. h (suc i) (omega arith) (omega arith))
