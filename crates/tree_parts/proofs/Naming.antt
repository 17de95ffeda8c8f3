-- Bytes that are names, and bytes that are none.
use Rattle.std.specs.Prelude.{◌≡◌, ◌≢◌, ℕ, zero, suc, ◌+◌, ◌<◌, ◌==◌, ◌⊎◌, Bool, true, false, ◌&&◌, ◌||◌, List, [], ◌∷◌, length, take, drop, slice_index, codes, bytes_eq, if◌then◌else◌}
use Rattle.std.proofs.Common.{refl, sym, ◌∙◌, ap, arith, inl, inr}
use Rattle.std.specs.Bool.{Decides}
use Rattle.std.proofs.lemmas.Bool.Decides.{nat_tests}
use Rattle.std.proofs.lemmas.Slice.Eq.{bytes_eq-Decides}
use Rattle.ksh_base.specs.Name.{IsFirstBad, IsName, dot_sh, goes_on_in_name, may_stand, starts_name}
use Rattle.tree_parts.specs.Parts.{all_names, are_in_name, between_dots, is_name, is_own_name, names_of, to_first}

pub no_second : (a b : Bool) → b ≡ false → (a && b) ≡ false
no_second true b h = h
no_second false b h = refl

and_true : (a b : Bool) → a ≡ true → b ≡ true → (a && b) ≡ true
and_true true b h i = i
and_true false b h i = absurd cc

neither : (a b : Bool) → a ≡ false → b ≡ false → (a || b) ≡ false
neither false b h i = i
neither true b h i = absurd cc

or_right : (a b : Bool) → b ≡ true → (a || b) ≡ true
or_right true b h = refl
or_right false b h = h

-- ---- one name

bad_in_rest : (bs : List ℕ) (i : ℕ) → i < length bs → goes_on_in_name (slice_index bs i) ≡ false → are_in_name bs ≡ false
bad_in_rest [] i lt h = absurd (let f : ⊥ = omega (arith, lt) in f)
bad_in_rest (b ∷ bs) zero lt h = ap (λ t. t && are_in_name bs) h
bad_in_rest (b ∷ bs) (suc i) lt h = no_second _ _ (bad_in_rest bs i (omega (arith, lt)) h)

-- behind the first byte
behind : (b : ℕ) (bs : List ℕ) (i : ℕ) → may_stand (b ∷ bs) (suc i) ≡ goes_on_in_name (slice_index bs i)
behind b bs i =
    let later : (suc i == 0) ≡ false = grind (arith, nat_tests) in
    ap (λ t. if t then starts_name (slice_index bs i) else goes_on_in_name (slice_index bs i)) later

bad_own : (bs : List ℕ) (i : ℕ) → i < length bs → may_stand bs i ≡ false → is_own_name bs ≡ false
bad_own [] i lt h = refl
bad_own (b ∷ bs) zero lt h = ap (λ t. t && are_in_name bs) h
bad_own (b ∷ bs) (suc i) lt h = no_second _ _ (bad_in_rest bs i (omega (arith, lt)) (sym (behind b bs i) ∙ h))

differ : (r : Bool) {P : Type 0} → Decides r P → (P → ⊥) → r ≡ false
differ true d n = absurd (n (d.0 refl))
differ false d n = refl

pub no_bytes : (bytes : List ℕ) → bytes ≡ [] → is_name bytes ≡ false
no_bytes bytes e = ap is_name e

pub bad_byte : (bytes : List ℕ) (i : ℕ) → bytes ≢ dot_sh → IsFirstBad bytes i → is_name bytes ≡ false
bad_byte bytes i n bad = neither (bytes_eq bytes dot_sh) (is_own_name bytes) (differ _ (bytes_eq-Decides bytes dot_sh) n) (bad_own bytes i bad.within bad.bad)

fine_rest : (bs : List ℕ) → ((k : ℕ) → k < length bs → goes_on_in_name (slice_index bs k) ≡ true) → are_in_name bs ≡ true
fine_rest [] h = refl
fine_rest (b ∷ bs) h = and_true _ _ (h 0 (omega arith)) (fine_rest bs (λ k lt. h (suc k) (omega (arith, lt))))

fine_own : (bs : List ℕ) → 0 < length bs → ((k : ℕ) → k < length bs → may_stand bs k ≡ true) → is_own_name bs ≡ true
fine_own [] lt h = absurd (let f : ⊥ = omega (arith, lt) in f)
fine_own (b ∷ bs) lt h = and_true _ _ (h 0 (omega arith)) (fine_rest bs (λ k less. sym (behind b bs k) ∙ h (suc k) (omega (arith, less))))

pub named : (bytes : List ℕ) → IsName bytes → is_name bytes ≡ true
named bytes (inl e) = ap is_name e
named bytes (inr h) = or_right (bytes_eq bytes dot_sh) _ (fine_own bytes h.0 h.1)

-- ---- names between dots

pub bad_first : (rest name : List ℕ) (names : List (List ℕ)) → between_dots rest ≡ name ∷ names → is_name name ≡ false → all_names (between_dots rest) ≡ false
bad_first rest name names e h = ap all_names e ∙ ap (λ t. t && all_names names) h

pub one_more_name : (rest name : List ℕ) (names : List (List ℕ)) (all : Bool) → between_dots rest ≡ name ∷ names → is_name name ≡ true → all_names (between_dots rest) ≡ all → all_names names ≡ all
one_more_name rest name names all e h a = sym (ap all_names e ∙ ap (λ t. t && all_names names) h) ∙ a

pub last_name : (rest name : List ℕ) (all : Bool) → between_dots rest ≡ name ∷ [] → is_name name ≡ true → all_names (between_dots rest) ≡ all → all ≡ true
last_name rest name all e h a = sym a ∙ ap all_names e ∙ ap (λ t. t && true) h

some_first : (b : ℕ) (names : List (List ℕ)) → to_first b names ≡ [] → ⊥
some_first b [] e = cc
some_first b (name ∷ names) e = cc

some_parts : (w : List ℕ) → between_dots w ≡ [] → ⊥
some_parts [] e = cc
some_parts (b ∷ bs) e = go (b == 46) e
  where
    go : (t : Bool) → (if t then [] ∷ between_dots bs else to_first b (between_dots bs)) ≡ [] → ⊥
    go true e = cc
    go false e = some_first b (between_dots bs) e

pub some_names : (w : List ℕ) → names_of w ≡ [] → all_names (names_of w) ≡ false
some_names w e = absurd (go (bytes_eq (take 4 w) (codes ".sh.")) e)
  where
    go : (t : Bool) → (if t then take 3 w ∷ between_dots (drop 4 w) else between_dots w) ≡ [] → ⊥
    go true e = cc
    go false e = some_parts w e
