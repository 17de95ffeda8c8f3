-- Names by the lexer are names by the tree.
use Rattle.std.proofs.Common.{◌≡◌, ℕ, Bool, true, false, ◌||◌, ◌&&◌, ◌==◌, List, [], ◌∷◌, take, drop, refl, ap, sym, ◌∙◌, arith, if◌then◌else◌}
use Rattle.std.specs.Prelude.{codes, bytes_eq}
use Rattle.std.proofs.lemmas.Bool.Decides.{nat_tests}
use Rattle.std.proofs.lemmas.Slice.Eq.{bytes_eq-Decides}
use Rattle.ksh_base.specs.Name.{dot_sh}
use Rattle.ksh_lexer.specs.Bytes.{in_name, starts_name}
use Rattle.ksh_lexer.specs.Names.{are_more, are_names, is_path}
use Rattle.ksh_lexer.specs.Names as lexed
use Rattle.ksh_lexer.specs.Spells as spelled
use Rattle.tree_parts.specs.Parts.{all_names, are_in_name, between_dots, is_name, is_own_name, is_param, names_of, to_first}
use Rattle.note_signs.proofs.Comes.{both}

and_true : (a b : Bool) → a ≡ true → b ≡ true → (a && b) ≡ true
and_true true b h i = i
and_true false b h i = absurd cc

or_right : (a b : Bool) → b ≡ true → (a || b) ≡ true
or_right true b h = refl
or_right false b h = h

-- ---- one name

same_rest : (w : List ℕ) → lexed.are_in_name w ≡ are_in_name w
same_rest [] = refl
same_rest (b ∷ bs) = ap (λ t. in_name b && t) (same_rest bs)

pub same_own : (w : List ℕ) → lexed.is_own_name w ≡ is_own_name w
same_own [] = refl
same_own (b ∷ bs) = ap (λ t. starts_name b && t) (same_rest bs)

pub same_name : (w : List ℕ) → lexed.is_name w ≡ is_name w
same_name w = ap (λ t. bytes_eq w dot_sh || t) (same_own w)

pub own_name : (w : List ℕ) → lexed.is_own_name w ≡ true → is_name w ≡ true
own_name w h = or_right (bytes_eq w dot_sh) _ (sym (same_own w) ∙ h)

own_param : (w : List ℕ) → is_name w ≡ true → is_param w ≡ true
own_param [] h = refl
own_param (b ∷ bs) h = go (starts_name b)
  where
    go : (t : Bool) → (if t then is_name (b ∷ bs) else true) ≡ true
    go true = h
    go false = refl

special_param : (w : List ℕ) → spelled.is_one_special w ≡ true → is_param w ≡ true
special_param [] h = refl
special_param (b ∷ []) h = go (starts_name b) refl
  where
    go : (t : Bool) → starts_name b ≡ t → (if t then is_name (b ∷ []) else true) ≡ true
    go true e = own_name (b ∷ []) (and_true (starts_name b) true e refl)
    go false e = refl
special_param (b ∷ c ∷ bs) h = absurd cc

pub expanded : (w : List ℕ) → (lexed.is_own_name w || spelled.is_one_special w) ≡ true → is_param w ≡ true
expanded w = go (lexed.is_own_name w) refl
  where
    go : (t : Bool) → lexed.is_own_name w ≡ t → (t || spelled.is_one_special w) ≡ true → is_param w ≡ true
    go true e h = own_param w (own_name w e)
    go false e h = special_param w h

-- ---- names between dots

-- the rest of a name, and the names behind it
record More (w : List ℕ) : Type 0 where
  first : List ℕ
  names : List (List ℕ)
  parts : between_dots w ≡ first ∷ names
  own : are_in_name first ≡ true
  others : all_names names ≡ true

no_dot : (b : ℕ) → starts_name b ≡ true → (b == 46) ≡ false
no_dot b h = grind (arith, nat_tests)

first_name : (b : ℕ) (bs : List ℕ) → starts_name b ≡ true → More bs → all_names (between_dots (b ∷ bs)) ≡ true
first_name b bs h m =
    ap (λ t. all_names (if t then [] ∷ between_dots bs else to_first b (between_dots bs))) (no_dot b h) ∙ ap (λ ns. all_names (to_first b ns)) m.parts
    ∙ and_true (is_name (b ∷ m.first)) _ (or_right (bytes_eq (b ∷ m.first) dot_sh) _ (and_true (starts_name b) _ h m.own)) m.others

more_by : (b : ℕ) (bs : List ℕ) (t : Bool) → (b == 46) ≡ t → (are_more bs ≡ true → More bs) → (are_names bs ≡ true → all_names (between_dots bs) ≡ true)
    → (if t then are_names bs else in_name b && are_more bs) ≡ true → More (b ∷ bs)
more_by b bs true e more names h =
    record { first = []; names = between_dots bs; parts = ap (λ t. if t then [] ∷ between_dots bs else to_first b (between_dots bs)) e; own = refl; others = names h }
more_by b bs false e more names h =
    let m : More bs = more (both (in_name b) _ h).1 in
    record {
      first = b ∷ m.first;
      names = m.names;
      parts = ap (λ t. if t then [] ∷ between_dots bs else to_first b (between_dots bs)) e ∙ ap (to_first b) m.parts;
      own = and_true (in_name b) _ (both (in_name b) _ h).0 m.own;
      others = m.others;
    }

parted : (w : List ℕ) → (are_more w ≡ true → More w) × (are_names w ≡ true → all_names (between_dots w) ≡ true)
parted [] = (λ h. record { first = []; names = []; parts = refl; own = refl; others = refl }, λ h. absurd cc)
parted (b ∷ bs) =
    let rest = parted bs in
    (λ h. more_by b bs (b == 46) refl rest.0 rest.1 h, λ h. first_name b bs (both (starts_name b) _ h).0 (rest.0 (both (starts_name b) _ h).1))

-- those below `.sh`
below : (w : List ℕ) → take 4 w ≡ codes ".sh." → is_path w ≡ true → all_names (take 3 w ∷ between_dots (drop 4 w)) ≡ true
below [] e h = absurd cc
below (a ∷ []) e h = absurd cc
below (a ∷ b ∷ []) e h = absurd cc
below (a ∷ b ∷ c ∷ []) e h = absurd cc
below (a ∷ b ∷ c ∷ d ∷ w) e h =
    let f : a ≡ 46 = cc in
    let g : b ≡ 115 = cc in
    let i : c ≡ 104 = cc in
    let j : d ≡ 46 = cc in
    let same : a ∷ b ∷ c ∷ d ∷ w ≡ 46 ∷ 115 ∷ 104 ∷ 46 ∷ w = ap (λ x. x ∷ b ∷ c ∷ d ∷ w) f ∙ ap (λ x. 46 ∷ x ∷ c ∷ d ∷ w) g ∙ ap (λ x. 46 ∷ 115 ∷ x ∷ d ∷ w) i ∙ ap (λ x. 46 ∷ 115 ∷ 104 ∷ x ∷ w) j in
    ap (λ xs. all_names (take 3 xs ∷ between_dots (drop 4 xs))) same ∙ (parted w).1 (sym (ap is_path same) ∙ h)

pub path_names : (w : List ℕ) → is_path w ≡ true → all_names (names_of w) ≡ true
path_names w = go (bytes_eq (take 4 w) (codes ".sh.")) refl
  where
    go : (t : Bool) → bytes_eq (take 4 w) (codes ".sh.") ≡ t → is_path w ≡ true → all_names (if t then take 3 w ∷ between_dots (drop 4 w) else between_dots w) ≡ true
    go true e h = below w ((bytes_eq-Decides (take 4 w) (codes ".sh.")).0 e) h
    go false e h = (parted w).1 (only (are_names w) (are_names (drop 1 w)) (sym (ap (λ t. are_names w || (t && are_names (drop 1 w))) e) ∙ h))
      where
        only : (a b : Bool) → (a || (false && b)) ≡ true → a ≡ true
        only true b h = refl
        only false b h = absurd cc
