-- Cells that are alike, and copies of which one is left out.
use Rattle.std.proofs.Common.{◌≡◌, ℕ, zero, suc, ◌+◌, ◌-◌, ◌<◌, ◌≤◌, Bool, ◌||◌, not, List, [], ◌∷◌, length, take, remove, get_or, ap, sym, ◌∙◌, arith}
use Rattle.std.proofs.lemmas.List.{get_or_default}
use Rattle.std.specs.Global.{Vec}
use Rattle.std.specs.List.{list_any}
use Rattle.ksh_pattern.specs.declared.part.Kind.{Kind}
use Rattle.ksh_pattern.specs.declared.cell.Cell.{Cell}
use Rattle.ksh_pattern.specs.declared.cell.Cell.TheVariants as cell
use Rattle.ksh_pattern.specs.Cells.{whole, rest, whole_all, rest_all, whole_some, rest_some, rest_copies, rest_repeated, looped}
use Rattle.ksh_pattern.proofs.Cuts.{cut_same}
use Rattle.ksh_pattern.proofs.Levels.{cell_whole, cell_rest}
use Rattle.ksh_pattern.proofs.Walks.{whole_next, rest_next, whole_some_next, rest_some_next}

-- two groups of the same kind
pub group_whole_alike : (a b : Cell) (k j : Kind) (cs ds : Vec (Vec Cell)) → a ≡ cell.Group k cs → b ≡ cell.Group j ds → k ≡ j
    → ((w : List ℕ) → whole_some cs.items w ≡ whole_some ds.items w)
    → (w : List ℕ) → whole a w ≡ whole b w
group_whole_alike a b k j cs ds ea eb e h w =
    ap (λ x. whole x w) ea ∙ cell_whole k cs w
    ∙ (λ i. looped (e i) (λ x. h x i) w)
    ∙ sym (ap (λ x. whole x w) eb ∙ cell_whole j ds w)

pub group_rest_alike : (a b : Cell) (k j : Kind) (cs ds : Vec (Vec Cell)) → a ≡ cell.Group k cs → b ≡ cell.Group j ds → k ≡ j
    → ((w : List ℕ) → whole_some cs.items w ≡ whole_some ds.items w)
    → ((w : List ℕ) → rest_some cs.items w ≡ rest_some ds.items w)
    → (w : List ℕ) → rest a w ≡ rest b w
group_rest_alike a b k j cs ds ea eb e h r w =
    ap (λ x. rest x w) ea ∙ cell_rest k cs w
    ∙ (λ i. rest_repeated (e i) (λ x. h x i) (λ x. r x i) w)
    ∙ sym (ap (λ x. rest x w) eb ∙ cell_rest j ds w)

-- one part further
pub all_whole_alike : (us vs : List Cell) (i : ℕ) (a b : Cell) → i < length us → i < length vs → a ≡ get_or us i a → b ≡ get_or vs i b
    → ((w : List ℕ) → whole_all (take i us) w ≡ whole_all (take i vs) w)
    → ((w : List ℕ) → whole a w ≡ whole b w)
    → (w : List ℕ) → whole_all (take (i + 1) us) w ≡ whole_all (take (i + 1) vs) w
all_whole_alike us vs i a b l m ea eb h k w =
    whole_next us i a l ea w ∙ cut_same (whole_all (take i us)) (whole_all (take i vs)) (whole a) (whole b) h k w ∙ sym (whole_next vs i b m eb w)

pub all_rest_alike : (us vs : List Cell) (i : ℕ) (a b : Cell) → i < length us → i < length vs → a ≡ get_or us i a → b ≡ get_or vs i b
    → ((w : List ℕ) → rest_all (take i us) w ≡ rest_all (take i vs) w)
    → ((w : List ℕ) → whole a w ≡ whole b w)
    → ((w : List ℕ) → rest a w ≡ rest b w)
    → (w : List ℕ) → rest_all (take (i + 1) us) w ≡ rest_all (take (i + 1) vs) w
all_rest_alike us vs i a b l m ea eb h k r w =
    rest_next us i a l ea w
    ∙ (λ j. cut_same (rest_all (take i us)) (rest_all (take i vs)) (whole a) (whole b) h k w j || r w j)
    ∙ sym (rest_next vs i b m eb w)

-- one alternative further
pub some_whole_alike : (us vs : List (Vec Cell)) (i : ℕ) (a b : Vec Cell) → i < length us → i < length vs → a ≡ get_or us i a → b ≡ get_or vs i b
    → ((w : List ℕ) → whole_some (take i us) w ≡ whole_some (take i vs) w)
    → ((w : List ℕ) → whole_all a.items w ≡ whole_all b.items w)
    → (w : List ℕ) → whole_some (take (i + 1) us) w ≡ whole_some (take (i + 1) vs) w
some_whole_alike us vs i a b l m ea eb h k w =
    whole_some_next us i a l ea w ∙ (λ j. h w j || k w j) ∙ sym (whole_some_next vs i b m eb w)

pub some_rest_alike : (us vs : List (Vec Cell)) (i : ℕ) (a b : Vec Cell) → i < length us → i < length vs → a ≡ get_or us i a → b ≡ get_or vs i b
    → ((w : List ℕ) → rest_some (take i us) w ≡ rest_some (take i vs) w)
    → ((w : List ℕ) → rest_all a.items w ≡ rest_all b.items w)
    → (w : List ℕ) → rest_some (take (i + 1) us) w ≡ rest_some (take (i + 1) vs) w
some_rest_alike us vs i a b l m ea eb h k w =
    rest_some_next us i a l ea w ∙ (λ j. h w j || k w j) ∙ sym (rest_some_next vs i b m eb w)

said_twice : (a b r : Bool) → a ≡ b → (a || r) ≡ (a || (b || r))
said_twice a b r e = grind arith

-- what a list has twice in a row may be left out the second time
pub without_double : {A : Type 0} (p : A → Bool) (xs : List A) (i : ℕ) (d : A) → suc i < length xs → p (get_or xs i d) ≡ p (get_or xs (suc i) d)
    → list_any p (remove xs (suc i)) ≡ list_any p xs
without_double p [] i d l e = absurd (omega arith)
without_double p (x ∷ []) i d l e = absurd (omega arith)
without_double p (x ∷ y ∷ xs) zero d l e = said_twice (p x) (p y) (list_any p xs) e
without_double p (x ∷ y ∷ xs) (suc i) d l e = ap (λ b. p x || b) (without_double p (y ∷ xs) i d (omega arith) e)

-- a copy after one that it is like
pub copy_dropped : (xs ys : List (Vec (Vec Cell))) (i : ℕ) (a b : Vec (Vec Cell)) (w : List ℕ) → 1 ≤ i → i < length xs
    → a ≡ get_or xs (i - 1) a → b ≡ get_or xs i b → ys ≡ remove xs i → rest_some a.items w ≡ rest_some b.items w
    → rest_copies ys w ≡ rest_copies xs w
copy_dropped xs ys i a b w h l ea eb e s =
    ap (λ zs. rest_copies zs w) (e ∙ ap (remove xs) back)
    ∙ without_double unmatched xs (i - 1) a (omega (arith, h, l)) (sym (ap unmatched ea) ∙ ap not s ∙ ap unmatched (eb ∙ get_or_default xs i b a l ∙ ap (λ n. get_or xs n a) back))
  where
    unmatched : Vec (Vec Cell) → Bool
    unmatched copy = not (rest_some copy.items w)

    back : i ≡ suc (i - 1)
    back = omega (arith, h)
