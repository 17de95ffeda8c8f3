-- Open rows that count the handles of given totals.
use Rattle.std.proofs.Common.{◌≡◌, refl, sym, ap, ◌∙◌, subst, ℕ, ◌+◌, ◌≤◌, Bool, true, false, cond, List, [], ◌∷◌, length, Option, Some, None, arith, All, IsSome, is_some}
use Rattle.std.proofs.lemmas.List.Elements.{All-head, All-tail, All-weaker}
use Rattle.std.proofs.lemmas.List.Sums.{sum_by-cons}
use Rattle.std.proofs.lemmas.Map.{keys-set_value}
use Rattle.std.specs.BTreeMap.{is_at}
use Rattle.std.specs.Cmp.Lexicographic.{slice_cmp}
use Rattle.std.specs.List.Sorted.{IsStrictlySortedBy}
use Rattle.std.specs.Map.{values_of}
use Rattle.std.specs.Ordering.{nat_cmp}
use Rattle.ksh_base.specs.Text.{same_numbers}
use Rattle.kernel_objects.specs.declared.opened.Held.{Held}
use Rattle.kernel_objects.specs.declared.opened.Opened.{Opened}
use Rattle.kernel_objects.specs.declared.opened.Side.{Side}
use Rattle.kernel_objects.specs.Rows.{at_name, set_name, drop_name}
use Rattle.kernel_core.specs.declared.kernel.Stores.{Stores}
use Rattle.kernel_core.specs.Forks.{all_retained}
use Rattle.kernel_core.specs.Handles.{all_released, is_reading, is_unheld, left_by, reach_of, released, retained_in, row_left, row_released, row_shared, shared}
use Rattle.kernel_core.specs.Limits.{most_count}
use Rattle.kernel_laws.specs.Counts.{CountsAs, only_writes, stands, standing_among}
use Rattle.kernel_laws.proofs.Names.{AreNamed, at_drop, at_drop_other, at_drop_same, at_set_other, at_set_same, by_name, none_after_set}
use Rattle.kernel_laws.proofs.Rows.{remove_sorted}
use Rattle.kernel_laws.proofs.Weights.{counts_as, counts_more, held_by, less_by, one, one_side, open_by, unheld_by, weigh, weigh_other, weigh_own}

abbrev pub Opens : Type 0
Opens = List (List ℕ × Opened)

abbrev pub Total : Type 0
Total = List ℕ → ℕ

-- each row counts what the totals say of it: handles that read, and handles that only write
abbrev pub Balances : Total → Total → Opens → Type 0
Balances r w opens = (row : List ℕ) → CountsAs (r row) (w row) (at_name row opens)

-- the totals with a handle more
abbrev pub with_held : Total → (Side → Bool) → Held → Total
with_held t good held row = t row + weigh good held row

-- the totals with those handles more
abbrev pub with_all : Total → (Side → Bool) → List (ℕ × Held) → Total
with_all t good handles row = t row + standing_among good row handles

pub balances_as : (r r' w w' : Total) (opens : Opens) → ((row : List ℕ) → r row ≡ r' row) → ((row : List ℕ) → w row ≡ w' row) → Balances r w opens → Balances r' w' opens
balances_as r r' w w' opens e f b row = counts_as (r row) (r' row) (w row) (w' row) (at_name row opens) (e row) (f row) (b row)

-- the row of a handle that is counted is open
pub held_open : (r w : Total) (opens : Opens) (held : Held) → Balances r w opens → one is_reading held.side ≤ r held.row → one only_writes held.side ≤ w held.row
    → (o : Opened) × (at_name held.row opens ≡ Some o)
held_open r w opens held b e f = open_by (r held.row) (w held.row) (at_name held.row opens) (b held.row) (omega (arith, one_side held.side, e, f))

pub set_named : (row : List ℕ) (o : Opened) (opens : Opens) → AreNamed opens → AreNamed (set_name row o opens)
set_named row o opens named = subst (λ ks. IsStrictlySortedBy (slice_cmp nat_cmp) ks) (sym (keys-set_value (is_at (slice_cmp nat_cmp row)) opens o)) named

module _ (r w : Total) (opens : Opens) (held : Held) where
  -- ---- a handle less

  module _ (balances : Balances (with_held r is_reading held) (with_held w only_writes held) opens) where
    same_row : (o : Opened) → at_name held.row opens ≡ Some o → CountsAs (r held.row + one is_reading held.side) (w held.row + one only_writes held.side) (Some o)
    same_row o there = counts_as _ _ _ _ (Some o) (ap (λ n. r held.row + n) (weigh_own is_reading held)) (ap (λ n. w held.row + n) (weigh_own only_writes held)) (subst (λ x. CountsAs (with_held r is_reading held held.row) (with_held w only_writes held held.row) x) there (balances held.row))

    other_row : (row : List ℕ) → same_numbers held.row row ≡ false → CountsAs (r row) (w row) (at_name row opens)
    other_row row other =
        counts_as _ _ _ _ (at_name row opens) (let z = weigh_other is_reading held row other in omega arith) (let z = weigh_other only_writes held row other in omega arith) (balances row)

    less : (o : Opened) → at_name held.row opens ≡ Some o → ((left_by held.side o).readers ≡ r held.row) × ((left_by held.side o).writers ≡ w held.row)
    less o there = let c = same_row o there in less_by held.side o (r held.row) (w held.row) c.0 c.1

    last_gone : (o : Opened) → at_name held.row opens ≡ Some o → AreNamed opens → is_unheld (left_by held.side o) ≡ true → Balances r w (drop_name held.row opens)
    last_gone o there named last row = by_name held.row row
        (λ e.
        let l = less o there in
        let z = unheld_by (left_by held.side o) (r held.row) (w held.row) l.0 l.1 last in
        subst (λ q. CountsAs (r q) (w q) (at_name q (drop_name held.row opens))) e (subst (λ x. CountsAs (r held.row) (w held.row) x) (sym (at_drop_same held.row opens named)) z))
        (λ other. subst (λ x. CountsAs (r row) (w row) x) (sym (at_drop_other held.row row opens named other)) (other_row row other))

    one_gone : (o : Opened) → at_name held.row opens ≡ Some o → is_unheld (left_by held.side o) ≡ false → Balances r w (set_name held.row (left_by held.side o) opens)
    one_gone o there more row = by_name held.row row
        (λ e.
        let l = less o there in
        let some = held_by (left_by held.side o) (r held.row) (w held.row) l.0 l.1 more in
        subst (λ q. CountsAs (r q) (w q) (at_name q (set_name held.row (left_by held.side o) opens))) e (subst (λ x. CountsAs (r held.row) (w held.row) x) (sym (at_set_same held.row (left_by held.side o) o opens there)) (l.0, l.1, some)))
        (λ other. subst (λ x. CountsAs (r row) (w row) x) (sym (at_set_other held.row row (left_by held.side o) o opens there other)) (other_row row other))

    left_balances : (d : Stores) (o : Opened) → at_name held.row opens ≡ Some o → AreNamed opens → Balances r w (row_left (reach_of opens d) held.row (left_by held.side o)).opens
    left_balances d o there named = by (is_unheld (left_by held.side o)) refl
      where
        by : (b : Bool) → is_unheld (left_by held.side o) ≡ b → Balances r w (row_left (reach_of opens d) held.row (left_by held.side o)).opens
        by true h = rw h (last_gone o there named h)
        by false h = rw h (one_gone o there h)

    pub released_balances : (d : Stores) → AreNamed opens → Balances r w (released (reach_of opens d) held).opens
    released_balances d named =
        let own = weigh_own is_reading held in
        let own_w = weigh_own only_writes held in
        let found = held_open (with_held r is_reading held) (with_held w only_writes held) opens held balances (omega arith) (omega arith) in
        subst (λ x. Balances r w (row_released (reach_of opens d) held x).opens) (sym found.1) (left_balances d found.0 found.1 named)

  -- ---- a handle more

  module _ (balances : Balances r w opens) (o : Opened) (there : at_name held.row opens ≡ Some o) (few : (row : List ℕ) → r row + 1 ≤ most_count) (few_w : (row : List ℕ) → w row + 1 ≤ most_count) where
    one_most : (good : Side → Bool) → one good held.side ≤ 1
    one_most good = by (good held.side)
      where
        by : (b : Bool) → cond b 1 0 ≤ 1
        by true = omega arith
        by false = omega arith

    pub shared_balances : Balances (with_held r is_reading held) (with_held w only_writes held) (set_name held.row (shared held.side o) opens)
    shared_balances row = by_name held.row row
        (λ e.
        let c = subst (λ x. CountsAs (r held.row) (w held.row) x) there (balances held.row) in
        let m = counts_more held.side o (r held.row) (w held.row) c (let a = one_most is_reading in let b = few held.row in omega arith) (let a = one_most only_writes in let b = few_w held.row in omega arith) in
        let n = counts_as _ _ _ _ (Some (shared held.side o)) (ap (λ n. r held.row + n) (sym (weigh_own is_reading held))) (ap (λ n. w held.row + n) (sym (weigh_own only_writes held))) m in
        subst (λ q. CountsAs (with_held r is_reading held q) (with_held w only_writes held q) (at_name q (set_name held.row (shared held.side o) opens))) e
        (subst (λ x. CountsAs (with_held r is_reading held held.row) (with_held w only_writes held held.row) x) (sym (at_set_same held.row (shared held.side o) o opens there)) n))
        (λ other.
        let z = weigh_other is_reading held row other in
        let z_w = weigh_other only_writes held row other in
        subst (λ x. CountsAs (with_held r is_reading held row) (with_held w only_writes held row) x) (sym (at_set_other held.row row (shared held.side o) o opens there other))
        (counts_as _ _ _ _ (at_name row opens) (omega arith) (omega arith) (balances row)))

    pub retained_balances : Balances (with_held r is_reading held) (with_held w only_writes held) (retained_in held opens)
    retained_balances = subst (λ x. Balances (with_held r is_reading held) (with_held w only_writes held) (row_shared held x opens)) (sym there) shared_balances

-- ---- rows keep their order

left_named : (opens : Opens) (d : Stores) (row : List ℕ) (o : Opened) → AreNamed opens → AreNamed (row_left (reach_of opens d) row o).opens
left_named opens d row o named = by (is_unheld o) refl
  where
    by : (b : Bool) → is_unheld o ≡ b → AreNamed (row_left (reach_of opens d) row o).opens
    by true h = rw h (remove_sorted (is_at (slice_cmp nat_cmp row)) (slice_cmp nat_cmp) opens named)
    by false h = rw h (set_named row o opens named)

pub released_named : (opens : Opens) (d : Stores) (held : Held) → AreNamed opens → AreNamed (released (reach_of opens d) held).opens
released_named opens d held named = by (at_name held.row opens)
  where
    by : (x : Option Opened) → AreNamed (row_released (reach_of opens d) held x).opens
    by None = named
    by (Some o) = left_named opens d held.row (left_by held.side o) named

pub retained_named : (held : Held) (opens : Opens) → AreNamed opens → AreNamed (retained_in held opens)
retained_named held opens named = by (at_name held.row opens)
  where
    by : (x : Option Opened) → AreNamed (row_shared held x opens)
    by None = named
    by (Some o) = set_named held.row (shared held.side o) opens named

-- ---- all handles of a list

pub standing_cons : (good : Side → Bool) (row : List ℕ) (x : ℕ × Held) (handles : List (ℕ × Held)) → standing_among good row (x ∷ handles) ≡ weigh good x.1 row + standing_among good row handles
standing_cons good row x handles = sum_by-cons (λ h. weigh good h row) x.1 (values_of handles)

pub all_released_balances : (handles : List (ℕ × Held)) (r w : Total) (opens : Opens) (d : Stores) → AreNamed opens → Balances (with_all r is_reading handles) (with_all w only_writes handles) opens
    → Balances r w (all_released (reach_of opens d) handles).opens
all_released_balances [] r w opens d named b = balances_as _ r _ w opens (λ row. omega arith) (λ row. omega arith) b
all_released_balances (x ∷ handles) r w opens d named b =
    let first = balances_as _ (with_held (with_all r is_reading handles) is_reading x.1) _ (with_held (with_all w only_writes handles) only_writes x.1) opens
    (λ row. let e = standing_cons is_reading row x handles in omega arith) (λ row. let e = standing_cons only_writes row x handles in omega arith) b in
    let gone = released_balances (with_all r is_reading handles) (with_all w only_writes handles) opens x.1 first d named in
    all_released_balances handles r w (released (reach_of opens d) x.1).opens (released (reach_of opens d) x.1).stores (released_named opens d x.1 named) gone

pub all_released_named : (handles : List (ℕ × Held)) (opens : Opens) (d : Stores) → AreNamed opens → AreNamed (all_released (reach_of opens d) handles).opens
all_released_named [] opens d named = named
all_released_named (x ∷ handles) opens d named = all_released_named handles (released (reach_of opens d) x.1).opens (released (reach_of opens d) x.1).stores (released_named opens d x.1 named)

-- the row of the handle is open
abbrev pub IsOpen : Opens → Held → Type 0
IsOpen opens held = IsSome (at_name held.row opens)

some_of : {X : Type 0} (o : Option X) → IsSome o → (x : X) × (o ≡ Some x)
some_of None h = absurd cc
some_of (Some x) h = (x, refl)

still_open : (held other : Held) (opens : Opens) → IsOpen opens other → IsOpen (retained_in held opens) other
still_open held other opens h = by (at_name held.row opens) refl
  where
    by : (x : Option Opened) → at_name held.row opens ≡ x → IsSome (at_name other.row (row_shared held x opens))
    by None none = h
    by (Some o) there = by_name held.row other.row
        (λ e. subst (λ q. IsSome (at_name q (set_name held.row (shared held.side o) opens))) e (ap is_some (at_set_same held.row (shared held.side o) o opens there)))
        (λ different. ap is_some (at_set_other held.row other.row (shared held.side o) o opens there different) ∙ h)

weigh_most : (good : Side → Bool) (held : Held) (row : List ℕ) → weigh good held row ≤ 1
weigh_most good held row = by (stands good row held)
  where
    by : (b : Bool) → cond b 1 0 ≤ 1
    by true = omega arith
    by false = omega arith

pub all_retained_balances : (handles : List (ℕ × Held)) (r w : Total) (opens : Opens) → Balances r w opens → All (IsOpen opens) (values_of handles)
    → ((row : List ℕ) → r row + length handles ≤ most_count) → ((row : List ℕ) → w row + length handles ≤ most_count)
    → Balances (with_all r is_reading handles) (with_all w only_writes handles) (all_retained handles opens)
all_retained_balances [] r w opens b reach few few_w = balances_as r _ w _ opens (λ row. omega arith) (λ row. omega arith) b
all_retained_balances (x ∷ handles) r w opens b reach few few_w =
    let found = some_of (at_name x.1.row opens) (All-head (IsOpen opens) x.1 (values_of handles) reach) in
    let first = retained_balances r w opens x.1 b found.0 found.1 (λ row. let h = few row in omega arith) (λ row. let h = few_w row in omega arith) in
    let still = All-weaker (IsOpen opens) (IsOpen (retained_in x.1 opens)) (λ other h. still_open x.1 other opens h) (values_of handles) (All-tail (IsOpen opens) x.1 (values_of handles) reach) in
    let rest = all_retained_balances handles (with_held r is_reading x.1) (with_held w only_writes x.1) (retained_in x.1 opens) first still
    (λ row. let h = few row in let m = weigh_most is_reading x.1 row in omega arith) (λ row. let h = few_w row in let m = weigh_most only_writes x.1 row in omega arith) in
    balances_as _ _ _ _ (all_retained (x ∷ handles) opens) (λ row. let e = standing_cons is_reading row x handles in omega arith) (λ row. let e = standing_cons only_writes row x handles in omega arith) rest

pub all_retained_named : (handles : List (ℕ × Held)) (opens : Opens) → AreNamed opens → AreNamed (all_retained handles opens)
all_retained_named [] opens named = named
all_retained_named (x ∷ handles) opens named = all_retained_named handles (retained_in x.1 opens) (retained_named x.1 opens named)

-- ---- what isn't open stays so

left_none : (q : List ℕ) (opens : Opens) (d : Stores) (row : List ℕ) (o : Opened) → AreNamed opens → at_name q opens ≡ None → at_name q (row_left (reach_of opens d) row o).opens ≡ None
left_none q opens d row o named none = by (is_unheld o) refl
  where
    dropped : (b : Bool) → cond b None (at_name q opens) ≡ None
    dropped true = refl
    dropped false = none

    by : (b : Bool) → is_unheld o ≡ b → at_name q (row_left (reach_of opens d) row o).opens ≡ None
    by true h = rw h (at_drop row q opens named ∙ dropped (same_numbers row q))
    by false h = rw h (none_after_set row q o opens none)

pub released_none : (q : List ℕ) (opens : Opens) (d : Stores) (held : Held) → AreNamed opens → at_name q opens ≡ None → at_name q (released (reach_of opens d) held).opens ≡ None
released_none q opens d held named none = by (at_name held.row opens)
  where
    by : (x : Option Opened) → at_name q (row_released (reach_of opens d) held x).opens ≡ None
    by None = none
    by (Some o) = left_none q opens d held.row (left_by held.side o) named none

pub all_released_none : (handles : List (ℕ × Held)) (q : List ℕ) (opens : Opens) (d : Stores) → AreNamed opens → at_name q opens ≡ None → at_name q (all_released (reach_of opens d) handles).opens ≡ None
all_released_none [] q opens d named none = none
all_released_none (x ∷ handles) q opens d named none =
    all_released_none handles q (released (reach_of opens d) x.1).opens (released (reach_of opens d) x.1).stores (released_named opens d x.1 named) (released_none q opens d x.1 named none)

pub retained_none : (q : List ℕ) (held : Held) (opens : Opens) → at_name q opens ≡ None → at_name q (retained_in held opens) ≡ None
retained_none q held opens none = by (at_name held.row opens)
  where
    by : (x : Option Opened) → at_name q (row_shared held x opens) ≡ None
    by None = none
    by (Some o) = none_after_set held.row q (shared held.side o) opens none

pub all_retained_none : (handles : List (ℕ × Held)) (q : List ℕ) (opens : Opens) → at_name q opens ≡ None → at_name q (all_retained handles opens) ≡ None
all_retained_none [] q opens none = none
all_retained_none (x ∷ handles) q opens none = all_retained_none handles q (retained_in x.1 opens) (retained_none q x.1 opens none)
