-- What a change of one shell is to the totals.
use Rattle.std.proofs.Common.{◌≡◌, refl, sym, ap, ◌∙◌, subst, ℕ, ◌+◌, ◌*◌, ◌<◌, ◌≤◌, Bool, cond, List, [], ◌∷◌, length, Some, None, Greater, arith, All, is_eq, is_some, true≢false, option_map, unwrap_or, ⊎_elim}
use Rattle.std.proofs.lemmas.Bool.{cases_lt}
use Rattle.std.proofs.lemmas.Cmp.{nat_cmp_total, nat_list_cmp_total}
use Rattle.std.proofs.lemmas.List.Elements.{All-head, All-tail, All-weaker}
use Rattle.std.proofs.lemmas.List.Sums.{count_by-le-length, sum_by-le}
use Rattle.std.proofs.lemmas.Map.Entries.{length-values_of, sum_by-insert_entry, sum_by-remove_entry, sum_by-set_value}
use Rattle.std.specs.BTreeMap.{is_at}
use Rattle.std.specs.Cmp.{nat_cmp_is}
use Rattle.std.specs.Cmp.Lexicographic.{slice_cmp}
use Rattle.std.specs.List.Sorted.{IsStrictlySortedBy}
use Rattle.std.specs.Map.{keys_of, values_of}
use Rattle.std.specs.Ordering.{nat_cmp}
use Rattle.kernel_objects.specs.declared.opened.Held.{Held}
use Rattle.kernel_objects.specs.declared.opened.Side.{Side}
use Rattle.kernel_objects.specs.declared.shell.Shell.{Shell}
use Rattle.kernel_objects.specs.Rows.{at_name, set_name, put_name, at_number, put_number, drop_number}
use Rattle.kernel_laws.specs.Counts.{standing, standing_among, stands}
use Rattle.kernel_laws.proofs.Names.{AreNamed}
use Rattle.kernel_laws.proofs.Weights.{weigh}

abbrev pub Handles : Type 0
Handles = List (ℕ × Held)

abbrev pub Shells : Type 0
Shells = List (List ℕ × Shell)

-- ---- numbers below the next one

pub none_from_below : {X : Type 0} (n : ℕ) (rows : List (ℕ × X)) → All (λ k. k < n) (keys_of rows) → at_number n rows ≡ None
none_from_below n [] a = refl
none_from_below n (e ∷ rows) a =
    let low : e.0 < n = All-head (λ k. k < n) e.0 (keys_of rows) a in
    let above : Greater ≡ nat_cmp n e.0 = nat_cmp_is n e.0 Greater low in
    ap (λ r. cond (is_eq r) (Some e.1) (at_number n rows)) (sym above) ∙ none_from_below n rows (All-tail (λ k. k < n) e.0 (keys_of rows) a)

pub some_is : {X : Type 0} (x : X) → Some x ≡ None → ⊥
some_is x h = true≢false (ap is_some h)

pub below_from_some : {X : Type 0} (n next : ℕ) (rows : List (ℕ × X)) (x : X) → All (λ k. k < next) (keys_of rows) → at_number n rows ≡ Some x → n < next
below_from_some n next rows x a found = ⊎_elim
    (λ l. l)
    (λ l. let none = none_from_below n rows (All-weaker (λ k. k < next) (λ k. k < n) (λ k low. omega arith) (keys_of rows) a) in absurd (some_is x (sym found ∙ none)))
    (cases_lt n next)

-- ---- a handle of a shell

module _ (good : Side → Bool) (row : List ℕ) where
  pub standing_put : (n : ℕ) (held : Held) (handles : Handles) → IsStrictlySortedBy nat_cmp (keys_of handles) → at_number n handles ≡ None
      → standing_among good row (put_number n held handles) ≡ standing_among good row handles + weigh good held row
  standing_put n held handles s none =
      let put = sum_by-insert_entry (λ h. weigh good h row) nat_cmp_total handles n held s in
      let zero : unwrap_or (option_map (λ h. weigh good h row) (at_number n handles)) 0 ≡ 0 = ap (λ o. unwrap_or (option_map (λ h. weigh good h row) o) 0) none in
      omega arith

  pub standing_drop : (n : ℕ) (held : Held) (handles : Handles) → at_number n handles ≡ Some held
      → standing_among good row (drop_number n handles) + weigh good held row ≡ standing_among good row handles
  standing_drop n held handles there =
      let dropped = sum_by-remove_entry (λ h. weigh good h row) (is_at (nat_cmp n)) handles in
      let own : unwrap_or (option_map (λ h. weigh good h row) (at_number n handles)) 0 ≡ weigh good held row = ap (λ o. unwrap_or (option_map (λ h. weigh good h row) o) 0) there in
      omega arith

  pub standing_most : (handles : Handles) → standing_among good row handles ≤ length handles
  standing_most handles = let n = count_by-le-length (stands good row) (values_of handles) in let e = length-values_of handles in omega arith

  -- ---- a shell among all

  pub standing_set : (who : List ℕ) (s s' : Shell) (shells : Shells) → at_name who shells ≡ Some s
      → standing good row (set_name who s' shells) + standing_among good row s.handles ≡ standing good row shells + standing_among good row s'.handles
  standing_set who s s' shells there = sum_by-set_value (λ x. standing_among good row x.handles) (is_at (slice_cmp nat_cmp who)) shells s s' there

  pub standing_added : (who : List ℕ) (s : Shell) (shells : Shells) → AreNamed shells → at_name who shells ≡ None
      → standing good row (put_name who s shells) ≡ standing good row shells + standing_among good row s.handles
  standing_added who s shells named none =
      let put = sum_by-insert_entry (λ x. standing_among good row x.handles) nat_list_cmp_total shells who s named in
      let zero : unwrap_or (option_map (λ x. standing_among good row x.handles) (at_name who shells)) 0 ≡ 0 = ap (λ o. unwrap_or (option_map (λ (x : Shell). standing_among good row x.handles) o) 0) none in
      omega arith

  -- what one shell holds is among all
  pub standing_within : (who : List ℕ) (s : Shell) (shells : Shells) → at_name who shells ≡ Some s → standing_among good row s.handles ≤ standing good row shells
  standing_within who s shells there =
      let rest = sum_by-remove_entry (λ x. standing_among good row x.handles) (is_at (slice_cmp nat_cmp who)) shells in
      let own : unwrap_or (option_map (λ x. standing_among good row x.handles) (at_name who shells)) 0 ≡ standing_among good row s.handles = ap (λ o. unwrap_or (option_map (λ (x : Shell). standing_among good row x.handles) o) 0) there in
      omega arith

  -- each shell holds few
  pub standing_few : (most : ℕ) (shells : Shells) → All (λ s. length s.handles ≤ most) (values_of shells) → standing good row shells ≤ length shells * most
  standing_few most shells a =
      let n = sum_by-le (λ (x : Shell). standing_among good row x.handles) most (values_of shells) (All-weaker (λ (s : Shell). length s.handles ≤ most) (λ s. standing_among good row s.handles ≤ most) (λ s h. let m = standing_most s.handles in omega arith) (values_of shells) a) in
      let e = length-values_of shells in
      subst (λ l. standing good row shells ≤ l * most) e n
