-- Rows by name.
use Rattle.std.proofs.Common.{◌≡◌, refl, sym, ap, ◌∙◌, ℕ, true, false, cond, List, Some, None, is_some, ⊎_elim}
use Rattle.std.proofs.lemmas.Bool.{cases_Bool, cond-true, cond-false}
use Rattle.std.proofs.lemmas.Cmp.{nat_list_cmp_total}
use Rattle.std.proofs.lemmas.Map.{lookup-set_value, lookup-remove_entry}
use Rattle.std.proofs.lemmas.Map.Keys.{IsDistinct-from_sorted}
use Rattle.std.specs.Cmp.{eq_by_cmp_equiv}
use Rattle.std.specs.Cmp.Lexicographic.{slice_cmp, bytes_decides, texts_ties}
use Rattle.std.specs.List.Sorted.{IsStrictlySortedBy}
use Rattle.std.specs.BTreeMap.{is_at}
use Rattle.std.specs.Map.{keys_of}
use Rattle.std.specs.Ordering.{nat_cmp}
use Rattle.ksh_base.specs.Text.{same_numbers}
use Rattle.kernel_tables.proofs.Undone.{put_found}
use Rattle.kernel_objects.specs.Rows.{at_name, set_name, put_name, drop_name}
use Rattle.kernel_laws.proofs.Rows.{insert_apart, none_set}

-- the names of the rows rise
abbrev pub AreNamed : {X : Type 0} → List (List ℕ × X) → Type 0
AreNamed rows = IsStrictlySortedBy (slice_cmp nat_cmp) (keys_of rows)

pub same_itself : (a : List ℕ) → same_numbers a a ≡ true
same_itself a = (bytes_decides a a).1 refl

-- two names are the same or not
pub by_name : {P : Type 0} (a b : List ℕ) → (a ≡ b → P) → (same_numbers a b ≡ false → P) → P
by_name a b same other = ⊎_elim (λ y. same ((bytes_decides a b).0 y)) other (cases_Bool (same_numbers a b))

module _ {X : Type 0} where
  -- what a look-up finds, once a row is there with a value
  pub at_set : (who q : List ℕ) (x y : X) (rows : List (List ℕ × X)) → at_name who rows ≡ Some y → at_name q (set_name who x rows) ≡ cond (same_numbers who q) (Some x) (at_name q rows)
  at_set who q x y rows there =
      lookup-set_value (eq_by_cmp_equiv nat_list_cmp_total) (is_at (slice_cmp nat_cmp who)) ((eq_by_cmp_equiv nat_list_cmp_total).congr who) q x rows (ap is_some there)
      ∙ ap (λ b. cond b (Some x) (at_name q rows)) (sym (texts_ties who q))

  pub at_set_same : (who : List ℕ) (x y : X) (rows : List (List ℕ × X)) → at_name who rows ≡ Some y → at_name who (set_name who x rows) ≡ Some x
  at_set_same who x y rows there = at_set who who x y rows there ∙ cond-true _ _ _ (same_itself who)

  pub at_set_other : (who q : List ℕ) (x y : X) (rows : List (List ℕ × X)) → at_name who rows ≡ Some y → same_numbers who q ≡ false → at_name q (set_name who x rows) ≡ at_name q rows
  at_set_other who q x y rows there other = at_set who q x y rows there ∙ cond-false _ _ _ other

  pub none_after_set : (who q : List ℕ) (x : X) (rows : List (List ℕ × X)) → at_name q rows ≡ None → at_name q (set_name who x rows) ≡ None
  none_after_set who q x rows none = none_set (is_at (slice_cmp nat_cmp who)) (is_at (slice_cmp nat_cmp q)) rows x none

  pub at_put_same : (who : List ℕ) (x : X) (rows : List (List ℕ × X)) → at_name who (put_name who x rows) ≡ Some x
  at_put_same who x rows = put_found (slice_cmp nat_cmp) nat_list_cmp_total rows who x

  pub at_put_other : (who q : List ℕ) (x : X) (rows : List (List ℕ × X)) → same_numbers who q ≡ false → at_name q (put_name who x rows) ≡ at_name q rows
  at_put_other who q x rows other = insert_apart nat_list_cmp_total q who x rows ((eq_by_cmp_equiv nat_list_cmp_total).symm q who ∙ sym (texts_ties who q) ∙ other)

  pub at_drop : (who q : List ℕ) (rows : List (List ℕ × X)) → AreNamed rows → at_name q (drop_name who rows) ≡ cond (same_numbers who q) None (at_name q rows)
  at_drop who q rows named =
      lookup-remove_entry (eq_by_cmp_equiv nat_list_cmp_total) (is_at (slice_cmp nat_cmp who)) ((eq_by_cmp_equiv nat_list_cmp_total).congr who) q rows (IsDistinct-from_sorted (slice_cmp nat_cmp) (keys_of rows) named)
      ∙ ap (λ b. cond b None (at_name q rows)) (sym (texts_ties who q))

  pub at_drop_same : (who : List ℕ) (rows : List (List ℕ × X)) → AreNamed rows → at_name who (drop_name who rows) ≡ None
  at_drop_same who rows named = at_drop who who rows named ∙ cond-true _ _ _ (same_itself who)

  pub at_drop_other : (who q : List ℕ) (rows : List (List ℕ × X)) → AreNamed rows → same_numbers who q ≡ false → at_name q (drop_name who rows) ≡ at_name q rows
  at_drop_other who q rows named other = at_drop who q rows named ∙ cond-false _ _ _ other
