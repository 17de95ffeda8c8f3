-- A box opens as such a kernel.
use Rattle.std.proofs.Common.{◌≡◌, refl, sym, ◌∙◌, subst, ℕ, ◌+◌, ◌<◌, ◌≤◌, Bool, false, List, [], ◌∷◌, ◌++◌, None, arith, true≢false}
use Rattle.std.proofs.lemmas.Cmp.{nat_cmp_total, nat_list_cmp_total}
use Rattle.std.proofs.lemmas.List.{same_from_push}
use Rattle.std.proofs.lemmas.List.Elements.{All-nil, All-cons}
use Rattle.std.specs.List.Sorted.{IsStrictlySortedBy}
use Rattle.ksh_base.specs.Text.{same_numbers}
use Rattle.kernel_objects.specs.declared.opened.Opened.{Opened}
use Rattle.kernel_objects.specs.declared.opened.Side.{Side}
use Rattle.kernel_objects.specs.declared.opened.Side.TheVariants.{Reads, Writes}
use Rattle.kernel_objects.specs.declared.opened.Stream.TheVariants.{Input, Output, Errors}
use Rattle.kernel_objects.specs.declared.shell.Shell.{Shell}
use Rattle.kernel_objects.specs.Rows.{at_name, put_name, put_number}
use Rattle.kernel_core.specs.Forks.{forks_in}
use Rattle.kernel_core.specs.Handles.{handle, is_reading}
use Rattle.kernel_core.specs.Open.{row_for}
use Rattle.kernel_core.specs.Opening.{opening_rows, root_shell}
use Rattle.kernel_laws.specs.Counts.{CountsAs, only_writes, standing}
use Rattle.kernel_laws.proofs.Balance.{Balances}
use Rattle.kernel_laws.proofs.Moves.{none_rise}
use Rattle.kernel_laws.proofs.Names.{AreNamed, at_put_other, by_name}
use Rattle.kernel_laws.proofs.Rows.{insert_sorted}
use Rattle.kernel_laws.proofs.Shells.{Shells}
use Rattle.kernel_laws.proofs.Sound.{Sound, SoundShell, next_in, reading, writing}
use Rattle.kernel_laws.proofs.Weights.{weigh, weigh_other}

no_names : (X : Type 0) → AreNamed {X = X} []
unfolding IsStrictlySortedBy
no_names X = tt

abbrev root_alone : Shells
root_alone = ([], root_shell) ∷ []

abbrev number : ℕ → List ℕ
number n = n ∷ []

-- the rows are what their puts make of none
rows_are : put_name (number 0) (row_for Reads (Input 0)) (put_name (number 1) (row_for Writes Output) (put_name (number 2) (row_for Writes Errors) [])) ≡ opening_rows
rows_are = refl

other_row : (q : List ℕ) → same_numbers (number 0) q ≡ false → same_numbers (number 1) q ≡ false → same_numbers (number 2) q ≡ false → at_name q opening_rows ≡ None
other_row q a b c =
    at_put_other (number 0) q (row_for Reads (Input 0)) (put_name (number 1) (row_for Writes Output) (put_name (number 2) (row_for Writes Errors) [])) a
    ∙ at_put_other (number 1) q (row_for Writes Output) (put_name (number 2) (row_for Writes Errors) []) b
    ∙ at_put_other (number 2) q (row_for Writes Errors) [] c

other_total : (good : Side → Bool) (q : List ℕ) → same_numbers (number 0) q ≡ false → same_numbers (number 1) q ≡ false → same_numbers (number 2) q ≡ false → standing good q root_alone ≡ 0
other_total good q a b c =
    let x = weigh_other good (handle Reads (number 0)) q a in
    let y = weigh_other good (handle Writes (number 1)) q b in
    let z = weigh_other good (handle Writes (number 2)) q c in
    let t : standing good q root_alone ≡ 0 + (0 + weigh good (handle Reads (number 0)) q + weigh good (handle Writes (number 1)) q + weigh good (handle Writes (number 2)) q) = refl in
    omega arith

balances : Balances (reading root_alone) (writing root_alone) opening_rows
balances q =
    let goal : List ℕ → Type 0 = λ q. CountsAs (reading root_alone q) (writing root_alone q) (at_name q opening_rows) in
    by_name (number 0) q
    (λ e. subst goal e (refl, refl, omega arith))
    (λ a. by_name (number 1) q
    (λ e. subst goal e (refl, refl, omega arith))
    (λ b. by_name (number 2) q
    (λ e. subst goal e (refl, refl, omega arith))
    (λ c. subst (λ x. CountsAs (reading root_alone q) (writing root_alone q) x) (sym (other_row q a b c)) (other_total is_reading q a b c, other_total only_writes q a b c))))

named : AreNamed opening_rows
named =
    insert_sorted nat_list_cmp_total (put_name (number 1) (row_for Writes Output) (put_name (number 2) (row_for Writes Errors) [])) (number 0) (row_for Reads (Input 0))
    (insert_sorted nat_list_cmp_total (put_name (number 2) (row_for Writes Errors) []) (number 1) (row_for Writes Output)
    (insert_sorted nat_list_cmp_total [] (number 2) (row_for Writes Errors) (no_names Opened)))

root_sound : SoundShell root_shell
root_sound = record {
  handles_rise = insert_sorted nat_cmp_total (put_number 1 (handle Writes (number 1)) (put_number 2 (handle Writes (number 2)) [])) 0 (handle Reads (number 0)) (insert_sorted nat_cmp_total (put_number 2 (handle Writes (number 2)) []) 1 (handle Writes (number 1)) (insert_sorted nat_cmp_total [] 2 (handle Writes (number 2)) none_rise));
  handles_below = All-cons (λ n. n < 3) 0 (1 ∷ 2 ∷ []) (omega arith) (All-cons (λ n. n < 3) 1 (2 ∷ []) (omega arith) (All-cons (λ n. n < 3) 2 [] (omega arith) (All-nil (λ n. n < 3))));
  next_low = omega arith;
  held_few = omega arith;
  started_low = omega arith;
  forks_below = All-nil (λ n. n < 1);
  ended = λ over. absurd (true≢false over);
}

-- a name of a row of another shell is longer
apart : (w : List ℕ) (n m : ℕ) → next_in (at_name w root_alone) ≤ n → m < 3 → number m ≡ w ++ n ∷ [] → ⊥
apart w n m l low e =
    let parts = same_from_push [] w m n e in
    let a : 3 ≤ n = subst (λ q. next_in (at_name q root_alone) ≤ n) (sym parts.0) l in
    let b = parts.1 in
    omega arith

rows_new : (w : List ℕ) (n : ℕ) → next_in (at_name w root_alone) ≤ n → at_name (w ++ n ∷ []) opening_rows ≡ None
rows_new w n l = by_name (number 0) (w ++ n ∷ [])
    (λ e. absurd (apart w n 0 l (omega arith) e))
    (λ a. by_name (number 1) (w ++ n ∷ [])
    (λ e. absurd (apart w n 1 l (omega arith) e))
    (λ b. by_name (number 2) (w ++ n ∷ [])
    (λ e. absurd (apart w n 2 l (omega arith) e))
    (λ c. other_row (w ++ n ∷ []) a b c)))

names_new : (w : List ℕ) (n : ℕ) → forks_in (at_name w root_alone) < n → at_name (w ++ n ∷ []) root_alone ≡ None
names_new [] n l = refl
names_new (x ∷ w) n l = refl

pub opening_sound : Sound root_alone opening_rows
opening_sound = record {
  balances = balances;
  shells_named = insert_sorted nat_list_cmp_total [] [] root_shell (no_names Shell);
  opens_named = named;
  few = omega arith;
  each = All-cons SoundShell root_shell [] root_sound (All-nil SoundShell);
  rows_new = rows_new;
  names_new = names_new;
}
