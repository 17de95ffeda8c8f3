-- What a shell takes and gives up.
use Rattle.std.proofs.Common.{◌≡◌, refl, sym, ap, ◌∙◌, subst, ℕ, suc, ◌+◌, ◌<◌, ◌≤◌, ◌||◌, Bool, true, false, List, [], length, Some, None, arith, true≢false, nat_lt}
use Rattle.std.proofs.lemmas.Bool.Decides.{nat_tests}
use Rattle.std.proofs.lemmas.Cmp.{nat_cmp_total, nat_list_cmp_total}
use Rattle.std.proofs.lemmas.List.Elements.{All-nil, All-weaker}
use Rattle.std.proofs.lemmas.Map.Views.{All-keys-insert_entry, All-map-remove_entry}
use Rattle.std.specs.BTreeMap.{is_at}
use Rattle.std.specs.List.Sorted.{IsStrictlySortedBy}
use Rattle.std.specs.Map.{keys_of}
use Rattle.std.specs.Ordering.{nat_cmp}
use Rattle.ksh_base.specs.Text.{same_numbers}
use Rattle.kernel_objects.specs.declared.opened.Held.{Held}
use Rattle.kernel_objects.specs.declared.opened.Opened.{Opened}
use Rattle.kernel_objects.specs.declared.opened.Side.{Side}
use Rattle.kernel_objects.specs.declared.opened.Side.TheVariants.{Reads, Writes}
use Rattle.kernel_objects.specs.declared.opened.Stream.{Stream}
use Rattle.kernel_objects.specs.declared.shell.Shell.{Shell}
use Rattle.kernel_objects.specs.Rows.{at_name, set_name, put_name, at_number, drop_number}
use Rattle.kernel_objects.specs.Shells.{given}
use Rattle.kernel_core.specs.declared.kernel.Stores.{Stores}
use Rattle.kernel_core.specs.Handles.{all_released, handle, is_reading, lacks_handles, reach_of, released, retained_in}
use Rattle.kernel_core.specs.Limits.{most_count}
use Rattle.kernel_core.specs.Open.{next_row, row_for, row_of_two, with_one, with_two}
use Rattle.kernel_laws.specs.Counts.{CountsAs, only_writes, standing, standing_among}
use Rattle.kernel_laws.proofs.Balance.{Balances, Opens, Total, all_released_balances, all_released_named, all_released_none, balances_as, held_open, released_balances, released_named, released_none, retained_balances, retained_named, retained_none, with_all, with_held}
use Rattle.kernel_laws.proofs.Names.{at_put_other, at_put_same, by_name}
use Rattle.kernel_laws.proofs.Rows.{insert_length, insert_sorted, remove_length, remove_sorted}
use Rattle.kernel_laws.proofs.Shells.{Shells, none_from_below, standing_drop, standing_put, standing_set, standing_within}
use Rattle.kernel_laws.proofs.Sound.{Sound, SoundShell, changed_rows, changed_sound, entered_rows, far_from_end, next_in, reading, shell_sound, writing}
use Rattle.kernel_laws.proofs.Weights.{counts_as, counts_new, one, weigh, weigh_other, weigh_own}

first_false : (a b : Bool) → (a || b) ≡ false → a ≡ false
first_false true b h = absurd (true≢false h)
first_false false b h = refl

pub second_false : (a b : Bool) → (a || b) ≡ false → b ≡ false
second_false true b h = absurd (true≢false h)
second_false false b h = h

-- there is room for that many handles
pub record Room (s : Shell) (n : ℕ) : Type 0 where
  pub numbers : s.next + n ≤ 4294967296
  pub many : length s.handles + n ≤ 1024

pub room_for : (s : Shell) (n : ℕ) → lacks_handles s n ≡ false → Room s n
room_for s n h =
    let a : nat_lt 1024 (length s.handles + n) ≡ false = first_false (nat_lt 1024 (length s.handles + n)) (nat_lt 4294967296 (s.next + n)) h in
    let b : nat_lt 4294967296 (s.next + n) ≡ false = second_false (nat_lt 1024 (length s.handles + n)) (nat_lt 4294967296 (s.next + n)) h in
    let few : length s.handles + n ≤ 1024 = grind (arith, nat_tests) in
    let low : s.next + n ≤ 4294967296 = grind (arith, nat_tests) in
    record { numbers = low; many = few }

-- ---- a shell with a handle more, and with one less

pub given_more : (s : Shell) (held : Held) → SoundShell s → length (given s held).handles ≡ suc (length s.handles)
given_more s held sound = insert_length nat_cmp_total s.handles s.next held (none_from_below s.next s.handles sound.handles_below)

pub given_sound : (s : Shell) (held : Held) → SoundShell s → s.live ≡ true → Room s 1 → SoundShell (given s held)
given_sound s held sound live space = record {
  handles_rise = insert_sorted nat_cmp_total s.handles s.next held sound.handles_rise;
  handles_below = All-keys-insert_entry nat_cmp s.next held (λ n. n < s.next + 1) s.handles (All-weaker (λ n. n < s.next) (λ n. n < s.next + 1) (λ n l. omega arith) (keys_of s.handles) sound.handles_below) (omega arith);
  next_low = space.numbers;
  held_few = let e = given_more s held sound in let m = space.many in omega arith;
  started_low = sound.started_low;
  forks_below = sound.forks_below;
  ended = λ over. absurd (true≢false (sym live ∙ over));
}

pub standing_given : (good : Side → Bool) (row : List ℕ) (s : Shell) (held : Held) → SoundShell s → standing_among good row (given s held).handles ≡ standing_among good row s.handles + weigh good held row
standing_given good row s held sound = standing_put good row s.next held s.handles sound.handles_rise (none_from_below s.next s.handles sound.handles_below)

pub without_sound : (s : Shell) (n : ℕ) → SoundShell s → s.live ≡ true → SoundShell (record s { handles = drop_number n s.handles })
without_sound s n sound live = record {
  handles_rise = remove_sorted (is_at (nat_cmp n)) nat_cmp s.handles sound.handles_rise;
  handles_below = All-map-remove_entry (is_at (nat_cmp n)) (λ e. e.0) (λ k. k < s.next) s.handles sound.handles_below;
  next_low = sound.next_low;
  held_few = let l = remove_length (is_at (nat_cmp n)) s.handles in let f = sound.held_few in omega arith;
  started_low = sound.started_low;
  forks_below = sound.forks_below;
  ended = λ over. absurd (true≢false (sym live ∙ over));
}

pub none_rise : IsStrictlySortedBy nat_cmp []
unfolding IsStrictlySortedBy
none_rise = tt

-- ---- a row that was not open

pub new_row : (r w r' w' : Total) (opens : Opens) (row : List ℕ) (o : Opened) → Balances r w opens → at_name row opens ≡ None → (r row ≡ 0 → w row ≡ 0 → CountsAs (r' row) (w' row) (Some o))
    → ((q : List ℕ) → same_numbers row q ≡ false → r q ≡ r' q) → ((q : List ℕ) → same_numbers row q ≡ false → w q ≡ w' q) → Balances r' w' (put_name row o opens)
new_row r w r' w' opens row o b none new other other_w q = by_name row q
    (λ e.
    let c = subst (λ x. CountsAs (r row) (w row) x) none (b row) in
    subst (λ q. CountsAs (r' q) (w' q) (at_name q (put_name row o opens))) e (subst (λ x. CountsAs (r' row) (w' row) x) (sym (at_put_same row o opens)) (new c.0 c.1)))
    (λ different. subst (λ x. CountsAs (r' q) (w' q) x) (sym (at_put_other row q o opens different)) (counts_as (r q) (r' q) (w q) (w' q) (at_name q opens) (other q different) (other_w q different) (b q)))

module _ (shells : Shells) (opens : Opens) (sound : Sound shells opens) (who : List ℕ) (s : Shell) (there : at_name who shells ≡ Some s) (live : s.live ≡ true) where
  own : SoundShell s
  own = shell_sound shells who s sound.each there

  pub row_is_new : at_name (next_row who s) opens ≡ None
  row_is_new = sound.rows_new who s.next (let e = ap next_in there in omega arith)

  -- what the change is to the totals
  total_changed : (good : Side → Bool) (s' : Shell) (more : ℕ) (row : List ℕ) → standing_among good row s'.handles ≡ standing_among good row s.handles + more
      → standing good row (set_name who s' shells) ≡ standing good row shells + more
  total_changed good s' more row e = let t = standing_set good row who s s' shells there in omega arith

  pub entered_one : (side : Side) (stream : Stream) → Room s 1 → Sound (set_name who (with_one who s side) shells) (put_name (next_row who s) (row_for side stream) opens)
  entered_one side stream space =
      let held : Held = handle side (next_row who s) in
      let s' : Shell = with_one who s side in
      let total : (good : Side → Bool) (row : List ℕ) → standing good row (set_name who s' shells) ≡ standing good row shells + weigh good held row = λ good row. total_changed good s' (weigh good held row) row (standing_given good row s held own) in
      changed_sound shells opens sound who s s' there (put_name (next_row who s) (row_for side stream) opens) (given_sound s held own live space) (omega arith)
      (insert_sorted nat_list_cmp_total opens (next_row who s) (row_for side stream) sound.opens_named)
      (new_row (reading shells) (writing shells) (reading (set_name who s' shells)) (writing (set_name who s' shells)) opens (next_row who s) (row_for side stream) sound.balances row_is_new
      (λ z z_w. counts_as (one is_reading side) _ (one only_writes side) _ (Some (row_for side stream))
      (let t = total is_reading (next_row who s) in let m = weigh_own is_reading held in omega arith)
      (let t = total only_writes (next_row who s) in let m = weigh_own only_writes held in omega arith)
      (counts_new side stream))
      (λ q other. let t = total is_reading q in let z = weigh_other is_reading held q other in omega arith)
      (λ q other. let t = total only_writes q in let z = weigh_other only_writes held q other in omega arith))
      (entered_rows shells opens sound who s s' there (row_for side stream) (omega arith))

  pub entered_two : (stream : Stream) → Room s 2 → Sound (set_name who (with_two who s) shells) (put_name (next_row who s) (row_of_two stream) opens)
  entered_two stream space =
      let read : Held = handle Reads (next_row who s) in
      let write : Held = handle Writes (next_row who s) in
      let low = space.numbers in
      let few = space.many in
      let more = given_more s read own in
      let first = given_sound s read own live (record { numbers = omega arith; many = omega arith }) in
      let s' : Shell = with_two who s in
      let total : (good : Side → Bool) (row : List ℕ) → standing good row (set_name who s' shells) ≡ standing good row shells + (weigh good read row + weigh good write row) =
      λ good row. total_changed good s' (weigh good read row + weigh good write row) row
      (let a = standing_given good row s read own in let b = standing_given good row (given s read) write first in omega arith) in
      changed_sound shells opens sound who s s' there (put_name (next_row who s) (row_of_two stream) opens) (given_sound (given s read) write first live (record { numbers = omega arith; many = omega arith })) (omega arith)
      (insert_sorted nat_list_cmp_total opens (next_row who s) (row_of_two stream) sound.opens_named)
      (new_row (reading shells) (writing shells) (reading (set_name who s' shells)) (writing (set_name who s' shells)) opens (next_row who s) (row_of_two stream) sound.balances row_is_new
      (λ z z_w. counts_as 1 _ 1 _ (Some (row_of_two stream))
      (let t = total is_reading (next_row who s) in let m = weigh_own is_reading read in let n = weigh_own is_reading write in omega arith)
      (let t = total only_writes (next_row who s) in let m = weigh_own only_writes read in let n = weigh_own only_writes write in omega arith)
      (refl, refl, omega arith))
      (λ q other. let t = total is_reading q in let y = weigh_other is_reading read q other in let z = weigh_other is_reading write q other in omega arith)
      (λ q other. let t = total only_writes q in let y = weigh_other only_writes read q other in let z = weigh_other only_writes write q other in omega arith))
      (entered_rows shells opens sound who s s' there (row_of_two stream) (omega arith))

  -- ---- a handle that is held

  module _ (n : ℕ) (held : Held) (has : at_number n s.handles ≡ Some held) where
    pub held_row : (o : Opened) × (at_name held.row opens ≡ Some o)
    held_row = held_open (reading shells) (writing shells) opens held sound.balances
        (let a = standing_drop is_reading held.row n held s.handles has in let b = standing_within is_reading held.row who s shells there in let m = weigh_own is_reading held in omega arith)
        (let a = standing_drop only_writes held.row n held s.handles has in let b = standing_within only_writes held.row who s shells there in let m = weigh_own only_writes held in omega arith)

    pub dup_sound : Room s 1 → Sound (set_name who (given s held) shells) (retained_in held opens)
    dup_sound space =
        let few : (row : List ℕ) → reading shells row + 1 ≤ most_count = λ row. let f = far_from_end is_reading shells row sound.few sound.each in omega arith in
        let few_w : (row : List ℕ) → writing shells row + 1 ≤ most_count = λ row. let f = far_from_end only_writes shells row sound.few sound.each in omega arith in
        let total : (good : Side → Bool) (row : List ℕ) → standing good row shells + weigh good held row ≡ standing good row (set_name who (given s held) shells) = λ good row. sym (total_changed good (given s held) (weigh good held row) row (standing_given good row s held own)) in
        let b = retained_balances (reading shells) (writing shells) opens held sound.balances held_row.0 held_row.1 few few_w in
        changed_sound shells opens sound who s (given s held) there (retained_in held opens) (given_sound s held own live space) (omega arith) (retained_named held opens sound.opens_named)
        (balances_as _ _ _ _ (retained_in held opens) (total is_reading) (total only_writes) b)
        (changed_rows shells opens sound who s (given s held) there (retained_in held opens) (omega arith) (λ q none. retained_none q held opens none))

    pub close_sound : (d : Stores) → Sound (set_name who (record s { handles = drop_number n s.handles }) shells) (released (reach_of opens d) held).opens
    close_sound d =
        let s' : Shell = record s { handles = drop_number n s.handles } in
        let total : (good : Side → Bool) (row : List ℕ) → standing good row shells ≡ standing good row (set_name who s' shells) + weigh good held row =
        λ good row. let t = standing_set good row who s s' shells there in let a = standing_drop good row n held s.handles has in omega arith in
        let b = balances_as (reading shells) (with_held (reading (set_name who s' shells)) is_reading held) (writing shells) (with_held (writing (set_name who s' shells)) only_writes held) opens (total is_reading) (total only_writes) sound.balances in
        let gone = released_balances (reading (set_name who s' shells)) (writing (set_name who s' shells)) opens held b d sound.opens_named in
        changed_sound shells opens sound who s s' there (released (reach_of opens d) held).opens (without_sound s n own live) (omega arith) (released_named opens d held sound.opens_named) gone
        (changed_rows shells opens sound who s s' there (released (reach_of opens d) held).opens (omega arith) (λ q none. released_none q opens d held sound.opens_named none))

  -- ---- the end of the shell

  over_sound : SoundShell (record s { live = false; handles = [] })
  over_sound = record {
    handles_rise = none_rise;
    handles_below = All-nil (λ n. n < s.next);
    next_low = own.next_low;
    held_few = omega arith;
    started_low = own.started_low;
    forks_below = own.forks_below;
    ended = λ e. refl;
  }

  pub end_sound : (d : Stores) → Sound (set_name who (record s { live = false; handles = [] }) shells) (all_released (reach_of opens d) s.handles).opens
  end_sound d =
      let s' : Shell = record s { live = false; handles = [] } in
      let total : (good : Side → Bool) (row : List ℕ) → standing good row shells ≡ standing good row (set_name who s' shells) + standing_among good row s.handles =
      λ good row. let t = standing_set good row who s s' shells there in omega arith in
      let b = balances_as (reading shells) (with_all (reading (set_name who s' shells)) is_reading s.handles) (writing shells) (with_all (writing (set_name who s' shells)) only_writes s.handles) opens (total is_reading) (total only_writes) sound.balances in
      let gone = all_released_balances s.handles (reading (set_name who s' shells)) (writing (set_name who s' shells)) opens d sound.opens_named b in
      changed_sound shells opens sound who s s' there (all_released (reach_of opens d) s.handles).opens over_sound (omega arith) (all_released_named s.handles opens d sound.opens_named) gone
      (changed_rows shells opens sound who s s' there (all_released (reach_of opens d) s.handles).opens (omega arith) (λ q none. all_released_none s.handles q opens d sound.opens_named none))
