-- A fork leads from such a kernel to one.
use Rattle.std.proofs.Common.{◌≡◌, refl, sym, ap, ◌∙◌, subst, ℕ, suc, ◌+◌, ◌<◌, ◌≤◌, ◌||◌, Bool, true, false, List, [], ◌∷◌, ◌++◌, length, Option, Some, None, arith, All, IsSome, is_some, true≢false, if◌then◌else◌, nat_le, length-append}
use Rattle.std.proofs.lemmas.Bool.Decides.{nat_tests}
use Rattle.std.proofs.lemmas.Cmp.{nat_cmp_total, nat_list_cmp_total}
use Rattle.std.proofs.lemmas.List.{same_from_push}
use Rattle.std.proofs.lemmas.List.Elements.{All-contains, All-nil, All-weaker}
use Rattle.std.proofs.lemmas.Map.{length-set_value}
use Rattle.std.proofs.lemmas.Map.Entries.{length-keys_of}
use Rattle.std.proofs.lemmas.Map.Keys.{IsDistinct-from_sorted}
use Rattle.std.proofs.lemmas.Map.Lookups.{exact_unsigned}
use Rattle.std.proofs.lemmas.Map.Steps.{length-le_from_keys}
use Rattle.std.proofs.lemmas.Map.Views.{All-keys-insert_entry, All-values-insert_entry, Contains-from_any, tells_apart}
use Rattle.std.specs.Cmp.{eq_by_cmp_equiv}
use Rattle.std.specs.Ordering.{eq_by_cmp}
use Rattle.std.specs.BTreeMap.{is_at}
use Rattle.std.specs.Cmp.Lexicographic.{slice_cmp}
use Rattle.std.specs.List.Sorted.{IsStrictlySortedBy}
use Rattle.std.specs.Map.{keys_of, values_of}
use Rattle.std.specs.Ordering.{nat_cmp}
use Rattle.kernel_ask.specs.declared.ask.Handle.{Handle}
use Rattle.kernel_ask.specs.declared.ask.Phase.TheVariants.{Made}
use Rattle.kernel_objects.specs.declared.opened.Held.{Held}
use Rattle.kernel_objects.specs.declared.opened.Side.{Side}
use Rattle.kernel_objects.specs.declared.shell.Shell.{Shell}
use Rattle.kernel_objects.specs.Rows.{at_name, set_name, put_name, at_number, put_number}
use Rattle.kernel_core.specs.declared.kernel.Kernel.{Kernel}
use Rattle.kernel_core.specs.Forks.{all_retained, fork_kept, fork_turn, forked_with, forks_in, kept_from, kept_one, shell_with, with_fork}
use Rattle.kernel_core.specs.Handles.{is_reading}
use Rattle.kernel_core.specs.Limits.{most_number, most_shells}
use Rattle.kernel_core.specs.Open.{too_many}
use Rattle.kernel_laws.specs.Counts.{only_writes, standing, standing_among}
use Rattle.kernel_laws.proofs.Balance.{Balances, IsOpen, Opens, all_retained_balances, all_retained_named, all_retained_none, balances_as, with_all}
use Rattle.kernel_laws.proofs.Moves.{held_row, none_rise}
use Rattle.kernel_laws.proofs.Names.{at_put_other, at_put_same, at_set_same, by_name, none_after_set}
use Rattle.kernel_laws.proofs.Rows.{insert_length, insert_sorted}
use Rattle.kernel_laws.proofs.Shells.{Handles, Shells, below_from_some, none_from_below, standing_added}
use Rattle.kernel_laws.proofs.Sound.{Sound, SoundShell, far_from_end, next_in, reading, same_handles, shell_sound, writing}
use Rattle.kernel_laws.proofs.Turns.{Keeps, by_shell_keeps, room, unless_keeps}

-- ---- the handles that are kept

-- rows by rising numbers, each a number of the parent's, and open
record Kept (s : Shell) (opens : Opens) (handles : Handles) : Type 0 where
  rise : IsStrictlySortedBy nat_cmp (keys_of handles)
  below : All (λ n. n < s.next) (keys_of handles)
  held : All (λ n. IsSome (at_number n s.handles)) (keys_of handles)
  reach : All (IsOpen opens) (values_of handles)

module _ (opens : Opens) (s : Shell) (own : SoundShell s) (reach : (n : ℕ) (held : Held) → at_number n s.handles ≡ Some held → IsOpen opens held) where
  kept_more : (n : ℕ) (held : Held) (kept : Handles) → at_number n s.handles ≡ Some held → Kept s opens kept → Kept s opens (put_number n held kept)
  kept_more n held kept has k = record {
    rise = insert_sorted nat_cmp_total kept n held k.rise;
    below = All-keys-insert_entry nat_cmp n held (λ m. m < s.next) kept k.below (below_from_some n s.next s.handles held own.handles_below has);
    held = All-keys-insert_entry nat_cmp n held (λ m. IsSome (at_number m s.handles)) kept k.held (ap is_some has);
    reach = All-values-insert_entry nat_cmp n held (IsOpen opens) kept k.reach (reach n held has);
  }

  kept_sound : (hs : List Handle) (kept handles : Handles) → Kept s opens kept → kept_from s.handles hs kept ≡ Some handles → Kept s opens handles
  kept_sound [] kept handles k e = subst (Kept s opens) (let same : kept ≡ handles = cc in same) k
  kept_sound (h ∷ hs) kept handles k e = by (at_number h.0 s.handles) refl (λ more m f. kept_sound hs more handles m f) e
    where
      by : (x : Option Held) → at_number h.0 s.handles ≡ x → ((more : Handles) → Kept s opens more → kept_from s.handles hs more ≡ Some handles → Kept s opens handles)
          → (if is_some x then kept_from s.handles hs (kept_one h.0 x kept) else None) ≡ Some handles → Kept s opens handles
      by None has rest f = absurd (true≢false (sym (ap is_some f)))
      by (Some held) has rest f = rest (put_number h.0 held kept) (kept_more h.0 held kept has k) f

-- they are no more than the parent's
kept_few : (s : Shell) (opens : Opens) (handles : Handles) → Kept s opens handles → length handles ≤ length s.handles
kept_few s opens handles kept =
    let exact : (x y : ℕ) → eq_by_cmp nat_cmp x y ≡ true → x ≡ y = tells_apart exact_unsigned in
    let n = length-le_from_keys (eq_by_cmp_equiv nat_cmp_total) (keys_of handles) s.handles (IsDistinct-from_sorted nat_cmp (keys_of handles) kept.rise)
    (λ q among. All-contains (λ m. IsSome (at_number m s.handles)) (keys_of handles) q kept.held (Contains-from_any exact q (keys_of handles) among)) in
    let e = length-keys_of handles in
    omega arith

-- ---- the parent

module _ (s : Shell) (own : SoundShell s) (name : List ℕ) where
  fork_free : at_number (length s.forks + 1) s.forks ≡ None
  fork_free = none_from_below (length s.forks + 1) s.forks own.forks_below

  forks_more : length (with_fork s (length s.forks + 1) name).forks ≡ length s.forks + 1
  forks_more = insert_length nat_cmp_total s.forks (length s.forks + 1) (record { name = name; phase = Made }) fork_free ∙ add_one (length s.forks)
    where
      add_one : (n : ℕ) → suc n ≡ n + 1
      add_one n = omega arith

  parent_sound : SoundShell (with_fork s (length s.forks + 1) name)
  parent_sound = record {
    handles_rise = own.handles_rise;
    handles_below = own.handles_below;
    next_low = own.next_low;
    held_few = own.held_few;
    started_low = own.started_low;
    forks_below = subst (λ l. All (λ n. n < l + 1) (keys_of (with_fork s (length s.forks + 1) name).forks)) (sym forks_more)
        (All-keys-insert_entry nat_cmp (length s.forks + 1) (record { name = name; phase = Made }) (λ n. n < length s.forks + 1 + 1) s.forks
        (All-weaker (λ n. n < length s.forks + 1) (λ n. n < length s.forks + 1 + 1) (λ n l. omega arith) (keys_of s.forks) own.forks_below) (omega arith));
    ended = own.ended;
  }

child_sound : (s : Shell) (opens : Opens) (handles : Handles) → SoundShell s → Kept s opens handles → SoundShell (shell_with s.next handles)
child_sound s opens handles own kept = record {
  handles_rise = kept.rise;
  handles_below = kept.below;
  next_low = own.next_low;
  held_few = let n = kept_few s opens handles kept in let m = own.held_few in omega arith;
  started_low = omega arith;
  forks_below = All-nil (λ n. n < 1);
  ended = λ over. absurd (true≢false over);
}

longer : (a : List ℕ) (n : ℕ) → a ≡ a ++ n ∷ [] → ⊥
longer a n e = let l = ap length e in let m : length (a ++ n ∷ []) ≡ length a + 1 = length-append a (n ∷ []) in omega arith

-- ---- a new shell among the shells

module _ (shells : Shells) (opens : Opens) (sound : Sound shells opens) (who : List ℕ) (n : ℕ) (s : Shell) (own : SoundShell s) (handles : Handles) (kept : Kept s opens handles) (fits : length shells < 4096) (forked : forks_in (at_name who shells) ≡ n)
    (free : at_name (who ++ n ∷ []) shells ≡ None) where
  abbrev child : List ℕ
  child = who ++ n ∷ []

  abbrev grown : Shells
  grown = put_name (who ++ n ∷ []) (shell_with s.next handles) shells

  grown_total : (good : Side → Bool) (row : List ℕ) → standing good row shells + standing_among good row handles ≡ standing good row grown
  grown_total good row = sym (standing_added good row child (shell_with s.next handles) shells sound.shells_named free)

  grown_balances : Balances (reading grown) (writing grown) (all_retained handles opens)
  grown_balances =
      let few = let n = kept_few s opens handles kept in let m = own.held_few in (let f : length handles ≤ 1024 = omega arith in f) in
      balances_as (with_all (reading shells) is_reading handles) (reading grown) (with_all (writing shells) only_writes handles) (writing grown) (all_retained handles opens) (grown_total is_reading) (grown_total only_writes)
      (all_retained_balances handles (reading shells) (writing shells) opens sound.balances kept.reach
      (λ row. let f = far_from_end is_reading shells row sound.few sound.each in omega arith)
      (λ row. let f = far_from_end only_writes shells row sound.few sound.each in omega arith))

  grown_rows : (w : List ℕ) (m : ℕ) → next_in (at_name w grown) ≤ m → at_name (w ++ m ∷ []) (all_retained handles opens) ≡ None
  grown_rows w m l = all_retained_none handles (w ++ m ∷ []) opens (by_name child w
      (λ e. subst (λ q. at_name (q ++ m ∷ []) opens ≡ None) e (sound.rows_new child m (let z = ap next_in free in omega arith)))
      (λ other. sound.rows_new w m (let e = ap next_in (at_put_other child w (shell_with s.next handles) shells other) in omega arith)))

  grown_names : (w : List ℕ) (m : ℕ) → forks_in (at_name w grown) < m → at_name (w ++ m ∷ []) grown ≡ None
  grown_names w m l = by_name child w
      (λ e. by_name child (w ++ m ∷ [])
      (λ f. absurd (longer w m (sym e ∙ f)))
      (λ apart. at_put_other child (w ++ m ∷ []) (shell_with s.next handles) shells apart ∙ subst (λ q. at_name (q ++ m ∷ []) shells ≡ None) e
      (sound.names_new child m (let z = ap forks_in free in let y : forks_in (at_name child grown) < m = subst (λ q. forks_in (at_name q grown) < m) (sym e) l in let x = ap forks_in (at_put_same child (shell_with s.next handles) shells) in omega arith))))
      (λ other. by_name child (w ++ m ∷ [])
      (λ f.
      let parts = same_from_push who w n m f in
      let a : forks_in (at_name w shells) ≡ n = subst (λ q. forks_in (at_name q shells) ≡ n) parts.0 forked in
      let b = ap forks_in (at_put_other child w (shell_with s.next handles) shells other) in
      let c = parts.1 in
      let no : ⊥ = omega arith in
      absurd no)
      (λ apart. at_put_other child (w ++ m ∷ []) (shell_with s.next handles) shells apart ∙ sound.names_new w m (let e = ap forks_in (at_put_other child w (shell_with s.next handles) shells other) in omega arith)))

  grown_sound : Sound grown (all_retained handles opens)
  grown_sound = record {
    balances = grown_balances;
    shells_named = insert_sorted nat_list_cmp_total shells child (shell_with s.next handles) sound.shells_named;
    opens_named = all_retained_named handles opens sound.opens_named;
    few = let e = insert_length nat_list_cmp_total shells child (shell_with s.next handles) free in omega arith;
    each = All-values-insert_entry (slice_cmp nat_cmp) child (shell_with s.next handles) SoundShell shells sound.each (child_sound s opens handles own kept);
    rows_new = grown_rows;
    names_new = grown_names;
  }

-- ---- the fork

module _ (k : Kernel) (sound : Sound k.shells k.opens) (who : List ℕ) (s : Shell) (there : at_name who k.shells ≡ Some s) (live : s.live ≡ true) (fits : length k.shells < 4096) where
  own : SoundShell s
  own = shell_sound k.shells who s sound.each there

  abbrev n : ℕ
  n = length s.forks + 1

  abbrev parent : Shell
  parent = with_fork s (length s.forks + 1) (who ++ (length s.forks + 1) ∷ [])

  abbrev shells : Shells
  shells = set_name who (with_fork s (length s.forks + 1) (who ++ (length s.forks + 1) ∷ [])) k.shells

  with_parent : Sound shells k.opens
  with_parent = same_handles k.shells k.opens sound who s parent there (parent_sound s own (who ++ n ∷ [])) refl refl (let e = forks_more s own (who ++ n ∷ []) in omega arith)

  forked_sound : (handles : Handles) → Kept s k.opens handles → Sound (forked_with k who s n handles).shells (forked_with k who s n handles).opens
  forked_sound handles kept =
      grown_sound shells k.opens with_parent who n s own handles kept
      (let e = length-set_value (is_at (slice_cmp nat_cmp who)) k.shells parent in omega arith)
      (ap forks_in (at_set_same who parent s k.shells there) ∙ forks_more s own (who ++ n ∷ []))
      (none_after_set who (who ++ n ∷ []) parent k.shells (sound.names_new who n (let e = ap forks_in there in omega arith)))

  held_open : (m : ℕ) (held : Held) → at_number m s.handles ≡ Some held → IsOpen k.opens held
  held_open m held has = let r = held_row k.shells k.opens sound who s there live m held has in ap is_some r.1

  fork_kept_keeps : (hs : List Handle) (x : Option Handles) → kept_from s.handles hs [] ≡ x → Keeps (fork_kept k who s x)
  fork_kept_keeps hs None e = sound
  fork_kept_keeps hs (Some handles) e = forked_sound handles (kept_sound k.opens s own held_open hs [] handles (record { rise = none_rise; below = All-nil (λ m. m < s.next); held = All-nil (λ m. IsSome (at_number m s.handles)); reach = All-nil (IsOpen k.opens) }) e)

first_false : (a b : Bool) → (a || b) ≡ false → a ≡ false
first_false true b h = absurd (true≢false h)
first_false false b h = refl

pub fork_keeps : (k : Kernel) → Sound k.shells k.opens → (who : List ℕ) → ((s : Shell) → at_name who k.shells ≡ Some s → s.live ≡ true) → (keep : List Handle) → Keeps (fork_turn k who keep)
fork_keeps k sound who live keep = by_shell_keeps (at_name who k.shells) _ (λ s there.
    unless_keeps k sound (too_many (nat_le most_shells (length k.shells) || nat_le most_number (length s.forks))) _ (λ e.
    let b : nat_le 4096 (length k.shells) ≡ false = first_false (nat_le 4096 (length k.shells)) (nat_le most_number (length s.forks)) (room (nat_le most_shells (length k.shells) || nat_le most_number (length s.forks)) e) in
    let fits : length k.shells < 4096 = grind (arith, nat_tests) in
    fork_kept_keeps k sound who s there (live s there) fits keep (kept_from s.handles keep []) refl))
