-- What holds of each kernel that a box comes to.
use Rattle.std.proofs.Common.{◌≡◌, sym, ap, ◌∙◌, subst, ℕ, ◌+◌, ◌<◌, ◌≤◌, Bool, false, List, [], ◌∷◌, ◌++◌, length, Option, Some, None, arith, All, IfSome}
use Rattle.std.proofs.lemmas.List.{same_from_push}
use Rattle.std.proofs.lemmas.List.Elements.{All-weaker}
use Rattle.std.proofs.lemmas.Map.{keys-set_value, length-set_value}
use Rattle.std.proofs.lemmas.Map.Views.{All-values-set_value, IfSome-lookup_from_All}
use Rattle.std.specs.BTreeMap.{is_at}
use Rattle.std.specs.Cmp.Lexicographic.{slice_cmp}
use Rattle.std.specs.List.Sorted.{IsStrictlySortedBy}
use Rattle.std.specs.Map.{keys_of, values_of}
use Rattle.std.specs.Ordering.{nat_cmp}
use Rattle.kernel_objects.specs.declared.opened.Opened.{Opened}
use Rattle.kernel_objects.specs.declared.opened.Side.{Side}
use Rattle.kernel_objects.specs.declared.shell.Shell.{Shell}
use Rattle.kernel_objects.specs.Rows.{at_name, set_name, put_name}
use Rattle.kernel_core.specs.Forks.{forks_in}
use Rattle.kernel_core.specs.Handles.{is_reading}
use Rattle.kernel_core.specs.Limits.{most_count}
use Rattle.kernel_laws.specs.Counts.{CountsAs, only_writes, standing, standing_among}
use Rattle.kernel_laws.proofs.Balance.{Balances, Opens, Total, balances_as, set_named}
use Rattle.kernel_laws.proofs.Names.{AreNamed, at_put_other, at_set_other, at_set_same, by_name, none_after_set}
use Rattle.kernel_laws.proofs.Shells.{Shells, standing_few, standing_set}

-- the number of a shell's next handle; 0 for no shell
abbrev pub next_in : Option Shell → ℕ
next_in None = 0
next_in (Some s) = s.next

pub record SoundShell (s : Shell) : Type 0 where
  pub handles_rise : IsStrictlySortedBy nat_cmp (keys_of s.handles)
  pub handles_below : All (λ n. n < s.next) (keys_of s.handles)
  pub next_low : s.next ≤ 4294967296
  pub held_few : length s.handles ≤ 1024
  pub started_low : s.started ≤ 4294967295
  pub forks_below : All (λ n. n < length s.forks + 1) (keys_of s.forks)
  pub ended : s.live ≡ false → s.handles ≡ []

-- the totals of those shells
abbrev pub reading : Shells → Total
reading shells row = standing is_reading row shells

abbrev pub writing : Shells → Total
writing shells row = standing only_writes row shells

pub record Sound (shells : Shells) (opens : Opens) : Type 0 where
  pub balances : Balances (reading shells) (writing shells) opens
  pub shells_named : AreNamed shells
  pub opens_named : AreNamed opens
  pub few : length shells ≤ 4096
  pub each : All SoundShell (values_of shells)
  -- rows are named by the handle that a shell got for them
  pub rows_new : (who : List ℕ) (n : ℕ) → next_in (at_name who shells) ≤ n → at_name (who ++ n ∷ []) opens ≡ None
  -- shells are named by their parent's fork
  pub names_new : (who : List ℕ) (n : ℕ) → forks_in (at_name who shells) < n → at_name (who ++ n ∷ []) shells ≡ None

pub shell_sound : (shells : Shells) (who : List ℕ) (s : Shell) → All SoundShell (values_of shells) → at_name who shells ≡ Some s → SoundShell s
shell_sound shells who s a there = subst (λ o. IfSome o SoundShell) there (IfSome-lookup_from_All SoundShell (is_at (slice_cmp nat_cmp who)) shells a)

-- no count comes near its type's end
pub far_from_end : (good : Side → Bool) (shells : Shells) (row : List ℕ) → length shells ≤ 4096 → All SoundShell (values_of shells) → standing good row shells + 4294967296 ≤ most_count
far_from_end good shells row few each =
    let most = standing_few good row 4294967296 shells (All-weaker SoundShell (λ s. length s.handles ≤ 4294967296) (λ s h. let n = h.held_few in omega arith) (values_of shells) each) in
    omega arith

-- ---- a shell changes

module _ (shells : Shells) (opens : Opens) (sound : Sound shells opens) (who : List ℕ) (s s' : Shell) (there : at_name who shells ≡ Some s) where
  abbrev pub changed : Shells
  changed = set_name who s' shells

  pub changed_named : AreNamed changed
  changed_named = subst (λ ks. IsStrictlySortedBy (slice_cmp nat_cmp) ks) (sym (keys-set_value (is_at (slice_cmp nat_cmp who)) shells s')) sound.shells_named

  pub changed_few : length changed ≤ 4096
  changed_few = let e = length-set_value (is_at (slice_cmp nat_cmp who)) shells s' in let f = sound.few in omega arith

  pub changed_each : SoundShell s' → All SoundShell (values_of changed)
  changed_each h = All-values-set_value (is_at (slice_cmp nat_cmp who)) SoundShell shells s' sound.each h

  pub next_grows : s.next ≤ s'.next → (w : List ℕ) → next_in (at_name w shells) ≤ next_in (at_name w changed)
  next_grows h w = by_name who w
      (λ e. subst (λ q. next_in (at_name q shells) ≤ next_in (at_name q changed)) e
      (let a = ap next_in there in let b = ap next_in (at_set_same who s' s shells there) in omega arith))
      (λ other. let b = ap next_in (at_set_other who w s' s shells there other) in omega arith)

  pub forks_grow : length s.forks ≤ length s'.forks → (w : List ℕ) → forks_in (at_name w shells) ≤ forks_in (at_name w changed)
  forks_grow h w = by_name who w
      (λ e. subst (λ q. forks_in (at_name q shells) ≤ forks_in (at_name q changed)) e
      (let a = ap forks_in there in let b = ap forks_in (at_set_same who s' s shells there) in omega arith))
      (λ other. let b = ap forks_in (at_set_other who w s' s shells there other) in omega arith)

  pub changed_names : length s.forks ≤ length s'.forks → (w : List ℕ) (n : ℕ) → forks_in (at_name w changed) < n → at_name (w ++ n ∷ []) changed ≡ None
  changed_names h w n l = none_after_set who (w ++ n ∷ []) s' shells (sound.names_new w n (let g = forks_grow h w in omega arith))

  -- rows that weren't open still aren't
  pub changed_rows : (opens' : Opens) → s.next ≤ s'.next → ((q : List ℕ) → at_name q opens ≡ None → at_name q opens' ≡ None) → (w : List ℕ) (n : ℕ) → next_in (at_name w changed) ≤ n → at_name (w ++ n ∷ []) opens' ≡ None
  changed_rows opens' h keeps w n l = keeps (w ++ n ∷ []) (sound.rows_new w n (let g = next_grows h w in omega arith))

  -- a row that the shell opens has the number of its next handle
  pub entered_rows : (o : Opened) → s.next < s'.next → (w : List ℕ) (n : ℕ) → next_in (at_name w changed) ≤ n → at_name (w ++ n ∷ []) (put_name (who ++ s.next ∷ []) o opens) ≡ None
  entered_rows o h w n l = by_name (who ++ s.next ∷ []) (w ++ n ∷ [])
      (λ e.
      let parts = same_from_push who w s.next n e in
      let a : next_in (at_name w changed) ≡ s'.next = subst (λ q. next_in (at_name q changed) ≡ s'.next) parts.0 (ap next_in (at_set_same who s' s shells there)) in
      let b = parts.1 in
      let no : ⊥ = omega arith in
      absurd no)
      (λ other. at_put_other (who ++ s.next ∷ []) (w ++ n ∷ []) o opens other ∙ sound.rows_new w n (let g = next_grows (omega arith) w in omega arith))

  -- the whole, from what the change is to the rows
  pub changed_sound : (opens' : Opens) → SoundShell s' → length s.forks ≤ length s'.forks → AreNamed opens' → Balances (reading changed) (writing changed) opens'
      → ((w : List ℕ) (n : ℕ) → next_in (at_name w changed) ≤ n → at_name (w ++ n ∷ []) opens' ≡ None) → Sound changed opens'
  changed_sound opens' shell forks named balances rows = record {
    balances = balances;
    shells_named = changed_named;
    opens_named = named;
    few = changed_few;
    each = changed_each shell;
    rows_new = rows;
    names_new = changed_names forks;
  }

  -- the handles stay
  pub same_handles : SoundShell s' → s'.handles ≡ s.handles → s'.next ≡ s.next → length s.forks ≤ length s'.forks → Sound changed opens
  same_handles shell handles next forks =
      changed_sound opens shell forks sound.opens_named
      (balances_as (reading shells) (reading changed) (writing shells) (writing changed) opens
      (λ row. let e = standing_set is_reading row who s s' shells there in let f = ap (standing_among is_reading row) handles in omega arith)
      (λ row. let e = standing_set only_writes row who s s' shells there in let f = ap (standing_among only_writes row) handles in omega arith)
      sound.balances)
      (changed_rows opens (omega arith) (λ q none. none))

-- ---- what goes through an open row changes

pub stream_changed : (shells : Shells) (opens : Opens) (row : List ℕ) (o o' : Opened) → Sound shells opens → at_name row opens ≡ Some o → o'.readers ≡ o.readers → o'.writers ≡ o.writers
    → Sound shells (set_name row o' opens)
stream_changed shells opens row o o' sound there readers writers = record {
  balances = λ q. by_name row q
      (λ e.
      let c = subst (λ x. CountsAs (reading shells row) (writing shells row) x) there (sound.balances row) in
      subst (λ q. CountsAs (reading shells q) (writing shells q) (at_name q (set_name row o' opens))) e
      (subst (λ x. CountsAs (reading shells row) (writing shells row) x) (sym (at_set_same row o' o opens there)) (readers ∙ c.0, writers ∙ c.1, c.2)))
      (λ other. subst (λ x. CountsAs (reading shells q) (writing shells q) x) (sym (at_set_other row q o' o opens there other)) (sound.balances q));
  shells_named = sound.shells_named;
  opens_named = set_named row o' opens sound.opens_named;
  few = sound.few;
  each = sound.each;
  rows_new = λ who n l. none_after_set row (who ++ n ∷ []) o' opens (sound.rows_new who n l);
  names_new = sound.names_new;
}
