-- Each kernel that a box comes to counts its handles.
use Rattle.std.proofs.Common.{◌≡◌, refl, sym, ap, ◌∙◌, subst, ℕ, ◌≤◌, true, List, Option, Some, None, Result, Ok, Err, arith, IfSome}
use Rattle.std.proofs.lemmas.List.Elements.{All-weaker}
use Rattle.std.proofs.lemmas.Map.{keys-set_value, length-set_value}
use Rattle.std.proofs.lemmas.Map.Views.{IfSome-lookup_from_All}
use Rattle.std.specs.BTreeMap.{is_at}
use Rattle.std.specs.Cmp.Lexicographic.{slice_cmp}
use Rattle.std.specs.Map.{keys_of}
use Rattle.std.specs.Ordering.{nat_cmp}
use Rattle.std.proofs.Common.{All, length, ◌<◌, ◌+◌}
use Rattle.kernel_ask.specs.declared.ask.Answer.{Answer}
use Rattle.kernel_ask.specs.declared.ask.Answer.TheVariants as answer
use Rattle.kernel_ask.specs.declared.ask.Ask.{Ask}
use Rattle.kernel_ask.specs.declared.ask.Ask.TheVariants.{Asked, Fork, Begin, WaitShell}
use Rattle.kernel_ask.specs.declared.ask.Call.{Call}
use Rattle.kernel_ask.specs.declared.ask.Call.TheVariants as call
use Rattle.kernel_ask.specs.declared.ask.Phase.{Phase}
use Rattle.kernel_ask.specs.declared.ask.Phase.TheVariants.{Begun, Unrun, Waited}
use Rattle.kernel_objects.specs.declared.plan.BoxFault.{BoxFault}
use Rattle.kernel_objects.specs.declared.plan.BoxPlan.{BoxPlan}
use Rattle.kernel_objects.specs.declared.shell.Forked.{Forked}
use Rattle.kernel_objects.specs.declared.shell.Shell.{Shell}
use Rattle.kernel_objects.specs.Paths.{FileRows}
use Rattle.kernel_objects.specs.Rows.{at_name, at_number, set_number}
use Rattle.kernel_core.specs.declared.kernel.Kernel.{Kernel}
use Rattle.kernel_core.specs.Forks.{fork_set, lives, lives_in, phase_set_in, with_phase}
use Rattle.kernel_core.specs.Handles.{ended_by}
use Rattle.kernel_core.specs.Opening.{opened_files, opening, plan_files}
use Rattle.kernel_core.specs.Step.{Marks, Row, call_turn}
use Rattle.kernel_laws.specs.Bounds.{HasBounds, IsWithin}
use Rattle.kernel_laws.specs.Counts.{CountsHandles, EndedHoldNone, HoldsNoneEnded}
use Rattle.kernel_laws.specs.Reached.{Reached, Opens, Asks, Ends}
use Rattle.kernel_laws.proofs.Forking.{fork_keeps}
use Rattle.kernel_laws.proofs.Moves.{end_sound}
use Rattle.kernel_laws.proofs.Opened.{opening_sound}
use Rattle.kernel_laws.proofs.Shells.{none_from_below}
use Rattle.kernel_laws.proofs.Sound.{Sound, SoundShell, same_handles, shell_sound}
use Rattle.kernel_laws.proofs.Turns.{Keeps, close_keeps, dup_keeps, list_keeps, open_keeps, pipe_keeps, poll_keeps, read_turn_keeps, start_keeps, stat_keeps, wait_program_keeps, write_turn_keeps}

abbrev IsSound : Kernel → Type 0
IsSound k = Sound k.shells k.opens

opened_sound : (input : List ℕ) (files : Result FileRows BoxFault) (k : Kernel) → opened_files input files ≡ Ok k → IsSound k
opened_sound input (Ok files) k e = let same : opening files input ≡ k = cc in subst IsSound same opening_sound
opened_sound input (Err fault) k e = absurd cc

module _ (k : Kernel) (sound : Sound k.shells k.opens) (who : List ℕ) (live : lives k who ≡ true) where
  live_there : (s : Shell) → at_name who k.shells ≡ Some s → s.live ≡ true
  live_there s there = sym (ap lives_in there) ∙ live

  call_keeps : (c : Call) → Keeps (call_turn k who c)
  call_keeps (call.Open path mode) = open_keeps k sound who live path mode
  call_keeps (call.Read handle max) = read_turn_keeps k sound who handle max
  call_keeps (call.Write handle bytes) = write_turn_keeps k sound who handle bytes
  call_keeps call.Pipe = pipe_keeps k sound who live
  call_keeps (call.Dup handle) = dup_keeps k sound who live handle
  call_keeps (call.Close handle) = close_keeps k sound who live handle
  call_keeps (call.List path) = list_keeps k sound who path
  call_keeps (call.Stat path) = stat_keeps k sound who path
  call_keeps (call.Start program) = start_keeps k sound who live program
  call_keeps (call.WaitProgram number) = wait_program_keeps k sound who live number
  call_keeps (call.Poll child) = poll_keeps k sound who child

  fork_set_sound : (s : Shell) (child : ℕ) (p : Phase) (f : Option Forked) → SoundShell s → SoundShell (fork_set s child p f)
  fork_set_sound s child p None own = own
  fork_set_sound s child p (Some f) own =
      let test = is_at (nat_cmp child) in
      let f' : Forked = record f { phase = p } in
      let same = keys-set_value test s.forks f' in
      let long = length-set_value test s.forks f' in
      record {
        handles_rise = own.handles_rise;
        handles_below = own.handles_below;
        next_low = own.next_low;
        held_few = own.held_few;
        started_low = own.started_low;
        forks_below = subst (λ l. All (λ n. n < l + 1) (keys_of (set_number child f' s.forks))) (sym long) (subst (λ ks. All (λ n. n < length s.forks + 1) ks) (sym same) own.forks_below);
        ended = own.ended;
      }

  fork_set_same : (s : Shell) (child : ℕ) (p : Phase) (f : Option Forked) → ((fork_set s child p f).handles ≡ s.handles) × ((fork_set s child p f).next ≡ s.next) × (length s.forks ≤ length (fork_set s child p f).forks)
  fork_set_same s child p None = (refl, refl, omega arith)
  fork_set_same s child p (Some f) = let long = length-set_value (is_at (nat_cmp child)) s.forks (record f { phase = p }) in (refl, refl, omega arith)

  phase_set_sound : (child : ℕ) (p : Phase) (x : Option Shell) → at_name who k.shells ≡ x → IsSound (phase_set_in k who child p x)
  phase_set_sound child p None there = sound
  phase_set_sound child p (Some s) there =
      let same = fork_set_same s child p (at_number child s.forks) in
      same_handles k.shells k.opens sound who s (fork_set s child p (at_number child s.forks)) there (fork_set_sound s child p (at_number child s.forks) (shell_sound k.shells who s sound.each there)) same.0 same.1 same.2

  phase_sound : (child : ℕ) (p : Phase) → IsSound (with_phase k who child p)
  phase_sound child p = phase_set_sound child p (at_name who k.shells) refl

  marks_sound : (child : ℕ) (a : Answer) (new : Kernel) → Marks k who child a new → IsSound new
  marks_sound child answer.Begun new h = subst IsSound (sym h) (phase_sound child Begun)
  marks_sound child answer.NoThread new h = subst IsSound (sym h) (phase_sound child Unrun)
  marks_sound child a new h = absurd h

  row_sound : {F : Type 0} (ask : Ask F) (a : Answer) (new : Kernel) → Row k who ask a new → IsSound new
  row_sound (Asked c) a new h = subst Keeps h (call_keeps c)
  row_sound (Fork start keep) a new h = subst Keeps h (fork_keeps k sound who live_there keep)
  row_sound (Begin child) a new h = marks_sound child a new h.marks
  row_sound (WaitShell child) a new h = subst IsSound (sym h.waits) (phase_sound child Waited)

  ended_by_sound : (x : Option Shell) → at_name who k.shells ≡ x → IsSound (ended_by k who x)
  ended_by_sound None there = sound
  ended_by_sound (Some s) there = end_sound k.shells k.opens sound who s there (live_there s there) k.stores

pub reached_sound : {F : Type 0} (plan : BoxPlan) (k : Kernel) → Reached F plan k → IsSound k
reached_sound plan k (Opens same e) = opened_sound plan.input (plan_files plan.entries) same e
reached_sound plan now (Asks k who ask a new before step) = row_sound k (reached_sound plan k before) who step.live ask a new step.row
reached_sound plan now (Ends k who new before live e) = subst IsSound (sym e) (ended_by_sound k (reached_sound plan k before) who live (at_name who k.shells) refl)

pub counts : (F : Type 0) → CountsHandles F
counts F plan k row reached = let s = reached_sound plan k reached in s.balances row

within : (s : Shell) → SoundShell s → IsWithin s
within s own = record {
  few = own.held_few;
  numbered = λ n l. none_from_below n s.handles (All-weaker (λ k. k < s.next) (λ k. k < n) (λ k low. omega arith) (keys_of s.handles) own.handles_below);
  next = own.next_low;
  started = own.started_low;
}

within_if : (x : Option Shell) → IfSome x SoundShell → IfSome x IsWithin
within_if None h = tt
within_if (Some s) h = within s h

pub bounds : (F : Type 0) → HasBounds F
bounds F plan k reached = let s = reached_sound plan k reached in (s.few, λ who. within_if (at_name who k.shells) (IfSome-lookup_from_All SoundShell (is_at (slice_cmp nat_cmp who)) k.shells s.each))

holds_none : (x : Option Shell) → IfSome x SoundShell → HoldsNoneEnded x
holds_none None h = tt
holds_none (Some s) h = h.ended

pub ended_hold_none : (F : Type 0) → EndedHoldNone F
ended_hold_none F plan k who reached = let s = reached_sound plan k reached in holds_none (at_name who k.shells) (IfSome-lookup_from_All SoundShell (is_at (slice_cmp nat_cmp who)) k.shells s.each)
