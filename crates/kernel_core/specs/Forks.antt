-- Fork, Begin, WaitShell and Poll.
use Rattle.std.specs.Prelude.{ℕ, ◌+◌, ◌||◌, Bool, true, false, nat_le, List, [], ◌∷◌, ◌++◌, length, Option, Some, None, is_some, if◌then◌else◌}
use Rattle.kernel_ask.specs.declared.ask.Answer.TheVariants.{Forked as SaysForked, Running, Over}
use Rattle.kernel_ask.specs.declared.ask.Handle.{Handle}
use Rattle.kernel_ask.specs.declared.ask.Phase.{Phase}
use Rattle.kernel_ask.specs.declared.ask.Phase.TheVariants.{Made, Begun, Unrun, Waited}
use Rattle.kernel_ask.specs.declared.ask.Refusal.TheVariants.{BadHandle}
use Rattle.kernel_objects.specs.declared.opened.Held.{Held}
use Rattle.kernel_objects.specs.declared.opened.Opened.{Opened}
use Rattle.kernel_objects.specs.declared.shell.Forked.{Forked}
use Rattle.kernel_objects.specs.declared.shell.Shell.{Shell}
use Rattle.kernel_objects.specs.Rows.{at_name, set_name, put_name, at_number, put_number, set_number}
use Rattle.kernel_core.specs.declared.kernel.Kernel.{Kernel}
use Rattle.kernel_core.specs.Handles.{retained_in}
use Rattle.kernel_core.specs.Limits.{most_shells, most_number}
use Rattle.kernel_core.specs.Open.{too_many}
use Rattle.kernel_core.specs.Turn.{Turn, Answers, refused, unless, by_shell, with_shell}

-- the row goes on to the child under the same number
abbrev pub kept_one : ℕ → Option Held → List (ℕ × Held) → List (ℕ × Held)
kept_one n None kept = kept
kept_one n (Some x) kept = put_number n x kept

-- the child's handles once the rest of `keep` is added: the parent's, under the same numbers; none where one isn't held
abbrev pub kept_from : List (ℕ × Held) → List Handle → List (ℕ × Held) → Option (List (ℕ × Held))
kept_from held [] kept = Some kept
kept_from held (h ∷ hs) kept = if is_some (at_number h.0 held) then kept_from held hs (kept_one h.0 (at_number h.0 held) kept) else None

-- a shell as it is forked: it goes on with its parent's next handle
abbrev pub shell_with : ℕ → List (ℕ × Held) → Shell
shell_with next handles = record { live = true; next = next; handles = handles; started = 0; programs = []; forks = [] }

-- the shell with one fork more
abbrev pub with_fork : Shell → ℕ → List ℕ → Shell
with_fork s n name = record s { forks = put_number n (record { name = name; phase = Made }) s.forks }

abbrev pub fork_added : List ℕ → ℕ → Forked → Option Shell → List (List ℕ × Shell) → List (List ℕ × Shell)
fork_added who n f None shells = shells
fork_added who n f (Some s) shells = set_name who (record s { forks = put_number n f s.forks }) shells

-- the rows, for each of which one handle more stands
abbrev pub all_retained : List (ℕ × Held) → List (List ℕ × Opened) → List (List ℕ × Opened)
all_retained [] opens = opens
all_retained (row ∷ rows) opens = all_retained rows (retained_in row.1 opens)

abbrev pub child_retained : Option Shell → List (List ℕ × Opened) → List (List ℕ × Opened)
child_retained None opens = opens
child_retained (Some s) opens = all_retained s.handles opens

-- the fork n of a shell, with those handles
abbrev pub forked_with : Kernel → List ℕ → Shell → ℕ → List (ℕ × Held) → Kernel
forked_with k who s n handles =
    record k { shells = put_name (who ++ n ∷ []) (shell_with s.next handles) (set_name who (with_fork s n (who ++ n ∷ [])) k.shells); opens = all_retained handles k.opens }

abbrev pub fork_kept : Kernel → List ℕ → Shell → Option (List (ℕ × Held)) → Turn
fork_kept k who s None = refused k BadHandle
fork_kept k who s (Some handles) = Answers (SaysForked (length s.forks + 1)) (forked_with k who s (length s.forks + 1) handles)

abbrev pub fork_turn : Kernel → List ℕ → List Handle → Turn
fork_turn k who keep =
    by_shell (at_name who k.shells) (λ s. unless k (too_many (nat_le most_shells (length k.shells) || nat_le most_number (length s.forks)))
    (fork_kept k who s (kept_from s.handles keep [])))

-- a shell of the kernel that hasn't ended
abbrev pub lives_in : Option Shell → Bool
lives_in None = false
lives_in (Some s) = s.live

abbrev pub lives : Kernel → List ℕ → Bool
lives k who = lives_in (at_name who k.shells)

abbrev pub forks_in : Option Shell → ℕ
forks_in None = 0
forks_in (Some s) = length s.forks

-- how many forks of a shell were answered Forked; 0 for no shell of the kernel
abbrev pub forks : Kernel → List ℕ → ℕ
forks k who = forks_in (at_name who k.shells)

abbrev pub fork_in : Option Shell → ℕ → Option Forked
fork_in None child = None
fork_in (Some s) child = at_number child s.forks

abbrev pub fork_at : Kernel → List ℕ → ℕ → Option Forked
fork_at k who child = fork_in (at_name who k.shells) child

abbrev pub phase_of : Option Forked → Option Phase
phase_of None = None
phase_of (Some f) = Some f.phase

-- how far a fork is, where there is one of that number
abbrev pub phase : Kernel → List ℕ → ℕ → Option Phase
phase k who child = phase_of (fork_at k who child)

-- it has begun, and may have been waited for
abbrev pub has_begun : Phase → Bool
has_begun Made = false
has_begun Begun = true
has_begun Unrun = false
has_begun Waited = true

abbrev pub poll_fork : Kernel → Option Forked → Turn
poll_fork k None = refused k BadHandle
poll_fork k (Some f) = if has_begun f.phase then Answers (if lives k f.name then Running else Over) k else refused k BadHandle

abbrev pub poll_turn : Kernel → List ℕ → ℕ → Turn
poll_turn k who child = by_shell (at_name who k.shells) (λ s. poll_fork k (at_number child s.forks))

-- the shell with its fork in that phase
abbrev pub fork_set : Shell → ℕ → Phase → Option Forked → Shell
fork_set s child p None = s
fork_set s child p (Some f) = record s { forks = set_number child (record f { phase = p }) s.forks }

abbrev pub phase_set_in : Kernel → List ℕ → ℕ → Phase → Option Shell → Kernel
phase_set_in k who child p None = k
phase_set_in k who child p (Some s) = with_shell k who (fork_set s child p (at_number child s.forks))

-- the kernel with that fork of a shell in that phase
abbrev pub with_phase : Kernel → List ℕ → ℕ → Phase → Kernel
with_phase k who child p = phase_set_in k who child p (at_name who k.shells)
