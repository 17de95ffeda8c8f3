-- Two shells with equal starts do the same as long as they get the same answers.
use Rattle.std.specs.Prelude.{◌≡◌, ℕ, zero, suc, ◌≤◌, List, [], ◌∷◌, length, Option, Some, None}
use Rattle.std.proofs.Common.{take}
use Rattle.kernel_ask.specs.declared.ask.Entry.{Entry}
use Rattle.ksh_meaning.specs.Theorem.{calls, answers}
use Rattle.shell_family.specs.Meaning.{Run}
use Rattle.shell_state.specs.declared.start.Start.{Start}
use Rattle.shell_thread.specs.declared.album.ShellStop.{ShellStop}
use Rattle.shell_thread.specs.declared.album.ShellStop.TheVariants.{Meant, Spent, Memory, Unrun, Before}

-- the meaning decided how the shell ended
abbrev pub IsWhole : ShellStop → Type 0
IsWhole Meant = Unit {0}
IsWhole Spent = Unit {0}
IsWhole Memory = ⊥
IsWhole Unrun = ⊥
IsWhole Before = ⊥

-- the element at that place, if there is one
abbrev pub nth : {X : Type 0} → List X → ℕ → Option X
nth [] n = None
nth (x ∷ xs) zero = Some x
nth (x ∷ xs) (suc n) = nth xs n

-- up to n the asks are the same, then the next ask or that there is none, and then the outcome
pub record DoesAs (es fs : List (Entry Start)) (s t : ShellStop) (v w n : ℕ) : Type 0 where
  pub so_far : take n (calls es) ≡ take n (calls fs)
  pub next : nth (calls es) n ≡ nth (calls fs) n
  pub outcome : n ≡ length es → (s ≡ t) × (v ≡ w)

abbrev pub SameSoFar : Type 0
SameSoFar =
    (start : Start) (es fs : List (Entry Start)) (s t : ShellStop) (v w n : ℕ) → IsWhole s → IsWhole t → Run start es s v → Run start fs t w
    → n ≤ length es → n ≤ length fs → take n (answers es) ≡ take n (answers fs) → DoesAs es fs s t v w n
