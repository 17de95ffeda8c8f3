-- What is answered where the numbers of a shell's handles and programs end.
use Rattle.std.specs.Prelude.{◌≡◌, ℕ, ◌+◌, ◌<◌, true, List, length, Some, None, Ok}
use Rattle.kernel_ask.specs.declared.ask.Answer.TheVariants.{Opened as SaysOpened}
use Rattle.kernel_ask.specs.declared.ask.Handle.{Handle}
use Rattle.kernel_ask.specs.declared.ask.Mode.TheVariants.{Scratch}
use Rattle.kernel_ask.specs.declared.ask.Program.{Program}
use Rattle.kernel_ask.specs.declared.ask.Refusal.TheVariants.{TooMany}
use Rattle.kernel_objects.specs.declared.opened.Held.{Held}
use Rattle.kernel_objects.specs.declared.shell.Shell.{Shell}
use Rattle.kernel_objects.specs.Paths.{node_at, prefix_refusal}
use Rattle.kernel_objects.specs.Rows.{at_name, at_number}
use Rattle.kernel_objects.specs.Shells.{given}
use Rattle.kernel_core.specs.declared.kernel.Kernel.{Kernel}
use Rattle.kernel_core.specs.declared.programs.Run.{Run}
use Rattle.kernel_core.specs.Handles.{dup_turn, retained}
use Rattle.kernel_core.specs.Limits.{most_handles, most_number}
use Rattle.kernel_core.specs.Open.{open_turn, pipe_turn}
use Rattle.kernel_core.specs.Programs.{are_given, run_of, start_turn}
use Rattle.kernel_core.specs.Turn.{Answers, refused, with_shell}

-- the last number is given once, and then none
pub record GivesLast (k : Kernel) (who : List ℕ) (s : Shell) (h : Handle) (held : Held) : Type 0 where
  pub last : s.next ≡ most_number → length s.handles < most_handles → dup_turn k who h ≡ Answers (SaysOpened (record { 0 = most_number })) (retained (with_shell k who (given s held)) held)
  pub past : s.next ≡ most_number + 1 → dup_turn k who h ≡ refused k TooMany

-- two handles need two numbers
pub record NeedsTwo (k : Kernel) (who : List ℕ) (s : Shell) : Type 0 where
  pub pipe : s.next ≡ most_number → pipe_turn k who ≡ refused k TooMany
  pub scratch : (path : List ℕ) → s.next ≡ most_number → open_turn k who path Scratch ≡ refused k TooMany

-- no program is started after the last number
abbrev pub StartsNone : Kernel → List ℕ → Shell → Type 0
StartsNone k who s = (p : Program) (run : Run) → s.started ≡ most_number → prefix_refusal k.stores.files p.path ≡ None → run_of (node_at k.stores.files p.path) ≡ Ok run → are_given s p ≡ true → start_turn k who p ≡ refused k TooMany

abbrev pub GivesLastNumber : Type 0
GivesLastNumber = (k : Kernel) (who : List ℕ) (s : Shell) (h : Handle) (held : Held) → at_name who k.shells ≡ Some s → at_number h.0 s.handles ≡ Some held → GivesLast k who s h held

abbrev pub NeedsTwoNumbers : Type 0
NeedsTwoNumbers = (k : Kernel) (who : List ℕ) (s : Shell) → at_name who k.shells ≡ Some s → NeedsTwo k who s

abbrev pub StartsNoneAfter : Type 0
StartsNoneAfter = (k : Kernel) (who : List ℕ) (s : Shell) → at_name who k.shells ≡ Some s → StartsNone k who s
