-- The numbers end where the limits say.
use Rattle.std.proofs.Common.{◌≡◌, refl, ap, ◌∙◌, ℕ, ◌+◌, ◌<◌, ◌||◌, Bool, true, false, List, [], length, Some, None, Ok, arith, nat_lt, nat_le, if◌then◌else◌}
use Rattle.std.proofs.lemmas.Bool.Decides.{nat_tests}
use Rattle.kernel_ask.specs.declared.ask.Answer.TheVariants.{Opened as SaysOpened}
use Rattle.kernel_ask.specs.declared.ask.Handle.{Handle}
use Rattle.kernel_ask.specs.declared.ask.Mode.TheVariants.{Scratch}
use Rattle.kernel_ask.specs.declared.ask.Program.{Program}
use Rattle.kernel_ask.specs.declared.ask.Refusal.TheVariants.{BadHandle, TooMany}
use Rattle.kernel_objects.specs.declared.opened.Held.{Held}
use Rattle.kernel_objects.specs.declared.opened.Stream.TheVariants as stream
use Rattle.kernel_objects.specs.declared.shell.Shell.{Shell}
use Rattle.kernel_objects.specs.Paths.{node_at, prefix_refusal}
use Rattle.kernel_objects.specs.Rows.{at_name, at_number}
use Rattle.kernel_objects.specs.Shells.{given}
use Rattle.kernel_core.specs.declared.kernel.Kernel.{Kernel}
use Rattle.kernel_core.specs.declared.programs.Run.{Run}
use Rattle.kernel_core.specs.Files.{is_full}
use Rattle.kernel_core.specs.Handles.{dup_held, dup_turn, lacks_handles, retained}
use Rattle.kernel_core.specs.Limits.{most_number}
use Rattle.kernel_core.specs.Open.{entered, open_by, pair_of, pipe_by, row_of_two, too_many, with_nameless, with_two}
use Rattle.kernel_core.specs.Programs.{are_given, output_of, run_of, start_output, start_refusal, start_run, start_turn}
use Rattle.kernel_core.specs.Turn.{Turn, Answers, by_shell, refused, unless, with_shell}
use Rattle.kernel_laws.specs.LastNumbers.{GivesLastNumber, NeedsTwoNumbers, StartsNoneAfter}

-- more numbers are wanted than are left
lacks : (s : Shell) (n : ℕ) → 4294967296 < s.next + n → lacks_handles s n ≡ true
lacks s n h =
    let b : nat_lt 4294967296 (s.next + n) ≡ true = grind (arith, nat_tests) in
    ap (λ b. nat_lt 1024 (length s.handles + n) || b) b ∙ either (nat_lt 1024 (length s.handles + n))
  where
    either : (a : Bool) → (a || true) ≡ true
    either true = refl
    either false = refl

has_room : (s : Shell) → s.next ≡ 4294967295 → length s.handles < 1024 → lacks_handles s 1 ≡ false
has_room s e few =
    let a : nat_lt 1024 (length s.handles + 1) ≡ false = grind (arith, nat_tests) in
    let b : nat_lt 4294967296 (s.next + 1) ≡ false = grind (arith, nat_tests) in
    ap (λ a. a || nat_lt 4294967296 (s.next + 1)) a ∙ b

module _ (k : Kernel) (who : List ℕ) (s : Shell) (there : at_name who k.shells ≡ Some s) where
  at_shell : (f : Shell → Turn) → by_shell (at_name who k.shells) f ≡ f s
  at_shell f = ap (λ x. by_shell x f) there

  dup_is : (h : Handle) (held : Held) → at_number h.0 s.handles ≡ Some held → dup_turn k who h ≡ dup_held k who s (Some held)
  dup_is h held has = at_shell (λ s. dup_held k who s (at_number h.0 s.handles)) ∙ ap (dup_held k who s) has

  taken_or_not : (b : Bool) (held : Held) → lacks_handles s 1 ≡ b
      → dup_held k who s (Some held) ≡ (if b then refused k TooMany else Answers (SaysOpened (record { 0 = s.next })) (retained (with_shell k who (given s held)) held))
  taken_or_not b held e = ap (λ b. if b then refused k TooMany else Answers (SaysOpened (record { 0 = s.next })) (retained (with_shell k who (given s held)) held)) e

  refused_where : (b : Bool) (turn : Turn) → b ≡ true → unless k (too_many b) turn ≡ refused k TooMany
  refused_where b turn e = ap (λ b. unless k (too_many b) turn) e

  starts_none : (p : Program) (run : Run) → s.started ≡ 4294967295 → prefix_refusal k.stores.files p.path ≡ None → run_of (node_at k.stores.files p.path) ≡ Ok run → are_given s p ≡ true → start_turn k who p ≡ refused k TooMany
  starts_none p run last before found fits =
      let past : nat_le 4294967295 s.started ≡ true = grind (arith, nat_tests) in
      let why : start_refusal s p ≡ Some TooMany = ap (λ b. if b then too_many (nat_le most_number s.started) else Some BadHandle) fits ∙ ap too_many past in
      at_shell (λ s. unless k (prefix_refusal k.stores.files p.path) (start_run k who s p (run_of (node_at k.stores.files p.path))))
      ∙ ap (λ x. unless k x (start_run k who s p (run_of (node_at k.stores.files p.path)))) before
      ∙ ap (start_run k who s p) found
      ∙ ap (λ x. unless k x (start_output k who s run (output_of s p.output))) why

pub gives_last : GivesLastNumber
gives_last k who s h held there has = record {
  last = λ e few. dup_is k who s there h held has ∙ taken_or_not k who s there false held (has_room s e few) ∙ ap (λ n. Answers (SaysOpened (record { 0 = n })) (retained (with_shell k who (given s held)) held)) e;
  past = λ e. dup_is k who s there h held has ∙ taken_or_not k who s there true held (lacks s 1 (omega arith));
}

pub needs_two : NeedsTwoNumbers
needs_two k who s there = record {
  pipe = λ e. at_shell k who s there (λ s. pipe_by k who s) ∙ refused_where k who s there (lacks_handles s 2) (pair_of s (entered k who s (with_two who s) (row_of_two (stream.Pipe [])))) (lacks s 2 (omega arith));
  scratch = λ path e. at_shell k who s there (λ s. open_by k who s path Scratch)
      ∙ refused_where k who s there (lacks_handles s 2 || is_full k.stores) (pair_of s (with_nameless (entered k who s (with_two who s) (row_of_two (stream.Scratch [] 0 0))))) (ap (λ b. b || is_full k.stores) (lacks s 2 (omega arith)));
}

pub starts_none_after : StartsNoneAfter
starts_none_after k who s there p run = starts_none k who s there p run
