-- What a program's output does to the kernel.
use Rattle.std.proofs.Common.{◌≡◌, refl, sym, ◌∙◌, ap, ℕ, List}
use Rattle.std.proofs.lemmas.Map.Steps.{set_value_same}
use Rattle.std.specs.Cmp.Lexicographic.{slice_cmp}
use Rattle.std.specs.Ordering.{nat_cmp}
use Rattle.std.specs.BTreeMap.{is_at}
use Rattle.std.specs.declared.option.Option.{Option}
use Rattle.std.specs.declared.option.Option.TheVariants.{None, Some}
use Rattle.std.specs.declared.result.Result.{Result}
use Rattle.std.specs.declared.result.Result.TheVariants.{Ok, Err}
use Rattle.kernel_ask.specs.declared.ask.Answer.{Answer}
use Rattle.kernel_ask.specs.declared.ask.Answer.TheVariants.{Taken}
use Rattle.ksh_base.specs.declared.memory.Memory.{Memory}
use Rattle.kernel_objects.specs.declared.opened.Opened.{Opened}
use Rattle.kernel_objects.specs.declared.shell.Shell.{Shell}
use Rattle.kernel_objects.specs.Rows.{at_name, at_number, set_name}
use Rattle.kernel_core.specs.declared.kernel.Kernel.{Kernel}
use Rattle.kernel_core.specs.declared.kernel.Stores.{Stores}
use Rattle.kernel_ask.specs.declared.ask.Handle.{Handle}
use Rattle.kernel_ask.specs.declared.ask.Program.{Program}
use Rattle.kernel_objects.specs.declared.opened.Held.{Held}
use Rattle.kernel_objects.specs.Paths.{node_at, prefix_refusal}
use Rattle.kernel_core.specs.declared.programs.Run.{Run}
use Rattle.kernel_core.specs.Handles.{is_writing}
use Rattle.kernel_core.specs.Programs.{DoesOutput, on_output, output_of, run_of, start_output, start_refusal, start_row, start_run, start_turn}
use Rattle.kernel_core.specs.Transfer.{RowTurn, Says, Holds, held_for, on_row, write_stream}
use Rattle.kernel_core.specs.Turn.{Answers, Does, by_shell, unless}

-- the kernel with those in their places
abbrev pub placed : Kernel → List ℕ → Shell → List ℕ → Opened → Stores → Kernel
placed k who s row o d = record { shells = set_name who s k.shells; opens = set_name row o k.opens; stores = d }

module _ (k : Kernel) (who : List ℕ) (s : Shell) (row : List ℕ) (o : Opened) (there : at_name who k.shells ≡ Some s) (open_there : at_name row k.opens ≡ Some o) where
  same_shells : set_name who s k.shells ≡ k.shells
  same_shells = set_value_same (is_at (slice_cmp nat_cmp who)) k.shells s there

  same_opens : set_name row o k.opens ≡ k.opens
  same_opens = set_value_same (is_at (slice_cmp nat_cmp row)) k.opens o open_there

  -- the shell is as it was
  kept_shell : (s' : Shell) (o' : Opened) (d' : Stores) → s' ≡ s → placed k who s' row o' d' ≡ record k { opens = set_name row o' k.opens; stores = d' }
  kept_shell s' o' d' e = let shells : set_name who s' k.shells ≡ k.shells = rw e same_shells in cc

  -- all is as it was
  kept_all : (s' : Shell) (o' : Opened) (d' : Stores) → s' ≡ s → o' ≡ o → d' ≡ k.stores → placed k who s' row o' d' ≡ k
  kept_all s' o' d' e f g =
      let shells : set_name who s' k.shells ≡ k.shells = rw e same_shells in
      let opens : set_name row o' k.opens ≡ k.opens = rw f same_opens in
      let whole : placed k who s' row o' d' ≡ record { shells = k.shells; opens = k.opens; stores = k.stores } = cc in
      whole

  pub output_does : (status : ℕ) (turn : RowTurn) (result : Result (Option Answer) Memory) (s' : Shell) (o' : Opened) (d' : Stores)
      → DoesOutput s status turn result s' o o' k.stores d' → Does (on_output k who s status row turn) result k (placed k who s' row o' d')
  output_does status (Says Taken to td) (Ok (Some a)) s' o' d' h = cc
  output_does status (Says a' to td) (Ok (Some a)) s' o' d' h = ap (on_row k row) h.0 ∙ ap (λ k'. Answers a k') (sym (kept_shell s' o' d' h.1))
  output_does status (Says a' to td) (Ok None) s' o' d' h = absurd (let no : Says a' to td ≡ Holds = h.0 in cc)
  output_does status (Says a' to td) (Err m) s' o' d' h = kept_all s' o' d' h.0 h.1 h.2
  output_does status Holds (Ok (Some a)) s' o' d' h = absurd (let no : Holds ≡ Says a o' d' = h.0 in cc)
  output_does status Holds (Ok None) s' o' d' h = (refl, kept_all s' o' d' h.1 h.2 h.3)
  output_does status Holds (Err m) s' o' d' h = kept_all s' o' d' h.0 h.1 h.2

-- a program that puts out is started as its output says
pub start_is : (k : Kernel) (who : List ℕ) (p : Program) (s : Shell) (run : Run) (h : Handle) (held : Held) (row : List ℕ) (o : Opened)
    → at_name who k.shells ≡ Some s → prefix_refusal k.stores.files p.path ≡ None → run_of (node_at k.stores.files p.path) ≡ Ok run
    → start_refusal s p ≡ None → p.output ≡ Some h → held_for is_writing (at_number h.0 s.handles) ≡ Some held → held.row ≡ row → at_name row k.opens ≡ Some o
    → start_turn k who p ≡ on_output k who s run.status row (write_stream o.stream run.output o k.stores)
start_is k who p s run h held row o there before run_is fine out held_is row_is found =
    let output : output_of s p.output ≡ Some held = ap (output_of s) out ∙ held_is in
    ap (λ x. by_shell x (λ s. unless k (prefix_refusal k.stores.files p.path) (start_run k who s p (run_of (node_at k.stores.files p.path))))) there
    ∙ ap (λ x. unless k x (start_run k who s p (run_of (node_at k.stores.files p.path)))) before
    ∙ ap (start_run k who s p) run_is
    ∙ ap (λ x. unless k x (start_output k who s run (output_of s p.output))) fine
    ∙ ap (start_output k who s run) output
    ∙ ap (λ r. start_row k who s run r (at_name r k.opens)) row_is
    ∙ ap (start_row k who s run row) found
