-- How assignments settle.
use Rattle.std.proofs.Common.{◌≡◌, ℕ, List, Option, Some, None, Result, Ok}
use Rattle.shell_state.specs.declared.state.ShellState.{ShellState}
use Rattle.shell_state.specs.declared.state.Flow.TheVariants.{Next}
use Rattle.shell_state.specs.declared.state.Stop.{Stop}
use Rattle.ksh_meaning.specs.Units.{End}
use Rattle.ksh_meaning.specs.Assign.{Assigned, settled}
use Rattle.ksh_meaning.specs.Faults.{fail}
use Rattle.ksh_meaning.specs.Finished.{Done_so_far, Means}
use Rattle.ksh_meaning.specs.Laws.{means_done, means_bound}

-- all of them were done
pub settles : (b : ℕ) (x : Done_so_far) (line : ℕ) (a : Assigned) (s : ShellState) → a ≡ (s, None) → Means b x x (λ n. settled line a) (Ok (s, Next))
settles b x line a s e = rw e (means_done b x (s, Next))

-- one was refused, and the shell fails
pub settles_refused : (b c : ℕ) (x y : Done_so_far) (line : ℕ) (a : Assigned) (s : ShellState) (words : List ℕ) (r : Result End Stop) → a ≡ (s, Some words) → c ≡ b → Means c x y (λ n. fail line words s) r → Means b x y (λ n. settled line a) r
settles_refused b c x y line a s words r e same m = rw e (means_bound same m)
