-- A builtin's output, piece after piece.
use Rattle.std.proofs.Common.{◌≡◌, ℕ, suc, zero, List, Bool, ◌||◌, subst, take, drop, Result, Ok, Err, if◌then◌else◌}
use Rattle.shell_state.specs.declared.state.ShellState.{ShellState}
use Rattle.shell_state.specs.declared.state.Stop.{Stop}
use Rattle.shell_state.specs.declared.state.Stop.TheVariants as stop
use Rattle.shell_state.specs.declared.state.Flow.TheVariants.{Next, Exit}
use Rattle.shell_state.specs.declared.task.Task.{Task}
use Rattle.shell_state.specs.declared.task.Told.{Told}
use Rattle.ksh_meaning.specs.Units.{End, with_status}
use Rattle.ksh_meaning.specs.Output.{Works, writes, piece, after_piece}
use Rattle.ksh_meaning.specs.Serving.{Ctx, Did, ServedBy}
use Rattle.ksh_meaning.specs.Tasks.{Left, left_on, left_stop, ended}

module _ {C S : Type 0} (g : Ctx C S) (line : ℕ) (name : List ℕ) {f m : C × S} {whole : Works End} {n : ℕ} (left : List ℕ) (bad : Bool) (s : ShellState) (h : Left (Did g) stop.Memory f m whole (writes line name n left bad s)) where
  pub piece_on : {m' : C × S} (k : ℕ) (s' : ShellState) (refused : Bool) → n ≡ suc k → ServedBy g m (piece line name (take 4096 left) s) (Ok ((s', Next), refused)) m' → Left (Did g) stop.Memory f m' whole (writes line name k (drop 4096 left) (bad || refused) s')
  piece_on k s' refused e p =
      left_on (Did g) stop.Memory (after_piece (writes line name k (drop 4096 left)) bad) (subst (λ n. Left (Did g) stop.Memory f m whole (writes line name n left bad s)) e h) p

  pub piece_exit : {m' : C × S} (k : ℕ) (s' : ShellState) (refused : Bool) → n ≡ suc k → ServedBy g m (piece line name (take 4096 left) s) (Ok ((s', Exit), refused)) m' → ServedBy g f whole (Ok (s', Exit)) m'
  piece_exit {m'} k s' refused e p =
      let l : Left (Did g) stop.Memory f m' whole (after_piece (writes line name k (drop 4096 left)) bad ((s', Exit), refused)) = left_on (Did g) stop.Memory (after_piece (writes line name k (drop 4096 left)) bad) (subst (λ n. Left (Did g) stop.Memory f m whole (writes line name n left bad s)) e h) p in
      l.goes (Ok (s', Exit)) m' ended

  pub piece_stop : {m' : C × S} (k : ℕ) (e : Stop) → n ≡ suc k → ServedBy g m (piece line name (take 4096 left) s) (Err e) m' → ServedBy g f whole (Err e) m'
  piece_stop k e same p =
      left_stop (Did g) stop.Memory (after_piece (writes line name k (drop 4096 left)) bad) (subst (λ n. Left (Did g) stop.Memory f m whole (writes line name n left bad s)) same h) p

  pub pieces_end : n ≡ zero → ServedBy g f whole (Ok (with_status s (if bad then 1 else 0), Next)) m
  pieces_end e =
      let l : Left (Did g) stop.Memory f m whole (writes line name zero left bad s) = subst (λ n. Left (Did g) stop.Memory f m whole (writes line name n left bad s)) e h in
      l.goes (Ok (with_status s (if bad then 1 else 0), Next)) m ended
