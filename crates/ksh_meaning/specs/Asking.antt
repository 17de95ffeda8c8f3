-- An ask of a builtin, done by a closure.
use Rattle.std.specs.Prelude.{Result, Ok, Err}
use Rattle.kernel_ask.specs.declared.ask.Answer.{Answer}
use Rattle.kernel_ask.specs.declared.ask.Call.{Call}
use Rattle.shell_state.specs.declared.state.ShellState.{ShellState}
use Rattle.shell_state.specs.declared.state.Stop.{Stop}
use Rattle.shell_state.specs.declared.task.Task.TheVariants.{Ask}
use Rattle.shell_state.specs.declared.task.Told.TheVariants.{Answered}
use Rattle.ksh_meaning.specs.Output.{Works, asks}
use Rattle.ksh_meaning.specs.Serving.{Ctx, Did, ServedBy}
use Rattle.ksh_meaning.specs.Tasks.{more, stopped}

module _ {C S : Type 0} (g : Ctx C S) {A : Type 0} where
  -- it was answered, and what follows was done
  pub served_ask : {f m f' : C × S} {s s' : ShellState} {c : Call} {a : Answer} {x : Result A Stop} (k : ShellState → Answer → Works A) → Did g f (s, Ask c) (Ok (s', Answered a)) m → ServedBy g m (k s' a) x f' → ServedBy g f (asks c k s) x f'
  served_ask k d h = more d h

  -- it ended the whole
  pub served_unasked : {f f' : C × S} {s : ShellState} {c : Call} {e : Stop} (k : ShellState → Answer → Works A) → Did g f (s, Ask c) (Err e) f' → ServedBy g f (asks c k s) (Err e) f'
  served_unasked k d = stopped d
