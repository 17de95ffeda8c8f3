-- What a shell does from its start.
use Rattle.std.specs.Prelude.{◌≡◌, ℕ, List, [], Option, Some, None, Result, Ok, Err}
use Rattle.kernel_ask.specs.declared.ask.Entry.{Entry}
use Rattle.shell_thread.specs.declared.album.ShellStop.{ShellStop}
use Rattle.shell_thread.specs.declared.album.ShellStop.TheVariants.{Meant, Spent, Memory, Unrun, Before}
use Rattle.shell_state.specs.declared.start.Start.{Start}
use Rattle.shell_state.specs.declared.state.Flow.{Flow}
use Rattle.shell_state.specs.declared.state.Stop.{Stop}
use Rattle.shell_state.specs.declared.state.Stop.TheVariants as stop
use Rattle.ksh_meaning.specs.Prog.{Done, Spent as IsSpent}
use Rattle.ksh_meaning.specs.Mean.{Whole}
use Rattle.ksh_meaning.specs.Units.{End}
use Rattle.ksh_meaning.specs.Theorem.{calls, answers}

-- A transcript of a shell with this start, its stop and its status. Meant: the meaning, fed the answers of the
-- transcript, uses them all, asks what the transcript asked, and ends with that status. Spent: it has then spent the
-- budget. Memory: its answered asks are the transcript's. Unrun: no thread was had, and nothing was asked. A shell
-- that ended before its list began has no run.
abbrev pub Run : Start → List (Entry Start) → ShellStop → ℕ → Type 0
Run start es Meant status = (end : End) × (Whole start (answers es) ≡ record { asks = calls es; left = []; rest = Done end }) × (status ≡ end.0.status)
Run start es Spent status = (Whole start (answers es) ≡ record { asks = calls es; left = []; rest = IsSpent }) × (status ≡ 123)
Run start es Memory status = ((Whole start (answers es)).asks ≡ calls es) × (status ≡ 121)
Run start es Unrun status = (es ≡ []) × (status ≡ 254)
Run start es Before status = ⊥

abbrev pub RunTold : Start → Option (List (Entry Start)) → ShellStop → ℕ → Type 0
RunTold start None stop status = Unit {0}
RunTold start (Some es) stop status = Run start es stop status

-- the stop and the status of a shell whose list ended so, with this status in its state
abbrev pub stop_by : Result Flow Stop → ShellStop
stop_by (Ok flow) = Meant
stop_by (Err stop.Spent) = Spent
stop_by (Err stop.Memory) = Memory

abbrev pub status_by : Result Flow Stop → ℕ → ℕ
status_by (Ok flow) v = v
status_by (Err stop.Spent) v = 123
status_by (Err stop.Memory) v = 121
