-- What may become of a start: a thread only where threads are asked for, a refusal only where a
-- fault was counted.
use Rattle.std.specs.Prelude.{◌≡◌, ℕ, ◌≤◌, Bool, true, ⊤, List, Contains}
use Rattle.kernel_ask.specs.Causes.{RoseBy}
use Rattle.shell_thread.specs.declared.spawner.Way.{Way}
use Rattle.shell_thread.specs.declared.spawner.Way.TheVariants.{Here, Thread, Refused}

abbrev pub FitsWay : ℕ → ℕ → Bool → Way → Type 0
FitsWay before now threads Here = before ≤ now
FitsWay before now threads (Thread _) = (before ≤ now) × (threads ≡ true)
FitsWay before now threads Refused = RoseBy 1 before now

-- what becomes of a start that is listed, or isn't
abbrev pub FitsList : List ℕ → ℕ → Way → Type 0
FitsList refused place Here = Contains refused place → ⊥
FitsList refused place (Thread _) = ⊥
FitsList refused place Refused = Contains refused place

-- the job gets a thread of its own, where one can be had
abbrev pub IsThread : Way → Type 0
IsThread Here = ⊥
IsThread (Thread _) = ⊤
IsThread Refused = ⊥
