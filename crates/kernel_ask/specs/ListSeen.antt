-- What a port of the world of the tests tells.
use Rattle.std.specs.Prelude.{◌≤◌, List, Some, length}
use Rattle.kernel_ask.specs.declared.ask.Phase.{Phase}
use Rattle.kernel_ask.specs.declared.ask.ForkRefused.{ForkRefused}
use Rattle.kernel_ask.specs.declared.ask.ForkRefused.TheVariants.{Memory as WantsMemory, Refused as IsRefused}
use Rattle.kernel_ask.specs.declared.list_port.ListPort.{ListPort}
use Rattle.kernel_ask.specs.Seen.{Seen, most_forks}

abbrev pub seen_of : {F : Type 0} → ListPort F → Seen F
seen_of p = record { done = Some p.done.items; children = p.children.items; live = p.live; name = p.name; origin = 0 }

-- a fork is refused only where the numbers are used up
abbrev pub IsFull : {F : Type 0} → List Phase → ForkRefused F → Type 0
IsFull children (WantsMemory _) = Unit {0}
IsFull children (IsRefused _ _) = most_forks ≤ length children
