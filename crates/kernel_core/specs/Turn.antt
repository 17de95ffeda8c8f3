-- What one ask of a shell that lives leads to.
use Rattle.std.specs.Prelude.{◌≡◌, ℕ, List, Option, Some, None, Result, Ok, Err}
use Rattle.kernel_ask.specs.declared.ask.Answer.{Answer}
use Rattle.kernel_ask.specs.declared.ask.Answer.TheVariants.{Refused}
use Rattle.kernel_ask.specs.declared.ask.Refusal.{Refusal}
use Rattle.ksh_base.specs.declared.memory.Memory.{Memory}
use Rattle.kernel_objects.specs.declared.shell.Shell.{Shell}
use Rattle.kernel_objects.specs.Rows.{set_name}
use Rattle.kernel_core.specs.declared.kernel.Kernel.{Kernel}

-- the answer that stands, with the kernel afterwards, or none: the ask isn't ready
pub data Turn : Type 0 where
  Answers : Answer → Kernel → Turn
  Waits : Turn

-- a refusal leaves the kernel
abbrev pub refused : Kernel → Refusal → Turn
refused k why = Answers (Refused why) k

-- the refusal where there is one, else that
abbrev pub unless : Kernel → Option Refusal → Turn → Turn
unless k (Some why) turn = refused k why
unless k None turn = turn

-- no answer stands for a shell that isn't there
abbrev pub by_shell : Option Shell → (Shell → Turn) → Turn
by_shell None f = Waits
by_shell (Some s) f = f s

-- the kernel with that shell in its place
abbrev pub with_shell : Kernel → List ℕ → Shell → Kernel
with_shell k who s = record k { shells = set_name who s k.shells }

-- a call did what stands there, or wanted memory and did nothing
abbrev pub Does : Turn → Result (Option Answer) Memory → Kernel → Kernel → Type 0
Does turn (Ok (Some a)) old new = turn ≡ Answers a new
Does turn (Ok None) old new = (turn ≡ Waits) × (new ≡ old)
Does turn (Err m) old new = new ≡ old
