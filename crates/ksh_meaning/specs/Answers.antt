-- What an answer says to one who made an ask of that kind. An answer of another kind is taken as Refused(Io).
use Rattle.std.specs.Prelude.{Bool, true, false, Option, Some, None}
use Rattle.kernel_ask.specs.declared.ask.Answer.{Answer}
use Rattle.kernel_ask.specs.declared.ask.Answer.TheVariants.{Taken, Refused}
use Rattle.kernel_ask.specs.declared.ask.Refusal.{Refusal}
use Rattle.kernel_ask.specs.declared.ask.Refusal.TheVariants.{Broken, Io}

-- why a Write was refused, nothing where its bytes were taken
abbrev pub write_refused : Answer → Option Refusal
write_refused Taken = None
write_refused (Refused r) = Some r
write_refused _ = Some Io

-- no reader was left
abbrev pub is_broken : Refusal → Bool
is_broken Broken = true
is_broken _ = false
