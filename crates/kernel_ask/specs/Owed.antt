-- The entries that a port must still have room for.
use Rattle.std.specs.Prelude.{ℕ}
use Rattle.kernel_ask.specs.declared.ask.Phase.{Phase}
use Rattle.kernel_ask.specs.declared.ask.Phase.TheVariants.{Made, Begun, Unrun, Waited}

-- a forked shell is marked once, and waited for once where it has begun
abbrev pub owed : Phase → ℕ
owed Made = 2
owed Begun = 1
owed Unrun = 0
owed Waited = 0
