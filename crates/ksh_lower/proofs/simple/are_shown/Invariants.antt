use Rattle.std.proofs.Common.{◌≡◌, drop}
use Rattle.ksh_lower.specs.Simple.{are_shown}
use Rattle.ksh_lower.proofs.simple.are_shown.Given as goal

-- the bytes so far stand for themselves
abbrev pub invariant-loop-byte : goal.invariant-loop-byte
invariant-loop-byte l = are_shown l.quoted (drop l.byte-index l.bytes) ≡ are_shown l.quoted l.bytes
