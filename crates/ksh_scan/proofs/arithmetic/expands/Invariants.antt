use Rattle.std.proofs.Common.{◌≡◌, drop}
use Rattle.ksh_scan.specs.Arithmetic.{expands}
use Rattle.ksh_scan.proofs.arithmetic.expands.Given as goal

abbrev pub invariant-loop-byte : goal.invariant-loop-byte
invariant-loop-byte l = expands (drop l.byte-index l.text) ≡ expands l.text
