use Rattle.std.proofs.Common.{◌≡◌, drop}
use Rattle.ksh_scan.specs.Arithmetic.{is_all_blank}
use Rattle.ksh_scan.proofs.arithmetic.is_all_blank.Given as goal

abbrev pub invariant-loop-byte : goal.invariant-loop-byte
invariant-loop-byte l = is_all_blank (drop l.byte-index l.text) ≡ is_all_blank l.text
