use Rattle.std.proofs.Common.{◌≡◌, drop}
use Rattle.std.specs.List.{list_all}
use Rattle.ksh_unparse.specs.Quoting.{is_simple}
use Rattle.ksh_unparse.proofs.quoting.all_simple.Given as goal

-- those so far are
abbrev pub invariant-loop-byte : goal.invariant-loop-byte
invariant-loop-byte l = list_all is_simple (drop l.byte-index l.bytes) ≡ list_all is_simple l.bytes
