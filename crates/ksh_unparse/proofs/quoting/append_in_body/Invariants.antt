use Rattle.std.proofs.Common.{◌≡◌, ◌++◌, drop}
use Rattle.ksh_unparse.specs.Quoting.{each_byte, in_body}
use Rattle.ksh_unparse.proofs.quoting.append_in_body.Given as goal

-- the text so far, and what is left of the bytes
abbrev pub invariant-loop-byte : goal.invariant-loop-byte
invariant-loop-byte l = l.text ++ each_byte in_body (drop l.byte-index l.bytes) ≡ l.fn.text ++ each_byte in_body l.bytes
