use Rattle.std.proofs.Common.{◌≡◌, ◌+◌, ◌≤◌, drop}
use Rattle.ksh_lexer.specs.Place.{newlines}
use Rattle.ksh_lexer.proofs.count.newlines.Given as goal

-- the newlines so far, and those that are left
abbrev pub invariant-loop-byte : goal.invariant-loop-byte
invariant-loop-byte l = record {
  few : l.count ≤ l.byte-index;
  counted : l.count + newlines (drop l.byte-index l.bytes) ≡ newlines l.bytes;
}
