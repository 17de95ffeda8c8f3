use Rattle.std.proofs.Common.{◌≡◌, ◌+◌, length}
use Rattle.ksh_arith.specs.Grammar.{name_length}
use Rattle.ksh_arith.proofs.scan.name_length.Given as goal

-- those so far, and those at the front of what is left
abbrev pub invariant-loop-first : goal.invariant-loop-first
invariant-loop-first l = record {
  whole : name_length l.text ≡ l.count + name_length l.rest;
  ahead : l.count + length l.rest ≡ length l.text;
}

abbrev pub decreases-loop-first : goal.decreases-loop-first
decreases-loop-first l = length l.rest
