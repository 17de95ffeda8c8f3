use Rattle.std.proofs.Common.{◌≡◌, ◌+◌, length}
use Rattle.ksh_scan.specs.Arithmetic.{place_of}
use Rattle.ksh_scan.proofs.arithmetic.place_of.Given as goal

-- the place stands before what is left
abbrev pub invariant-loop-first : goal.invariant-loop-first
invariant-loop-first l = record {
  place : l.place + place_of l.rest l.left ≡ place_of l.text l.count;
  ahead : l.place + length l.rest ≡ length l.text;
}

abbrev pub decreases-loop-first : goal.decreases-loop-first
decreases-loop-first l = length l.rest
