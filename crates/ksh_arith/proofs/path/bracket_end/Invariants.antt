use Rattle.std.proofs.Common.{◌≡◌, ◌≤◌, ◌+◌, length}
use Rattle.ksh_arith.specs.Grammar.{bracket_end}
use Rattle.ksh_arith.proofs.Scanning.{ahead}
use Rattle.ksh_arith.proofs.path.bracket_end.Given as goal

-- the bracket ends so many bytes on, where it does
abbrev pub invariant-loop-first : goal.invariant-loop-first
invariant-loop-first l = record {
  place : bracket_end l.fn.text 0 ≡ ahead l.at (bracket_end l.rest l.inner);
  on : l.at + length l.rest ≡ length l.fn.text;
  inner : l.inner ≤ l.at;
}

abbrev pub decreases-loop-first : goal.decreases-loop-first
decreases-loop-first l = length l.rest
