use Rattle.std.proofs.Common.{◌≡◌, ℕ, ◌-◌, ◌<◌, ◌≤◌, true, length}
use Rattle.ksh_lexer.specs.Bodies.{IsOther, starts_line}
use Rattle.ksh_lexer.proofs.here.find_end.Given as goal

-- a line begins there, and none before it is the word
abbrev pub invariant-loop-tabs : goal.invariant-loop-tabs
invariant-loop-tabs l = record {
  ordered : l.from ≤ l.at;
  within : l.at ≤ length l.text;
  starts : starts_line l.text l.from l.at ≡ true;
  first : (k : ℕ) → l.from ≤ k → k < l.at → IsOther l.text l.word l.tabs l.from k;
}

abbrev pub decreases-loop-tabs : goal.decreases-loop-tabs
decreases-loop-tabs l = length l.text - l.at
