use Rattle.std.proofs.Common.{◌≡◌, ℕ, ◌-◌, ◌<◌, ◌≤◌, true, length}
use Rattle.ksh_lexer.specs.Begin.{runs}
use Rattle.ksh_lexer.proofs.table.run_end.Given as goal

-- each byte so far stands for itself
abbrev pub invariant-loop-end : goal.invariant-loop-end
invariant-loop-end l = record {
  ordered : l.from ≤ l.end;
  within : l.end ≤ length l.text;
  each : (k : ℕ) → l.from ≤ k → k < l.end → runs l.mode l.text k ≡ true;
}

abbrev pub decreases-loop-end : goal.decreases-loop-end
decreases-loop-end l = length l.text - l.end
