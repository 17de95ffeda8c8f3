use Rattle.std.proofs.Common.{◌≡◌, ◌≤◌, drop}
use Rattle.std.specs.Prelude.{nat_lt}
use Rattle.ksh_pattern.specs.Reading.{unopened}
use Rattle.ksh_pattern.proofs.token.has_end.Given as goal

-- among the tokens ahead is a closing more than are open
abbrev pub invariant-loop-token : goal.invariant-loop-token
invariant-loop-token l = record {
  bound : l.open ≤ l.token-index;
  same : nat_lt 0 (unopened l.tokens) ≡ nat_lt l.open (unopened (drop l.token-index l.tokens));
}
