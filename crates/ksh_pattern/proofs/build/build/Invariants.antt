use Rattle.std.proofs.Common.{◌≡◌, ◌+◌, ◌≤◌, ◌++◌, drop}
use Rattle.ksh_pattern.specs.Reading.{settled, unopened}
use Rattle.ksh_pattern.specs.Building.{spelled, depth}
use Rattle.ksh_pattern.proofs.build.build.Given as goal

-- what is spelled, and the tokens ahead, in which all that is open ends
abbrev pub invariant-loop-index : goal.invariant-loop-index
invariant-loop-index l = record {
  spelled : spelled l.builder ++ settled (depth l.builder) l.builder.deep (drop l.index l.tokens) ≡ settled 0 0 l.tokens;
  ends : depth l.builder + l.builder.deep ≤ unopened (drop l.index l.tokens);
}
