use Rattle.std.proofs.Common.{◌≡◌, ◌<◌, ℕ, false, drop}
use Rattle.ksh_pattern.specs.Match.{matches}
use Rattle.ksh_pattern.proofs.search.longest_tail.Given as goal

-- no earlier start matches
abbrev pub invariant-loop-start : goal.invariant-loop-start
invariant-loop-start l = (s : ℕ) → s < l.start → matches l.parts (drop s l.text) ≡ false
