use Rattle.std.proofs.Common.{◌≡◌, ◌<◌, ℕ, false}
use Rattle.ksh_pattern.specs.Ends.{tail_matches}
use Rattle.ksh_pattern.proofs.search.shortest_tail.Given as goal

-- no shorter tail matches
abbrev pub invariant-loop-length : goal.invariant-loop-length
invariant-loop-length l = (m : ℕ) → m < l.length → tail_matches l.parts l.text m ≡ false
