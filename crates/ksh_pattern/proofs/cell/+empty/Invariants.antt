use Rattle.std.proofs.Common.{◌≡◌, ◌+◌, ◌*◌, [], drop}
use Rattle.ksh_pattern.specs.Match.{matches, one_matches}
use Rattle.ksh_pattern.proofs.cell.+empty.Given as goal

-- the parts before this one match the empty text
abbrev pub invariant-empty_all-loop-part : goal.invariant-empty_all-loop-part
invariant-empty_all-loop-part l = matches l.parts [] ≡ matches (drop l.part-index l.parts) []

-- the alternatives before this one don't
abbrev pub invariant-empty_some-loop-parts : goal.invariant-empty_some-loop-parts
invariant-empty_some-loop-parts l = one_matches l.alternatives [] ≡ one_matches (drop l.parts-index l.alternatives) []

-- a part is as high as it is, and a list as its highest part
abbrev pub decreases-empty_part : goal.decreases-empty_part
decreases-empty_part l = 3 * goal.size-empty_part l

abbrev pub decreases-empty_all : goal.decreases-empty_all
decreases-empty_all l = 3 * goal.size-empty_all l + 1

abbrev pub decreases-empty_some : goal.decreases-empty_some
decreases-empty_some l = 3 * goal.size-empty_some l + 2
