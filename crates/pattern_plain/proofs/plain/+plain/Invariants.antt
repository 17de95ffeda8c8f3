use Rattle.std.proofs.Common.{◌≡◌, ℕ, ◌+◌, ◌-◌, ◌*◌, ◌<◌, ◌≤◌, ◌&&◌, min, false, take, drop, length}
use Rattle.ksh_pattern.specs.Match.{part_matches, matches, one_matches, any_number}
use Rattle.pattern_plain.proofs.Weights.{weight, weights, heaviest}
use Rattle.pattern_plain.proofs.plain.+plain.Given as goal

-- the alternatives before this one don't match
abbrev pub invariant-either-loop-parts : goal.invariant-either-loop-parts
invariant-either-loop-parts l = one_matches l.alternatives l.text ≡ one_matches (drop l.parts-index l.alternatives) l.text

-- no earlier cut serves
abbrev pub invariant-any_number-loop-cut : goal.invariant-any_number-loop-cut
invariant-any_number-loop-cut l = record {
  begun : 1 ≤ l.cut;
  some : 0 < length l.text;
  none : (i : ℕ) → 1 ≤ i → i < l.cut → (one_matches l.alternatives (take i l.text) && any_number (one_matches l.alternatives) (drop i l.text)) ≡ false;
}

abbrev pub invariant-one_and_more-loop-cut : goal.invariant-one_and_more-loop-cut
invariant-one_and_more-loop-cut l = (i : ℕ) → i < l.cut → (one_matches l.alternatives (take i l.text) && any_number (one_matches l.alternatives) (drop i l.text)) ≡ false

abbrev pub invariant-all-loop-cut : goal.invariant-all-loop-cut
invariant-all-loop-cut l = (i : ℕ) → i < l.cut → (part_matches l.first (take i l.text) && matches l.rest (drop i l.text)) ≡ false

abbrev pub decreases-any_number-loop-cut : goal.decreases-any_number-loop-cut
decreases-any_number-loop-cut l = length l.text + 1 - l.cut

abbrev pub decreases-one_and_more-loop-cut : goal.decreases-one_and_more-loop-cut
decreases-one_and_more-loop-cut l = length l.text + 1 - l.cut

abbrev pub decreases-all-loop-cut : goal.decreases-all-loop-cut
decreases-all-loop-cut l = length l.text + 1 - l.cut

-- a text is never longer than the one before, and a list of parts never heavier
abbrev pub decreases-one : goal.decreases-one
decreases-one l = 8 * weight l.part.now + 2 * length l.text.now

abbrev pub decreases-all_at : goal.decreases-all_at
decreases-all_at l = 8 * (1 + weight l.first.now + weights l.rest.now) + 2 * length l.text.now

abbrev pub decreases-all : goal.decreases-all
decreases-all l = 8 * weights l.parts.now + 2 * length l.text.now + 1

abbrev pub decreases-either : goal.decreases-either
decreases-either l = 8 * heaviest l.alternatives.now + 2 * length l.text.now + 2

abbrev pub decreases-either_at : goal.decreases-either_at
decreases-either_at l = 8 * heaviest l.alternatives.now + 2 * length l.text.now + (5 - 2 * min l.cut 1)

abbrev pub decreases-any_number : goal.decreases-any_number
decreases-any_number l = 8 * heaviest l.alternatives.now + 2 * length l.text.now + 4

abbrev pub decreases-one_and_more : goal.decreases-one_and_more
decreases-one_and_more l = 8 * heaviest l.alternatives.now + 2 * length l.text.now + 6

abbrev pub decreases-group : goal.decreases-group
decreases-group l = 8 * heaviest l.alternatives.now + 2 * length l.text.now + 7
