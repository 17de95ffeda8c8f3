use Rattle.std.proofs.Common.{◌≡◌, ◌+◌, ◌*◌, drop}
use Rattle.std.specs.List.{list_all}
use Rattle.pattern_plain.specs.Limits.{fits, all_fit}
use Rattle.pattern_plain.proofs.limits.+fits.Given as goal

-- the parts before this one fit
abbrev pub invariant-all_fit-loop-part : goal.invariant-all_fit-loop-part
invariant-all_fit-loop-part l = list_all fits l.parts ≡ list_all fits (drop l.part-index l.parts)

abbrev pub invariant-some_fit-loop-parts : goal.invariant-some_fit-loop-parts
invariant-some_fit-loop-parts l = list_all all_fit l.alternatives ≡ list_all all_fit (drop l.parts-index l.alternatives)

abbrev pub decreases-fits : goal.decreases-fits
decreases-fits l = 3 * goal.size-fits l

abbrev pub decreases-all_fit : goal.decreases-all_fit
decreases-all_fit l = 3 * goal.size-all_fit l + 1

abbrev pub decreases-some_fit : goal.decreases-some_fit
decreases-some_fit l = 3 * goal.size-some_fit l + 2
