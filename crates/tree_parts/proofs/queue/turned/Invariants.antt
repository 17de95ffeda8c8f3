use Rattle.std.proofs.Common.{◌≡◌, ◌++◌, length, reverse}
use Rattle.tree_parts.proofs.queue.turned.Given as goal

-- those that were turned stand before the rest
abbrev pub invariant-loop-last : goal.invariant-loop-last
invariant-loop-last g l = reverse l.fn.items ≡ l.turned ++ reverse l.left

abbrev pub decreases-loop-last : goal.decreases-loop-last
decreases-loop-last g l = length l.left
