use Rattle.std.proofs.Common.{◌≡◌, length}
use Rattle.ksh_lexer.specs.Bodies.{past_tabs}
use Rattle.ksh_lexer.proofs.here.past_tabs.Given as goal

-- what is left is the same
abbrev pub invariant-loop-behind : goal.invariant-loop-behind
invariant-loop-behind l = past_tabs l.fn.rest ≡ past_tabs l.left

abbrev pub decreases-loop-behind : goal.decreases-loop-behind
decreases-loop-behind l = length l.left
