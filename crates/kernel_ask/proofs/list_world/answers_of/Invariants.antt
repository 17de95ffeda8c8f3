use Rattle.std.proofs.Common.{◌≡◌, drop}
use Rattle.kernel_ask.specs.Listed.{answers_for}
use Rattle.kernel_ask.proofs.list_world.answers_of.Given as goal

-- what was passed over has not that name
abbrev pub invariant-loop-listed : goal.invariant-loop-listed
invariant-loop-listed l = answers_for (drop l.listed-index l.lists) l.name ≡ answers_for l.fn.lists l.name
