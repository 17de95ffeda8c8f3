use Rattle.std.proofs.Common.{◌≡◌, ◌+◌}
use Rattle.ast_size.specs.Parts.{size_of, size_of_all, waiting}
use Rattle.ast_size.proofs.count.size.Given as goal

-- what was counted and what waits are the whole
abbrev pub invariant-loop : goal.invariant-loop
invariant-loop l = l.nodes + size_of_all (waiting l.left) ≡ size_of l.fn.part
