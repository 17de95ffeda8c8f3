use Rattle.std.proofs.Common.{◌≡◌}
use Rattle.ksh_unparse.specs.Paper.{paper_text}
use Rattle.ksh_unparse.specs.Stack.{to_write}
use Rattle.ksh_unparse.proofs.write.do_all.Given as goal

-- the text with what is left is the whole
abbrev pub invariant-rounds : goal.invariant-rounds
invariant-rounds l = paper_text l.paper (to_write l.left.tasks) ≡ paper_text l.fn.paper (to_write l.fn.left.tasks)
