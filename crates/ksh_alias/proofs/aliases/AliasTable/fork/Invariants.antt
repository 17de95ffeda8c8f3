use Rattle.std.proofs.Common.{◌≡◌, ◌++◌}
use Rattle.ksh_alias.proofs.aliases.AliasTable.fork.Given as goal

-- the rows so far, and those that are left
abbrev pub invariant-loop-name : goal.invariant-loop-name
invariant-loop-name l = l.copy ++ l.name-iterator ≡ l.fn.self
