use Rattle.std.proofs.Common.{◌≡◌, ◌++◌, drop, take}
use Rattle.ksh_kinds.specs.Words.{path_front}
use Rattle.tree_parts.proofs.names.path_length.Given as goal

-- the bytes so far may stand in a path
abbrev pub invariant-loop-i : goal.invariant-loop-i
invariant-loop-i l = path_front l.bytes ≡ take l.i l.bytes ++ path_front (drop l.i l.bytes)
