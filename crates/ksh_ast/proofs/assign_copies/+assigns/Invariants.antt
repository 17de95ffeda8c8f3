use Rattle.std.proofs.Common.{◌≡◌, take}
use Rattle.ksh_ast.proofs.assign_copies.+assigns.Given as goal

-- the copies of the members so far
abbrev pub invariant-copy_members-loop-member : goal.invariant-copy_members-loop-member
invariant-copy_members-loop-member l = l.copies ≡ take l.member-index l.members

-- the copies of the arguments so far
abbrev pub invariant-copy_arguments-loop-argument : goal.invariant-copy_arguments-loop-argument
invariant-copy_arguments-loop-argument l = l.copies ≡ take l.argument-index l.arguments
