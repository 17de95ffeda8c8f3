use Rattle.std.proofs.Common.{◌≡◌, ◌++◌, length, map}
use Rattle.ksh_ast.specs.declared.tree.TreePart.TheVariants as part
use Rattle.tree_parts.proofs.names.members.Given as goal

-- the members so far stand before the rest
abbrev pub invariant-loop-name : goal.invariant-loop-name
invariant-loop-name l = l.parts ++ map part.Member l.left ≡ map part.Member l.fn.names

abbrev pub decreases-loop-name : goal.decreases-loop-name
decreases-loop-name l = length l.left
