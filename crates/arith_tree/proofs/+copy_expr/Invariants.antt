use Rattle.std.proofs.Common.{◌≡◌, take}
use Rattle.arith_tree.proofs.+copy_expr.Given as goal

-- the copies of the links so far
abbrev pub invariant-copies::copy_links-loop-link : goal.invariant-copies::copy_links-loop-link
invariant-copies::copy_links-loop-link l = l.copies ≡ take l.link-index l.links
