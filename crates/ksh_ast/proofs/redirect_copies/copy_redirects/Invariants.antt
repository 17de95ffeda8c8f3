use Rattle.std.proofs.Common.{◌≡◌, take}
use Rattle.ksh_ast.proofs.redirect_copies.copy_redirects.Given as goal

-- the copies of the redirections so far
abbrev pub invariant-loop-redirect : goal.invariant-loop-redirect
invariant-loop-redirect l = l.copies ≡ take l.redirect-index l.redirects
