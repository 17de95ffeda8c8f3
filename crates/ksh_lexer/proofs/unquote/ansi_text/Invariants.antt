use Rattle.std.proofs.Common.{◌≡◌, ◌++◌, length}
use Rattle.ksh_lexer.specs.Unquoted.{ansi_bytes}
use Rattle.ksh_lexer.proofs.unquote.ansi_text.Given as goal

-- what was read, and what is left
abbrev pub invariant-loop-first : goal.invariant-loop-first
invariant-loop-first l = l.text ++ ansi_bytes l.rest ≡ ansi_bytes l.fn.inside

abbrev pub decreases-loop-first : goal.decreases-loop-first
decreases-loop-first l = length l.rest
