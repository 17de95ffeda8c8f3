use Rattle.std.proofs.Common.{◌≡◌, length, drop}
use Rattle.ksh_unparse.specs.Layout.{end_from}
use Rattle.ksh_unparse.proofs.ends.choose_end.Given as goal

-- the words so far are lines
abbrev pub invariant-numbers : goal.invariant-numbers
invariant-numbers l =
    (end_from (length (drop l.index l.body)) l.number l.body ≡ end_from (length l.body) 0 l.body) × (l.number ≡ l.index)
