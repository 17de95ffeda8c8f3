use Rattle.std.proofs.Common.{◌≡◌, drop}
use Rattle.ksh_scan.specs.After.{tells_command_word}
use Rattle.ksh_scan.proofs.after.tells_command_word.Given as goal

abbrev pub invariant-loop-mark : goal.invariant-loop-mark
invariant-loop-mark l = tells_command_word (drop l.mark-index l.marks) ≡ tells_command_word l.marks
