use Rattle.std.proofs.Common.{◌≡◌, ◌++◌, drop}
use Rattle.script_notes.specs.Noted.{marked}
use Rattle.script_notes.proofs.noting.add_marks.Given as goal

abbrev pub invariant-loop-mark : goal.invariant-loop-mark
invariant-loop-mark l = l.notes ++ marked (drop l.mark-index l.marks) l.moment ≡ l.initial.notes ++ marked l.marks l.moment
