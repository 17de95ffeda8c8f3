use Rattle.std.proofs.Common.{◌≡◌}
use Rattle.script_notes.proofs.Keeping.{Keeps}
use Rattle.script_notes.proofs.script.note_script.Given as goal

-- what was noted is what the scanner read, and lines are counted in the same text
abbrev pub invariant-loop : goal.invariant-loop
invariant-loop l = Keeps l.text l.scanner.reading.left.items l.scanner.state l.noting × (l.lines.0 ≡ l.text)
