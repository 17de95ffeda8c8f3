use Rattle.ksh_parser.specs.Going.{CanBeHeard}
use Rattle.ksh_parser.proofs.Building.{Builds}
use Rattle.ksh_parser.proofs.Going.{Going}
use Rattle.ksh_parser.proofs.build.hear_all.Given as goal

-- what was heard is built, and what is left can be heard
abbrev pub invariant-loop : goal.invariant-loop
invariant-loop l = record {
  built : Builds l.script l.notes.texts l.cursor.places l.frames;
  going : CanBeHeard l.script l.notes.texts → Going l.script l.notes.texts l.cursor.places l.frames;
}
