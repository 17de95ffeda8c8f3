use Rattle.std.proofs.Common.{rules, subst}
use Rattle.ksh_ast.specs.declared.tree.Item.{Item}
use Rattle.std.specs.Prelude.{List}
use Rattle.script_notes.specs.Arranged.{Hears, StepsOn}
use Rattle.ksh_parser.proofs.Building.{gives_built, goes_on}
use Rattle.ksh_parser.proofs.Going.{goes_on_going, heard_not_stray, opens_not_stray}
use Rattle.ksh_parser.proofs.build.hear_all.Goals as goal

pub returns-in_err-open_list-clause-strays : goal.returns-in_err-open_list-clause-strays
returns-in_err-open_list-clause-strays c can =
    opens_not_stray (List Item) c.args.frames.now c.open_list.new.frames _ c.from_residual.result (search rules) c.requires c.in_err-open_list.ensures.moves

pub returns-in_err-hear-in-Some-clause-strays : goal.returns-in_err-hear-in-Some-clause-strays
returns-in_err-hear-in-Some-clause-strays c can =
    heard_not_stray (List Item) c.args.script.now c.args.notes.now.texts c.in-Some.event c.loop.cursor.places c.next.new.self.places c.loop.frames c.hear.new.frames _ c.from_residual-in_err-hear-in-Some.result (search rules)
    can (subst (λ o. StepsOn c.args.notes.now.texts o c.loop.cursor.places c.next.new.self.places) c.in-Some.is c.in_ok-event.ensures.steps) c.in_err-hear-in-Some.ensures.goes (c.loop.invariant.going can)

pub returns-in-None-clause-built : goal.returns-in-None-clause-built
returns-in-None-clause-built c =
    gives_built c.args.script.now c.args.notes.now c.loop.cursor.places c.next.new.self.places c.loop.frames c.finish.result
    (subst (λ o. Hears c.args.notes.now.texts o c.loop.cursor.places c.next.new.self.places) c.in-None.is c.in_ok-event.ensures.heard) c.finish.ensures.listed c.loop.invariant.built

pub loop-preserved : goal.loop-preserved
loop-preserved c = record {
  built = goes_on c.args.script.now c.args.notes.now.texts c.in-Some.event c.loop.cursor.places c.next.new.self.places c.loop.frames c.hear.new.frames c.in_ok-hear-in-Some.field-0
      (subst (λ o. Hears c.args.notes.now.texts o c.loop.cursor.places c.next.new.self.places) c.in-Some.is c.in_ok-event.ensures.heard) c.in_ok-hear-in-Some.ensures.follows c.loop.invariant.built;
  going = λ can. goes_on_going c.args.script.now c.args.notes.now.texts c.in-Some.event c.loop.cursor.places c.next.new.self.places c.loop.frames c.hear.new.frames c.in_ok-hear-in-Some.field-0
      can (subst (λ o. StepsOn c.args.notes.now.texts o c.loop.cursor.places c.next.new.self.places) c.in-Some.is c.in_ok-event.ensures.steps) c.in_ok-hear-in-Some.ensures.goes (c.loop.invariant.going can);
}
