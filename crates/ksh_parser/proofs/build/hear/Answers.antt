use Rattle.std.proofs.Common.{sym, subst}
use Rattle.ksh_parser.specs.Going.{EventGoes}
use Rattle.ksh_parser.proofs.Going.{begin_goes, body_end_goes, mark_goes}
use Rattle.ksh_parser.proofs.build.hear.Goals as goal

pub returns-in-Mark-clause-goes : goal.returns-in-Mark-clause-goes
returns-in-Mark-clause-goes c = subst (λ e. EventGoes {A = Unit {0}} c.args.script.now e c.args.frames.now c.hear_mark.new.frames c.hear_mark.result) (sym c.in-Mark.is)
    (mark_goes c.args.script.now c.in-Mark.mark c.in-Mark.moment c.args.frames.now c.hear_mark.new.frames c.hear_mark.result c.hear_mark.ensures.moves)

pub returns-in-BodyBegins-clause-goes : goal.returns-in-BodyBegins-clause-goes
returns-in-BodyBegins-clause-goes c = subst (λ e. EventGoes {A = Unit {0}} c.args.script.now e c.args.frames.now c.begin_body.new.frames c.begin_body.result) (sym c.in-BodyBegins.is)
    (begin_goes c.args.script.now c.args.frames.now c.begin_body.new.frames c.begin_body.result c.begin_body.ensures.moves)

pub returns-in-BodyEnds-clause-goes : goal.returns-in-BodyEnds-clause-goes
returns-in-BodyEnds-clause-goes c = subst (λ e. EventGoes {A = Unit {0}} c.args.script.now e c.args.frames.now c.end_body.new.frames c.end_body.result) (sym c.in-BodyEnds.is)
    (body_end_goes c.args.script.now c.args.frames.now c.end_body.new.frames c.end_body.result c.end_body.ensures.moves_simple c.end_body.ensures.moves_compound)
