use Rattle.std.proofs.Common.{rules, arith}
use Rattle.script_notes.proofs.Hearing.{body_ends, note_behind, note_heard, script_ends}
use Rattle.script_notes.proofs.cursor.Cursor.next.Goals as goal

pub returns-then-place-text-clause-heard : goal.returns-then-place-text-clause-heard
returns-then-place-text-clause-heard c =
    note_heard c.args.notes.now.texts _ c.in-Some.place c.args.self.now.places c.pop.new.self c.push.new.self c.hear.new.self.places c.in_ok-hear.field-0 (search rules)
    (note_behind c.args.notes.now.texts c.in-Some.place c.of-text.result.now _ c.of-text.ensures (search rules)) (search rules) c.in_ok-hear.ensures.told c.in_ok-hear.ensures.place

pub returns-then-is_empty-clause-heard : goal.returns-then-is_empty-clause-heard
returns-then-is_empty-clause-heard c =
    script_ends c.args.notes.now.texts c.in-Some.place c.of-text.result.now c.args.self.now.places c.pop.new.self c.pop.new.self (search rules) (search rules) c.of-text.ensures (omega arith)

pub returns-clause-heard : goal.returns-clause-heard
returns-clause-heard c = body_ends c.args.notes.now.texts c.in-Some.place c.of-text.result.now c.args.self.now.places c.pop.new.self (search rules) (search rules) c.of-text.ensures (omega arith)
