use Rattle.std.proofs.Common.{rules, sym, ◌∙◌}
use Rattle.tree_build.proofs.Onto.{whole_on, case_on, case_word_on}
use Rattle.tree_build.proofs.Compounding.{reads_case_word}
use Rattle.tree_build.proofs.MovingQ.{moves_case_word}
use Rattle.tree_build.proofs.words.give_case_word.Goals as goal

pub returns-clause-stays : goal.returns-clause-stays
returns-clause-stays c =
    let whole = c.in-Some-Whole in
    let line = c.in-Some-Opened-Case.line in
    reads_case_word line whole.field-0-0 whole.field-0-1 whole.field-0-2 _ _ _ _ _
    (sym c.frames.view_is ∙ whole_on c.frames.inside.opened c.pop.new.self _ whole.field-0-0 whole.field-0-1 whole.field-0-2 (search rules))
    (case_on c.pop.new.self c.pop-2.new.self _ line (search rules))
    (case_word_on c.push_after.new.self c.pop-2.new.self _ line (search rules))

pub returns-clause-moves : goal.returns-clause-moves
returns-clause-moves c =
    let whole = c.in-Some-Whole in
    let line = c.in-Some-Opened-Case.line in
    moves_case_word line whole.field-0-0 whole.field-0-1 whole.field-0-2 _ _ _ _ _
    (sym c.frames.view_is ∙ whole_on c.frames.inside.opened c.pop.new.self _ whole.field-0-0 whole.field-0-1 whole.field-0-2 (search rules))
    (case_on c.pop.new.self c.pop-2.new.self _ line (search rules))
    (case_word_on c.push_after.new.self c.pop-2.new.self _ line (search rules))
