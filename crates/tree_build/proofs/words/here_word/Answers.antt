use Rattle.std.proofs.Common.{rules, sym, ◌∙◌}
use Rattle.tree_build.proofs.Onto.{whole_on, here_operator_on, here_word_on}
use Rattle.tree_build.proofs.Wording.{reads_here_word}
use Rattle.tree_build.proofs.MovingQ.{moves_here_word}
use Rattle.tree_build.proofs.words.here_word.Goals as goal

pub returns-clause-stays : goal.returns-clause-stays
returns-clause-stays c =
    let whole = c.in-Some-Whole in
    reads_here_word c.args.script.now whole.from whole.to whole.field-0-2 _ _ _ _ _ _
    (sym c.frames.view_is ∙ whole_on c.frames.inside.opened c.pop.new.self _ whole.from whole.to whole.field-0-2 (search rules))
    (here_operator_on c.pop.new.self c.pop-2.new.self _ (search rules))
    (here_word_on c.push_after.new.self c.pop-2.new.self _ (search rules) ∙ (search rules))

pub returns-clause-moves : goal.returns-clause-moves
returns-clause-moves c =
    let whole = c.in-Some-Whole in
    moves_here_word c.args.script.now whole.from whole.to whole.field-0-2 _ _ _ _ _ _
    (sym c.frames.view_is ∙ whole_on c.frames.inside.opened c.pop.new.self _ whole.from whole.to whole.field-0-2 (search rules))
    (here_operator_on c.pop.new.self c.pop-2.new.self _ (search rules))
    (here_word_on c.push_after.new.self c.pop-2.new.self _ (search rules) ∙ (search rules))
