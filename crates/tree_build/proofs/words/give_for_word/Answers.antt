use Rattle.std.proofs.Common.{rules, sym, ◌∙◌}
use Rattle.tree_build.proofs.Onto.{whole_on, for_words_on}
use Rattle.tree_build.proofs.Compounding.{reads_for_word}
use Rattle.tree_build.proofs.MovingQ.{moves_for_word}
use Rattle.tree_build.proofs.words.give_for_word.Goals as goal

pub returns-clause-stays : goal.returns-clause-stays
returns-clause-stays c =
    let whole = c.in-Some-Whole in
    let words = c.in-Some-ForWords in
    reads_for_word words.line words.select _ _ _ whole.field-0-0 whole.field-0-1 whole.field-0-2 _ _ _ _
    (sym c.frames.view_is ∙ whole_on c.frames.inside.opened c.pop.new.self _ whole.field-0-0 whole.field-0-1 whole.field-0-2 (search rules))
    (for_words_on c.pop.new.self c.pop-2.new.self _ words.line words.select (search rules))
    (for_words_on c.push_after.new.self c.pop-2.new.self _ words.line words.select (search rules) ∙ (search rules))

pub returns-clause-moves : goal.returns-clause-moves
returns-clause-moves c =
    let whole = c.in-Some-Whole in
    let words = c.in-Some-ForWords in
    moves_for_word words.line words.select _ _ _ whole.field-0-0 whole.field-0-1 whole.field-0-2 _ _ _ _
    (sym c.frames.view_is ∙ whole_on c.frames.inside.opened c.pop.new.self _ whole.field-0-0 whole.field-0-1 whole.field-0-2 (search rules))
    (for_words_on c.pop.new.self c.pop-2.new.self _ words.line words.select (search rules))
    (for_words_on c.push_after.new.self c.pop-2.new.self _ words.line words.select (search rules) ∙ (search rules))
