use Rattle.std.proofs.Common.{rules, sym, ◌∙◌, false}
use Rattle.tree_build.proofs.Onto.{whole_on, value_on}
use Rattle.tree_build.proofs.Defining.{reads_value_word}
use Rattle.tree_build.proofs.MovingQ.{moves_entry, moves_name, moves_named}
use Rattle.tree_build.proofs.words.give_entry.Goals as goal

pub returns-clause-stays : goal.returns-clause-stays
returns-clause-stays c =
    let whole = c.in-Some-Whole-default-default-false in
    reads_value_word whole.from whole.field-0-1 _ _ _ _ _ _
    (sym c.frames.view_is ∙ whole_on c.frames.inside.opened c.pop.new.self _ whole.from whole.field-0-1 false (search rules))
    (value_on c.pop.new.self c.pop-2.new.self _ (search rules))
    (value_on c.push_after.new.self c.pop-2.new.self _ (search rules) ∙ (search rules))

pub returns-clause-moves_entry : goal.returns-clause-moves_entry
returns-clause-moves_entry c =
    let whole = c.in-Some-Whole-default-default-false in
    moves_entry whole.from whole.field-0-1 _ _ _ _ _ _
    (sym c.frames.view_is ∙ whole_on c.frames.inside.opened c.pop.new.self _ whole.from whole.field-0-1 false (search rules))
    (value_on c.pop.new.self c.pop-2.new.self _ (search rules))
    (value_on c.push_after.new.self c.pop-2.new.self _ (search rules) ∙ (search rules))

pub returns-clause-moves_name : goal.returns-clause-moves_name
returns-clause-moves_name c =
    let whole = c.in-Some-Whole-default-default-false in
    moves_name whole.from whole.field-0-1 _ _ _ _ _ _
    (sym c.frames.view_is ∙ whole_on c.frames.inside.opened c.pop.new.self _ whole.from whole.field-0-1 false (search rules))
    (value_on c.pop.new.self c.pop-2.new.self _ (search rules))
    (value_on c.push_after.new.self c.pop-2.new.self _ (search rules) ∙ (search rules))

pub returns-clause-moves_named : goal.returns-clause-moves_named
returns-clause-moves_named c =
    let whole = c.in-Some-Whole-default-default-false in
    moves_named whole.from whole.field-0-1 _ _ _ _ _ _
    (sym c.frames.view_is ∙ whole_on c.frames.inside.opened c.pop.new.self _ whole.from whole.field-0-1 false (search rules))
    (value_on c.pop.new.self c.pop-2.new.self _ (search rules))
    (value_on c.push_after.new.self c.pop-2.new.self _ (search rules) ∙ (search rules))
