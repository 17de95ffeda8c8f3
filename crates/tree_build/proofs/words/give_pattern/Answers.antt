use Rattle.std.proofs.Common.{rules, sym, ◌∙◌}
use Rattle.tree_build.proofs.Onto.{whole_on, patterns_on}
use Rattle.tree_build.proofs.Compounding.{reads_one_pattern}
use Rattle.tree_build.proofs.MovingQ.{moves_pattern}
use Rattle.tree_build.proofs.words.give_pattern.Goals as goal

pub returns-clause-stays : goal.returns-clause-stays
returns-clause-stays c =
    let whole = c.in-Some-Whole in
    reads_one_pattern whole.field-0-0 whole.field-0-1 whole.field-0-2 _ _ _ _ _ _
    (sym c.frames.view_is ∙ whole_on c.frames.inside.opened c.pop.new.self _ whole.field-0-0 whole.field-0-1 whole.field-0-2 (search rules))
    (patterns_on c.pop.new.self c.pop-2.new.self _ (search rules))
    (patterns_on c.push_after.new.self c.pop-2.new.self _ (search rules) ∙ (search rules))

pub returns-clause-moves : goal.returns-clause-moves
returns-clause-moves c =
    let whole = c.in-Some-Whole in
    moves_pattern whole.field-0-0 whole.field-0-1 whole.field-0-2 _ _ _ _ _ _
    (sym c.frames.view_is ∙ whole_on c.frames.inside.opened c.pop.new.self _ whole.field-0-0 whole.field-0-1 whole.field-0-2 (search rules))
    (patterns_on c.pop.new.self c.pop-2.new.self _ (search rules))
    (patterns_on c.push_after.new.self c.pop-2.new.self _ (search rules) ∙ (search rules))
