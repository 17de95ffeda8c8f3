use Rattle.std.proofs.Common.{rules, sym, ◌∙◌}
use Rattle.tree_build.proofs.Onto.{assigned_on, value_on}
use Rattle.tree_build.proofs.Defining.{reads_value_assignment}
use Rattle.tree_build.proofs.MovingQ.{moves_value_assignment}
use Rattle.tree_build.proofs.words.give_value_assignment.Goals as goal

pub returns-clause-stays : goal.returns-clause-stays
returns-clause-stays c =
    reads_value_assignment _ _ _ _ _ _
    (sym c.frames.view_is ∙ assigned_on c.frames.inside.opened c.pop.new.self _ (search rules))
    (value_on c.pop.new.self c.pop-2.new.self _ (search rules))
    (value_on c.push_after.new.self c.pop-2.new.self _ (search rules) ∙ (search rules))

pub returns-clause-moves : goal.returns-clause-moves
returns-clause-moves c =
    moves_value_assignment _ _ _ _ _ _
    (sym c.frames.view_is ∙ assigned_on c.frames.inside.opened c.pop.new.self _ (search rules))
    (value_on c.pop.new.self c.pop-2.new.self _ (search rules))
    (value_on c.push_after.new.self c.pop-2.new.self _ (search rules) ∙ (search rules))
