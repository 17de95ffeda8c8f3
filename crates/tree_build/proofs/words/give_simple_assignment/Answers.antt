use Rattle.std.proofs.Common.{rules, sym, ◌∙◌}
use Rattle.tree_build.proofs.Onto.{assigned_on, simple_on}
use Rattle.tree_build.proofs.Giving.{gives_first, gives_later}
use Rattle.tree_build.proofs.MovingQ.{moves_first_assignment, moves_later_assignment}
use Rattle.tree_build.proofs.words.give_simple_assignment.Goals as goal

pub returns-then-ends_empty-clause-stays : goal.returns-then-ends_empty-clause-stays
returns-then-ends_empty-clause-stays c =
    let simple = c.in-Some-Simple in
    gives_first simple.at simple.line _ _ _ _ _ _ _ _ (search rules)
    (sym c.frames.view_is ∙ assigned_on c.frames.inside.opened c.pop.new.self _ (search rules))
    (simple_on c.pop.new.self c.pop-2.new.self _ simple.at simple.line (search rules))
    (simple_on c.push_after.new.self c.pop-2.new.self _ simple.at simple.line (search rules) ∙ (search rules))

pub returns-then-ends_empty-clause-moves : goal.returns-then-ends_empty-clause-moves
returns-then-ends_empty-clause-moves c =
    let simple = c.in-Some-Simple in
    moves_first_assignment simple.at simple.line _ _ _ _ _ _ _ _
    (sym c.frames.view_is ∙ assigned_on c.frames.inside.opened c.pop.new.self _ (search rules))
    (simple_on c.pop.new.self c.pop-2.new.self _ simple.at simple.line (search rules))
    (simple_on c.push_after.new.self c.pop-2.new.self _ simple.at simple.line (search rules) ∙ (search rules))

pub returns-clause-stays : goal.returns-clause-stays
returns-clause-stays c =
    let simple = c.in-Some-Simple in
    gives_later simple.at simple.line _ _ _ _ c.ends_empty.result _ _ _ _ (search rules) (search rules)
    (sym c.frames.view_is ∙ assigned_on c.frames.inside.opened c.pop.new.self _ (search rules))
    (simple_on c.pop.new.self c.pop-2.new.self _ simple.at simple.line (search rules))
    (simple_on c.push_after-2.new.self c.pop-2.new.self _ simple.at simple.line (search rules) ∙ (search rules))

pub returns-clause-moves : goal.returns-clause-moves
returns-clause-moves c =
    let simple = c.in-Some-Simple in
    moves_later_assignment simple.at simple.line _ _ _ _ _ _ _ _
    (sym c.frames.view_is ∙ assigned_on c.frames.inside.opened c.pop.new.self _ (search rules))
    (simple_on c.pop.new.self c.pop-2.new.self _ simple.at simple.line (search rules))
    (simple_on c.push_after-2.new.self c.pop-2.new.self _ simple.at simple.line (search rules) ∙ (search rules))
