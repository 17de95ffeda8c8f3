use Rattle.std.proofs.Common.{rules, sym, ◌∙◌}
use Rattle.tree_build.proofs.Onto.{whole_on, operands_on}
use Rattle.tree_build.proofs.Testing.{reads_one_operand}
use Rattle.tree_build.proofs.MovingQ.{moves_unary, moves_operand, moves_both, moves_binary, moves_second, moves_third}
use Rattle.tree_build.proofs.words.give_operand.Goals as goal

pub returns-clause-stays : goal.returns-clause-stays
returns-clause-stays c =
    let whole = c.in-Some-Whole in
    reads_one_operand whole.field-0-0 whole.field-0-1 whole.field-0-2 _ _ _ _ _ _
    (sym c.frames.view_is ∙ whole_on c.frames.inside.opened c.pop.new.self _ whole.field-0-0 whole.field-0-1 whole.field-0-2 (search rules))
    (operands_on c.pop.new.self c.pop-2.new.self _ (search rules))
    (operands_on c.push_after.new.self c.pop-2.new.self _ (search rules) ∙ (search rules))

pub returns-clause-moves_unary : goal.returns-clause-moves_unary
returns-clause-moves_unary c =
    let whole = c.in-Some-Whole in
    moves_unary whole.field-0-0 whole.field-0-1 whole.field-0-2 _ _ _ _ _ _
    (sym c.frames.view_is ∙ whole_on c.frames.inside.opened c.pop.new.self _ whole.field-0-0 whole.field-0-1 whole.field-0-2 (search rules))
    (operands_on c.pop.new.self c.pop-2.new.self _ (search rules))
    (operands_on c.push_after.new.self c.pop-2.new.self _ (search rules) ∙ (search rules))

pub returns-clause-moves_operand : goal.returns-clause-moves_operand
returns-clause-moves_operand c =
    let whole = c.in-Some-Whole in
    moves_operand whole.field-0-0 whole.field-0-1 whole.field-0-2 _ _ _ _ _ _
    (sym c.frames.view_is ∙ whole_on c.frames.inside.opened c.pop.new.self _ whole.field-0-0 whole.field-0-1 whole.field-0-2 (search rules))
    (operands_on c.pop.new.self c.pop-2.new.self _ (search rules))
    (operands_on c.push_after.new.self c.pop-2.new.self _ (search rules) ∙ (search rules))

pub returns-clause-moves_both : goal.returns-clause-moves_both
returns-clause-moves_both c =
    let whole = c.in-Some-Whole in
    moves_both whole.field-0-0 whole.field-0-1 whole.field-0-2 _ _ _ _ _ _
    (sym c.frames.view_is ∙ whole_on c.frames.inside.opened c.pop.new.self _ whole.field-0-0 whole.field-0-1 whole.field-0-2 (search rules))
    (operands_on c.pop.new.self c.pop-2.new.self _ (search rules))
    (operands_on c.push_after.new.self c.pop-2.new.self _ (search rules) ∙ (search rules))

pub returns-clause-moves_binary : goal.returns-clause-moves_binary
returns-clause-moves_binary c =
    let whole = c.in-Some-Whole in
    moves_binary whole.field-0-0 whole.field-0-1 whole.field-0-2 _ _ _ _ _ _
    (sym c.frames.view_is ∙ whole_on c.frames.inside.opened c.pop.new.self _ whole.field-0-0 whole.field-0-1 whole.field-0-2 (search rules))
    (operands_on c.pop.new.self c.pop-2.new.self _ (search rules))
    (operands_on c.push_after.new.self c.pop-2.new.self _ (search rules) ∙ (search rules))

pub returns-clause-moves_second : goal.returns-clause-moves_second
returns-clause-moves_second c =
    let whole = c.in-Some-Whole in
    moves_second whole.field-0-0 whole.field-0-1 whole.field-0-2 _ _ _ _ _ _
    (sym c.frames.view_is ∙ whole_on c.frames.inside.opened c.pop.new.self _ whole.field-0-0 whole.field-0-1 whole.field-0-2 (search rules))
    (operands_on c.pop.new.self c.pop-2.new.self _ (search rules))
    (operands_on c.push_after.new.self c.pop-2.new.self _ (search rules) ∙ (search rules))

pub returns-clause-moves_third : goal.returns-clause-moves_third
returns-clause-moves_third c =
    let whole = c.in-Some-Whole in
    moves_third whole.field-0-0 whole.field-0-1 whole.field-0-2 _ _ _ _ _ _
    (sym c.frames.view_is ∙ whole_on c.frames.inside.opened c.pop.new.self _ whole.field-0-0 whole.field-0-1 whole.field-0-2 (search rules))
    (operands_on c.pop.new.self c.pop-2.new.self _ (search rules))
    (operands_on c.push_after.new.self c.pop-2.new.self _ (search rules) ∙ (search rules))
