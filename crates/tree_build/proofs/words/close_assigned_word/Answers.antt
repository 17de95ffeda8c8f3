use Rattle.std.proofs.Common.{rules, sym, ◌∙◌}
use Rattle.tree_build.proofs.Onto.{text_on, assigning_on, assigned_on}
use Rattle.tree_build.proofs.Wording.{reads_assigned_word}
use Rattle.tree_build.proofs.MovingQ.{moves_assigned_word}
use Rattle.tree_build.proofs.words.close_assigned_word.Goals as goal

pub returns-clause-grows : goal.returns-clause-grows
returns-clause-grows c =
    let assigning = c.in-Some-Assigning in
    reads_assigned_word c.args.sign c.args.bytes.now assigning.append _ _ _ _ _ _ (search rules)
    (sym c.frames.view_is ∙ text_on c.frames.inside.opened c.pop.new.self _ (search rules))
    (assigning_on c.pop.new.self c.pop-2.new.self _ assigning.append (search rules))
    (assigned_on c.push_after.new.self c.pop-2.new.self _ (search rules) ∙ (search rules))

pub returns-clause-moves : goal.returns-clause-moves
returns-clause-moves c =
    let assigning = c.in-Some-Assigning in
    λ k. moves_assigned_word assigning.append _ _ _ _ _ _
    (sym c.frames.view_is ∙ text_on c.frames.inside.opened c.pop.new.self _ (search rules))
    (assigning_on c.pop.new.self c.pop-2.new.self _ assigning.append (search rules))
    (assigned_on c.push_after.new.self c.pop-2.new.self _ (search rules) ∙ (search rules))
