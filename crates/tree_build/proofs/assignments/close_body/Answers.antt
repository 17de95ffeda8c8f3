use Rattle.std.proofs.Common.{rules, sym, ◌∙◌}
use Rattle.tree_build.proofs.Onto.{text_on, here_body_on, redirected_on}
use Rattle.tree_build.proofs.Wording.{reads_here_document}
use Rattle.tree_build.proofs.MovingQ.{moves_here_document}
use Rattle.tree_build.proofs.assignments.close_body.Goals as goal

pub returns-clause-grows : goal.returns-clause-grows
returns-clause-grows c =
    reads_here_document _ _ _ _ _ _ _
    (sym c.frames.view_is ∙ text_on c.frames.inside.opened c.pop.new.self _ (search rules))
    (here_body_on c.pop.new.self c.pop-2.new.self _ (search rules))
    (redirected_on c.push_after.new.self c.pop-2.new.self _ (search rules) ∙ (search rules))

pub returns-clause-moves : goal.returns-clause-moves
returns-clause-moves c =
    moves_here_document _ _ _ _ _ _ _
    (sym c.frames.view_is ∙ text_on c.frames.inside.opened c.pop.new.self _ (search rules))
    (here_body_on c.pop.new.self c.pop-2.new.self _ (search rules))
    (redirected_on c.push_after.new.self c.pop-2.new.self _ (search rules) ∙ (search rules))
