use Rattle.std.proofs.Common.{rules, sym, ◌∙◌}
use Rattle.tree_build.proofs.Onto.{redirected_on, compound_on}
use Rattle.tree_build.proofs.Compounding.{reads_compound_redirection}
use Rattle.tree_build.proofs.MovingQ.{moves_compound_redirection}
use Rattle.tree_build.proofs.words.give_compound_redirection.Goals as goal

pub returns-clause-stays : goal.returns-clause-stays
returns-clause-stays c =
    let line = c.in-Some-Compound.line in
    reads_compound_redirection line _ _ _ _ _ _ _
    (sym c.frames.view_is ∙ redirected_on c.frames.inside.opened c.pop.new.self _ (search rules))
    (compound_on c.pop.new.self c.pop-2.new.self _ line (search rules))
    (compound_on c.push_after.new.self c.pop-2.new.self _ line (search rules) ∙ (search rules))

pub returns-clause-moves : goal.returns-clause-moves
returns-clause-moves c =
    let line = c.in-Some-Compound.line in
    moves_compound_redirection line _ _ _ _ _ _ _
    (sym c.frames.view_is ∙ redirected_on c.frames.inside.opened c.pop.new.self _ (search rules))
    (compound_on c.pop.new.self c.pop-2.new.self _ line (search rules))
    (compound_on c.push_after.new.self c.pop-2.new.self _ line (search rules) ∙ (search rules))
