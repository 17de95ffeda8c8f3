use Rattle.std.proofs.Common.{rules, sym, ◌∙◌}
use Rattle.tree_build.proofs.Onto.{redirected_on, simple_on}
use Rattle.tree_build.proofs.Wording.{reads_simple_redirection}
use Rattle.tree_build.proofs.MovingQ.{moves_simple_redirection}
use Rattle.tree_build.proofs.words.give_simple_redirection.Goals as goal

pub returns-clause-stays : goal.returns-clause-stays
returns-clause-stays c =
    let simple = c.in-Some-Simple in
    reads_simple_redirection simple.at simple.line _ _ _ _ _ _ _ _
    (sym c.frames.view_is ∙ redirected_on c.frames.inside.opened c.pop.new.self _ (search rules))
    (simple_on c.pop.new.self c.pop-2.new.self _ simple.at simple.line (search rules))
    (simple_on c.push_after.new.self c.pop-2.new.self _ simple.at simple.line (search rules) ∙ (search rules))

pub returns-clause-moves : goal.returns-clause-moves
returns-clause-moves c =
    let simple = c.in-Some-Simple in
    moves_simple_redirection simple.at simple.line _ _ _ _ _ _ _ _
    (sym c.frames.view_is ∙ redirected_on c.frames.inside.opened c.pop.new.self _ (search rules))
    (simple_on c.pop.new.self c.pop-2.new.self _ simple.at simple.line (search rules))
    (simple_on c.push_after.new.self c.pop-2.new.self _ simple.at simple.line (search rules) ∙ (search rules))
