use Rattle.std.specs.Prelude.{false}
use Rattle.std.proofs.Common.{rules, sym, ◌∙◌, [], ◌∷◌, ◌++◌}
use Rattle.tree_build.proofs.Onto.{terms_on, tested_on}
use Rattle.tree_build.proofs.Testing.{reads_term}
use Rattle.tree_build.specs.Frame.{Terms}
use Rattle.tree_build.proofs.Moving.{two_for_one}
use Rattle.tree_moves.specs.Tags as tag
use Rattle.ksh_ast.specs.declared.tree.Test.TheVariants as tests
use Rattle.tree_build.specs.Loads.{top}
use Rattle.tree_build.proofs.conditions.close_term.Goals as goal

pub returns-clause-grows : goal.returns-clause-grows
returns-clause-grows c =
    let negated = c.in-Some-Terms.negated in
    reads_term c.args.moment _ _ negated _ _ _ _ _
    (sym c.frames.view_is ∙ tested_on c.frames.inside.opened c.pop.new.self _ (search rules))
    (terms_on c.pop.new.self c.pop-2.new.self _ negated (search rules))
    (terms_on c.push_after.new.self c.pop-2.new.self _ false (search rules) ∙ (search rules))

pub returns-clause-moves : goal.returns-clause-moves
returns-clause-moves c =
    let negated = c.in-Some-Terms.negated in
    two_for_one tag.Tested tag.Terms tag.Terms _ _ (Terms (top [] c.frames.inside.compounds.conditions) (top [] c.frames.inside.compounds.terms ++ record { negated = negated; test = top (tests.Word []) c.frames.inside.compounds.tests } ∷ []) false) _ _ _ _ (λ p q. tt)
    (sym c.frames.view_is ∙ tested_on c.frames.inside.opened c.pop.new.self _ (search rules))
    (terms_on c.pop.new.self c.pop-2.new.self _ negated (search rules))
    (terms_on c.push_after.new.self c.pop-2.new.self _ false (search rules) ∙ (search rules))
