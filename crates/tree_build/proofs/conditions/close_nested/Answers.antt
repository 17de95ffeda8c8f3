use Rattle.std.proofs.Common.{rules, sym, ◌∙◌, [], ◌∷◌, ◌++◌}
use Rattle.tree_build.proofs.Onto.{terms_on, nested_on, tested_on}
use Rattle.tree_build.proofs.Testing.{reads_nested}
use Rattle.tree_build.specs.Frame.{Tested}
use Rattle.tree_build.proofs.Moving.{two_for_one}
use Rattle.tree_moves.specs.Tags as tag
use Rattle.ksh_ast.specs.declared.tree.Test.TheVariants as tests
use Rattle.tree_build.specs.Loads.{top}
use Rattle.tree_build.proofs.conditions.close_nested.Goals as goal

pub returns-clause-grows : goal.returns-clause-grows
returns-clause-grows c =
    let negated = c.in-Some-Terms.field-0-0 in
    reads_nested c.args.sign c.args.bytes.now _ _ negated _ _ _ _ (search rules)
    (sym c.frames.view_is ∙ terms_on c.frames.inside.opened c.pop.new.self _ negated (search rules))
    (nested_on c.pop.new.self c.pop-2.new.self _ (search rules))
    (tested_on c.push_after.new.self c.pop-2.new.self _ (search rules) ∙ (search rules))

pub returns-clause-moves : goal.returns-clause-moves
returns-clause-moves c =
    let negated = c.in-Some-Terms.field-0-0 in
    λ k. two_for_one tag.Terms tag.Nested tag.Tested _ _ (Tested (tests.Nested (top [] c.frames.inside.compounds.conditions ++ top [] c.frames.inside.compounds.terms ∷ []))) _ _ _ _ (λ p q. tt)
    (sym c.frames.view_is ∙ terms_on c.frames.inside.opened c.pop.new.self _ negated (search rules))
    (nested_on c.pop.new.self c.pop-2.new.self _ (search rules))
    (tested_on c.push_after.new.self c.pop-2.new.self _ (search rules) ∙ (search rules))
