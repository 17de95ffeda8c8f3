use Rattle.std.proofs.Common.{rules, sym, ◌∙◌, [], ◌∷◌, ◌++◌}
use Rattle.tree_build.proofs.Compounding.{reads_condition_command}
use Rattle.tree_build.proofs.Onto.{terms_on, condition_command_on, compound_on}
use Rattle.tree_build.specs.Frame.{Compound}
use Rattle.tree_build.proofs.Moving.{two_for_one}
use Rattle.tree_moves.specs.Tags as tag
use Rattle.ksh_ast.specs.declared.tree.Command.TheVariants as commands
use Rattle.tree_build.specs.Loads.{top}
use Rattle.tree_build.proofs.Redirecting.{cond_redirects}
use Rattle.tree_build.proofs.conditions.close_condition.Goals as goal

pub returns-clause-grows : goal.returns-clause-grows
returns-clause-grows c =
    let negated = c.in-Some-Terms.field-0-0 in
    let line = c.in-Some-Opened-ConditionCommand.line in
    reads_condition_command c.args.sign c.args.bytes.now line _ _ negated _ _ _ _ (search rules)
    (sym c.frames.view_is ∙ terms_on c.frames.inside.opened c.pop.new.self _ negated (search rules))
    (condition_command_on c.pop.new.self c.pop-2.new.self _ line (search rules))
    (compound_on c.push_after.new.self c.pop-2.new.self _ line (search rules) ∙ (search rules))

pub returns-clause-moves : goal.returns-clause-moves
returns-clause-moves c =
    let negated = c.in-Some-Terms.field-0-0 in
    let line = c.in-Some-Opened-ConditionCommand.line in
    λ k. two_for_one tag.Terms tag.ConditionCommand tag.Compound _ _ (Compound line (commands.Cond (top [] c.frames.inside.compounds.conditions ++ top [] c.frames.inside.compounds.terms ∷ []) []) []) _ _ _ _ (λ p q more e. cond_redirects (top [] c.frames.inside.compounds.conditions ++ top [] c.frames.inside.compounds.terms ∷ []) more e)
    (sym c.frames.view_is ∙ terms_on c.frames.inside.opened c.pop.new.self _ negated (search rules))
    (condition_command_on c.pop.new.self c.pop-2.new.self _ line (search rules))
    (compound_on c.push_after.new.self c.pop-2.new.self _ line (search rules) ∙ (search rules))
