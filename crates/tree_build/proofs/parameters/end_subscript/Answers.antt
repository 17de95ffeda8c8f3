use Rattle.std.proofs.Common.{rules, sym, ◌∙◌}
use Rattle.tree_build.proofs.Onto.{bracket_on, subscript_on, text_on}
use Rattle.tree_build.proofs.Bracing.{reads_subscript_text}
use Rattle.tree_build.proofs.parameters.end_subscript.Goals as goal

pub returns-clause-grows : goal.returns-clause-grows
returns-clause-grows c =
    reads_subscript_text c.args.moment _ _ _ _ _ (sym c.frames.view_is ∙ text_on c.frames.inside.opened c.pop.new.self _ (search rules))
    (bracket_on c.pop.new.self c.pop-2.new.self _ (search rules)) (subscript_on c.push_after.new.self c.pop-2.new.self _ (search rules))
