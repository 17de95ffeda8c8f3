use Rattle.std.proofs.Common.{rules, sym, ◌∙◌}
use Rattle.tree_build.proofs.Onto.{text_on, keyed_on, value_on}
use Rattle.tree_build.proofs.Defining.{reads_value_pair}
use Rattle.tree_build.proofs.MovingQ.{moves_pair}
use Rattle.tree_build.proofs.words.close_pair.Goals as goal

pub returns-clause-grows : goal.returns-clause-grows
returns-clause-grows c =
    reads_value_pair c.args.sign c.args.bytes.now _ _ _ _ _ _ _ _ (search rules)
    (sym c.frames.view_is ∙ text_on c.frames.inside.opened c.pop.new.self _ (search rules))
    (keyed_on c.pop.new.self c.pop-2.new.self _ (search rules))
    (value_on c.pop-2.new.self c.pop-3.new.self _ (search rules))
    (value_on c.push_after.new.self c.pop-3.new.self _ (search rules) ∙ (search rules))

pub returns-clause-moves : goal.returns-clause-moves
returns-clause-moves c =
    λ k. moves_pair _ _ _ _ _ _ _ _
    (sym c.frames.view_is ∙ text_on c.frames.inside.opened c.pop.new.self _ (search rules))
    (keyed_on c.pop.new.self c.pop-2.new.self _ (search rules))
    (value_on c.pop-2.new.self c.pop-3.new.self _ (search rules))
    (value_on c.push_after.new.self c.pop-3.new.self _ (search rules) ∙ (search rules))
