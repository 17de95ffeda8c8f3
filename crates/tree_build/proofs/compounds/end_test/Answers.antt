use Rattle.std.proofs.Common.{rules, sym, ◌∙◌}
use Rattle.tree_build.proofs.Onto.{listed_on, if_on, then_on}
use Rattle.tree_build.proofs.Compounding.{reads_arm_test}
use Rattle.tree_build.proofs.Moving.{two_for_one}
use Rattle.tree_moves.specs.Tags as tag
use Rattle.tree_build.proofs.compounds.end_test.Goals as goal

pub returns-clause-grows : goal.returns-clause-grows
returns-clause-grows c =
    let line = c.in-Some-If.line in
    reads_arm_test c.args.sign c.args.bytes.now line _ _ _ _ _ _ (search rules)
    (sym c.frames.view_is ∙ listed_on c.frames.inside.opened c.pop.new.self _ (search rules))
    (if_on c.pop.new.self c.pop-2.new.self _ line (search rules))
    (then_on c.push_after.new.self c.pop-2.new.self _ line (search rules))

pub returns-clause-moves : goal.returns-clause-moves
returns-clause-moves c =
    let line = c.in-Some-If.line in
    λ k. two_for_one tag.Listed tag.If tag.Then _ _ _ _ _ _ _ (λ p q. tt)
    (sym c.frames.view_is ∙ listed_on c.frames.inside.opened c.pop.new.self _ (search rules))
    (if_on c.pop.new.self c.pop-2.new.self _ line (search rules))
    (then_on c.push_after.new.self c.pop-2.new.self _ line (search rules))
