use Rattle.std.proofs.Common.{rules, sym, ◌∙◌}
use Rattle.tree_build.proofs.Onto.{listed_on, loop_on, loop_body_on}
use Rattle.tree_build.proofs.Compounding.{reads_loop_test}
use Rattle.tree_build.proofs.Moving.{two_for_one}
use Rattle.tree_moves.specs.Tags as tag
use Rattle.tree_build.proofs.compounds.end_loop_test.Goals as goal

pub returns-clause-grows : goal.returns-clause-grows
returns-clause-grows c =
    let start = c.in-Some-Opened-Loop in
    reads_loop_test c.args.sign c.args.bytes.now start.line start.until _ _ _ _ _ (search rules)
    (sym c.frames.view_is ∙ listed_on c.frames.inside.opened c.pop.new.self _ (search rules))
    (loop_on c.pop.new.self c.pop-2.new.self _ start.line start.until (search rules))
    (loop_body_on c.push_after.new.self c.pop-2.new.self _ start.line start.until (search rules))

pub returns-clause-moves : goal.returns-clause-moves
returns-clause-moves c =
    let start = c.in-Some-Opened-Loop in
    λ k. two_for_one tag.Listed tag.Loop tag.LoopBody _ _ _ _ _ _ _ (λ p q. tt)
    (sym c.frames.view_is ∙ listed_on c.frames.inside.opened c.pop.new.self _ (search rules))
    (loop_on c.pop.new.self c.pop-2.new.self _ start.line start.until (search rules))
    (loop_body_on c.push_after.new.self c.pop-2.new.self _ start.line start.until (search rules))
