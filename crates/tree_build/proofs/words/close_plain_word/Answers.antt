use Rattle.std.proofs.Common.{rules, sym, ◌∙◌}
use Rattle.tree_build.proofs.Onto.{text_on, word_start_on, whole_on}
use Rattle.tree_build.proofs.Wording.{reads_word}
use Rattle.tree_build.proofs.MovingQ.{moves_word, moves_assignment}
use Rattle.tree_build.proofs.words.close_plain_word.Goals as goal

pub returns-clause-grows : goal.returns-clause-grows
returns-clause-grows c =
    let start = c.in-Some-Opened-WordStart in
    reads_word c.args.sign c.args.bytes.now start.from start.assigns _ _ _ _ _ (search rules)
    (sym c.frames.view_is ∙ text_on c.frames.inside.opened c.pop.new.self _ (search rules))
    (word_start_on c.pop.new.self c.pop-2.new.self _ start.from start.assigns (search rules))
    (whole_on c.push_after.new.self c.pop-2.new.self _ start.from c.args.sign.from start.assigns (search rules))

pub returns-clause-moves_plain : goal.returns-clause-moves_plain
returns-clause-moves_plain c =
    let start = c.in-Some-Opened-WordStart in
    λ k. moves_word start.from _ start.assigns _ _ _ _ _
    (sym c.frames.view_is ∙ text_on c.frames.inside.opened c.pop.new.self _ (search rules))
    (word_start_on c.pop.new.self c.pop-2.new.self _ start.from start.assigns (search rules))
    (whole_on c.push_after.new.self c.pop-2.new.self _ start.from c.args.sign.from start.assigns (search rules))

pub returns-clause-moves_assignment : goal.returns-clause-moves_assignment
returns-clause-moves_assignment c =
    let start = c.in-Some-Opened-WordStart in
    λ k. moves_assignment start.from _ start.assigns _ _ _ _ _
    (sym c.frames.view_is ∙ text_on c.frames.inside.opened c.pop.new.self _ (search rules))
    (word_start_on c.pop.new.self c.pop-2.new.self _ start.from start.assigns (search rules))
    (whole_on c.push_after.new.self c.pop-2.new.self _ start.from c.args.sign.from start.assigns (search rules))
