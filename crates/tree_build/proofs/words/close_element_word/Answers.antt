use Rattle.std.proofs.Common.{rules, sym, ◌∙◌, false}
use Rattle.tree_build.proofs.Onto.{text_on, element_on, whole_on}
use Rattle.tree_build.proofs.Wording.{reads_element_word}
use Rattle.tree_build.proofs.MovingQ.{moves_element_word}
use Rattle.tree_build.proofs.words.close_element_word.Goals as goal

pub returns-clause-grows : goal.returns-clause-grows
returns-clause-grows c =
    let element = c.in-Some-Element in
    reads_element_word c.args.sign c.args.bytes.now element.from _ _ _ _ _ _ (search rules)
    (sym c.frames.view_is ∙ text_on c.frames.inside.opened c.pop.new.self _ (search rules))
    (element_on c.pop.new.self c.pop-2.new.self _ element.from (search rules))
    (whole_on c.push_after.new.self c.pop-2.new.self _ element.from c.args.sign.from false (search rules) ∙ (search rules))

pub returns-clause-moves : goal.returns-clause-moves
returns-clause-moves c =
    let element = c.in-Some-Element in
    λ k. moves_element_word element.from c.args.sign.from _ _ _ _ _ _
    (sym c.frames.view_is ∙ text_on c.frames.inside.opened c.pop.new.self _ (search rules))
    (element_on c.pop.new.self c.pop-2.new.self _ element.from (search rules))
    (whole_on c.push_after.new.self c.pop-2.new.self _ element.from c.args.sign.from false (search rules) ∙ (search rules))
