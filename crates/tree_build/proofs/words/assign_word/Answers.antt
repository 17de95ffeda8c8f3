use Rattle.std.proofs.Common.{rules, sym, ◌∙◌, ◌≡◌, [], ◌∷◌, true, false}
use Rattle.tree_build.specs.Loads.{top}
use Rattle.tree_build.specs.declared.opening.Open.TheVariants as opens
use Rattle.tree_build.proofs.Onto.{whole_on, assigned_on, whole_loaded}
use Rattle.tree_build.proofs.MovingQ.{is_no_assignment, moves_assignment_word, moves_no_assignment}
use Rattle.tree_build.proofs.Wording.{reads_assignment_word, reads_assigns_nothing}
use Rattle.tree_build.proofs.words.assign_word.Goals as goal

pub returns-then-not-is_assigned-clause-stays : goal.returns-then-not-is_assigned-clause-stays
returns-then-not-is_assigned-clause-stays c =
    let whole = c.in-Some-Whole-default-default-true in
    let word = c.in-Some.word in
    let taken : c.frames.inside.texts.words ≡ word ∷ c.pop-2.new.self = search rules in
    reads_assigns_nothing whole.from whole.to (top [] c.frames.inside.texts.words) _ _ _ (is_no_assignment (top [] c.frames.inside.texts.words) (rw taken (search rules)))
    (sym c.frames.view_is ∙ whole_on c.frames.inside.opened c.pop.new.self _ whole.from whole.to true (search rules))
    (whole_on c.push_after.new.self c.pop.new.self _ whole.from whole.to false (search rules) ∙ (search rules))

pub returns-then-not-is_assigned-clause-moves : goal.returns-then-not-is_assigned-clause-moves
returns-then-not-is_assigned-clause-moves c =
    let whole = c.in-Some-Whole-default-default-true in
    moves_no_assignment whole.from whole.to (top [] c.frames.inside.texts.words) _ _ _
    (sym c.frames.view_is ∙ whole_on c.frames.inside.opened c.pop.new.self _ whole.from whole.to true (search rules))
    (whole_on c.push_after.new.self c.pop.new.self _ whole.from whole.to false (search rules) ∙ (search rules))

pub returns-clause-stays : goal.returns-clause-stays
returns-clause-stays c =
    let whole = c.in-Some-Whole-default-default-true in
    let word = c.in-Some.word in
    let assign = c.in-Some-found.assign in
    let taken : c.frames.inside.texts.words ≡ word ∷ c.pop-2.new.self = search rules in
    let pushed : c.push-ready-2.new.self ≡ assign ∷ c.frames.inside.simples.assigned = search rules in
    reads_assignment_word whole.from whole.to (top [] c.frames.inside.texts.words) assign _ _ _ (rw taken (search rules))
    (sym c.frames.view_is ∙ whole_on c.frames.inside.opened c.pop.new.self _ whole.from whole.to true (search rules))
    (rw (pushed, taken) (assigned_on c.push_after-2.new.self c.pop.new.self _ (search rules)))

pub returns-clause-moves : goal.returns-clause-moves
returns-clause-moves c =
    let whole = c.in-Some-Whole-default-default-true in
    let word = c.in-Some.word in
    let assign = c.in-Some-found.assign in
    let taken : c.frames.inside.texts.words ≡ word ∷ c.pop-2.new.self = search rules in
    let pushed : c.push-ready-2.new.self ≡ assign ∷ c.frames.inside.simples.assigned = search rules in
    moves_assignment_word whole.from whole.to (top [] c.frames.inside.texts.words) assign _ _ _
    (sym c.frames.view_is ∙ whole_on c.frames.inside.opened c.pop.new.self _ whole.from whole.to true (search rules))
    (rw (pushed, taken) (assigned_on c.push_after-2.new.self c.pop.new.self _ (search rules)))

pub invariant_of-frames-2 : goal.invariant_of-frames-2
invariant_of-frames-2 c = search (rules, whole_loaded)
