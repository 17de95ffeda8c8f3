use Rattle.std.proofs.Common.{rules, sym, ◌∙◌, ◌≡◌, [], ◌∷◌, ◌++◌}
use Rattle.tree_build.specs.Loads.{below, top}
use Rattle.tree_parts.specs.Parts.{item}
use Rattle.tree_build.proofs.Onto.{finished_on, stages_on}
use Rattle.tree_build.proofs.Listing.{reads_stage}
use Rattle.tree_build.specs.Frame.{Stages}
use Rattle.tree_build.proofs.Moving.{two_for_one}
use Rattle.tree_moves.specs.Tags as tag
use Rattle.tree_build.proofs.lists.bar.Goals as goal

pub returns-clause-grows : goal.returns-clause-grows
returns-clause-grows c =
    let own = c.in-Some-Finished.own in
    let line = c.in-Some-Stages.line in
    let bang = c.in-Some-Stages.not in
    let command = c.in-Some.command in
    let stage = c.in-Ok.stage in
    let taken : c.frames.inside.lists.commands ≡ command ∷ c.pop-3.new.self = search rules in
    let made : stage ≡ item own command ∷ [] = search rules in
    let added : c.add-ready.new.self ≡ (top [] c.frames.inside.lists.stages ++ stage ∷ []) ∷ below c.frames.inside.lists.stages = search rules in
    reads_stage c.args.sign c.args.bytes.now line own bang _ _ _ _ _ _ (search rules)
    (sym c.frames.view_is ∙ finished_on c.frames.inside.opened c.pop.new.self _ own (search rules))
    (stages_on c.pop.new.self c.pop-2.new.self _ line bang (search rules))
    (rw (added, made, taken) (stages_on c.push_after.new.self c.pop-2.new.self _ line bang (search rules)))

pub returns-clause-moves : goal.returns-clause-moves
returns-clause-moves c =
    let own = c.in-Some-Finished.own in
    let line = c.in-Some-Stages.line in
    let bang = c.in-Some-Stages.not in
    let command = c.in-Some.command in
    let stage = c.in-Ok.stage in
    let taken : c.frames.inside.lists.commands ≡ command ∷ c.pop-3.new.self = search rules in
    let made : stage ≡ item own command ∷ [] = search rules in
    let added : c.add-ready.new.self ≡ (top [] c.frames.inside.lists.stages ++ stage ∷ []) ∷ below c.frames.inside.lists.stages = search rules in
    λ k. two_for_one tag.Finished tag.Stages tag.Stages _ _ (Stages line bang (top [] c.add-ready.new.self)) _ _ _ _ (λ p q. tt)
    (sym c.frames.view_is ∙ finished_on c.frames.inside.opened c.pop.new.self _ own (search rules))
    (stages_on c.pop.new.self c.pop-2.new.self _ line bang (search rules))
    (rw (added, made, taken) (stages_on c.push_after.new.self c.pop-2.new.self _ line bang (search rules)))
