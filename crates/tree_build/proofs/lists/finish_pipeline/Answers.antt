use Rattle.std.proofs.Common.{rules, sym, ◌∙◌, ◌≡◌, ◌∷◌}
use Rattle.tree_parts.specs.Parts.{negated, piped}
use Rattle.tree_build.proofs.Onto.{finished_on, stages_on, piped_on}
use Rattle.tree_build.proofs.Listing.{reads_pipeline}
use Rattle.tree_build.specs.Frame.{Piped}
use Rattle.tree_build.proofs.Moving.{two_for_one}
use Rattle.tree_moves.specs.Tags as tag
use Rattle.tree_build.proofs.lists.finish_pipeline.Goals as goal

pub returns-clause-stays : goal.returns-clause-stays
returns-clause-stays c =
    let own = c.in-Some-Finished.own in
    let line = c.in-Some-Stages.line in
    let bang = c.in-Some-Stages.not in
    let command = c.in-Some.command in
    let members = c.in-Some-pop.members in
    let whole = c.in-Ok-negated.whole in
    let taken : c.frames.inside.lists.commands ≡ command ∷ c.pop-3.new.self = search rules in
    let staged : c.frames.inside.lists.stages ≡ members ∷ c.pop-4.new.self = search rules in
    let made : whole ≡ negated bang (piped members own command) = search rules in
    let pushed : c.push-ready.new.self ≡ whole ∷ c.pop-3.new.self = search rules in
    reads_pipeline line own bang _ _ _ _ _ _
    (sym c.frames.view_is ∙ finished_on c.frames.inside.opened c.pop.new.self _ own (search rules))
    (stages_on c.pop.new.self c.pop-2.new.self _ line bang (search rules))
    (rw (pushed, made, taken, staged) (piped_on c.push_after.new.self c.pop-2.new.self _ line (search rules)))

pub returns-clause-moves : goal.returns-clause-moves
returns-clause-moves c =
    let own = c.in-Some-Finished.own in
    let line = c.in-Some-Stages.line in
    let bang = c.in-Some-Stages.not in
    let command = c.in-Some.command in
    let members = c.in-Some-pop.members in
    let whole = c.in-Ok-negated.whole in
    let taken : c.frames.inside.lists.commands ≡ command ∷ c.pop-3.new.self = search rules in
    let staged : c.frames.inside.lists.stages ≡ members ∷ c.pop-4.new.self = search rules in
    let made : whole ≡ negated bang (piped members own command) = search rules in
    let pushed : c.push-ready.new.self ≡ whole ∷ c.pop-3.new.self = search rules in
    two_for_one tag.Finished tag.Stages tag.Piped _ _ (Piped line whole) _ _ _ _ (λ p q. tt)
    (sym c.frames.view_is ∙ finished_on c.frames.inside.opened c.pop.new.self _ own (search rules))
    (stages_on c.pop.new.self c.pop-2.new.self _ line bang (search rules))
    (rw (pushed, made, taken, staged) (piped_on c.push_after.new.self c.pop-2.new.self _ line (search rules)))
