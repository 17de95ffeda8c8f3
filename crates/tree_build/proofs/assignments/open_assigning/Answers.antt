use Rattle.std.proofs.Common.{rules, ◌∙◌, ◌≡◌, ◌∷◌, ap}
use Rattle.tree_build.specs.Frame.{Assigning}
use Rattle.tree_build.proofs.Onto.{assigning_on}
use Rattle.tree_build.proofs.MovingQ.{opens_assigning}
use Rattle.tree_build.proofs.assignments.open_assigning.Goals as goal

pub returns-clause-opens : goal.returns-clause-opens
returns-clause-opens c =
    let path = c.args.path in
    let append = c.args.append in
    let pushed : c.push-ready.new.self ≡ path ∷ c.frames.inside.texts.paths = search rules in
    rw pushed (assigning_on c.push_after.new.self c.frames.inside.opened _ append (search rules)) ∙ ap (λ fs. Assigning path append ∷ fs) c.frames.view_is

pub returns-clause-moves : goal.returns-clause-moves
returns-clause-moves c =
    let path = c.args.path in
    let append = c.args.append in
    let pushed : c.push-ready.new.self ≡ path ∷ c.frames.inside.texts.paths = search rules in
    opens_assigning append path _ _
    (rw pushed (assigning_on c.push_after.new.self c.frames.inside.opened _ append (search rules)) ∙ ap (λ fs. Assigning path append ∷ fs) c.frames.view_is)
