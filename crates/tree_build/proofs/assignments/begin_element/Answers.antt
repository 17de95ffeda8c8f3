use Rattle.std.proofs.Common.{rules, ◌∙◌, ◌≡◌, ◌∷◌, ap}
use Rattle.tree_parts.specs.Parts.{path_of}
use Rattle.tree_build.specs.Frame.{Target}
use Rattle.tree_build.proofs.Wording.{reads_element}
use Rattle.tree_build.proofs.Onto.{target_on}
use Rattle.tree_build.proofs.MovingQ.{opens_target}
use Rattle.tree_build.proofs.assignments.begin_element.Goals as goal

pub returns-clause-grows : goal.returns-clause-grows
returns-clause-grows c =
    let path = path_of c.args.bytes.now in
    let pushed : c.push-ready.new.self ≡ path ∷ c.frames.inside.texts.paths = search rules in
    reads_element c.args.sign c.args.bytes.now _ _ (search rules)
    (rw pushed (target_on c.push_after.new.self c.frames.inside.opened _ c.args.sign.from (search rules)) ∙ ap (λ fs. Target c.args.sign.from path ∷ fs) c.frames.view_is)

pub returns-clause-moves : goal.returns-clause-moves
returns-clause-moves c =
    let path = path_of c.args.bytes.now in
    let pushed : c.push-ready.new.self ≡ path ∷ c.frames.inside.texts.paths = search rules in
    λ k names. opens_target c.args.sign.from path _ _
    (rw pushed (target_on c.push_after.new.self c.frames.inside.opened _ c.args.sign.from (search rules)) ∙ ap (λ fs. Target c.args.sign.from path ∷ fs) c.frames.view_is)
