use Rattle.std.proofs.Common.{rules, ◌∙◌, ◌≡◌, [], ◌∷◌, ap}
use Rattle.tree_build.specs.Frame.{If}
use Rattle.tree_build.proofs.Compounding.{reads_opens}
use Rattle.tree_build.proofs.Onto.{if_on}
use Rattle.tree_build.proofs.Moving.{opens_frame}
use Rattle.tree_moves.specs.Tags as tag
use Rattle.tree_build.proofs.compounds.open_if.Goals as goal

pub returns-clause-grows : goal.returns-clause-grows
returns-clause-grows c =
    let pushed : c.push-ready.new.self ≡ [] ∷ c.frames.inside.compounds.arms = search rules in
    reads_opens c.args.sign c.args.bytes.now (If c.args.sign.line []) _ _ (search rules)
    (rw pushed (if_on c.push_after.new.self c.frames.inside.opened _ c.args.sign.line (search rules)) ∙ ap (λ fs. If c.args.sign.line [] ∷ fs) c.frames.view_is)

pub returns-clause-moves : goal.returns-clause-moves
returns-clause-moves c =
    let pushed : c.push-ready.new.self ≡ [] ∷ c.frames.inside.compounds.arms = search rules in
    λ k. opens_frame tag.If (If c.args.sign.line []) _ _ tt
    (rw pushed (if_on c.push_after.new.self c.frames.inside.opened _ c.args.sign.line (search rules)) ∙ ap (λ fs. If c.args.sign.line [] ∷ fs) c.frames.view_is)
