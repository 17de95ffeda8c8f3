use Rattle.std.proofs.Common.{rules, sym, ◌∙◌, ◌≡◌, [], ◌∷◌}
use Rattle.tree_build.specs.Loads.{top}
use Rattle.tree_build.proofs.Giving.{adds_literal}
use Rattle.tree_build.proofs.Onto.{text_on}
use Rattle.tree_build.proofs.texts.hear_literal.Goals as goal

pub returns-clause-grows : goal.returns-clause-grows
returns-clause-grows c =
    let pieces = c.in-Some.pieces in
    let taken : c.frames.inside.texts.words ≡ pieces ∷ c.pop-2.new.self = search rules in
    let pushed : c.push-ready.new.self ≡ c.add_token.new.pieces ∷ c.pop-2.new.self = search rules in
    adds_literal c.args.sign c.args.bytes.now c.in-Ok.added (top [] c.frames.inside.texts.words) c.add_token.new.pieces _ _ _ (search rules) (rw taken (search rules))
    (sym c.frames.view_is ∙ text_on c.frames.inside.opened c.pop.new.self _ (search rules))
    (rw (pushed, taken) (text_on c.push_after.new.self c.pop.new.self _ (search rules)))
