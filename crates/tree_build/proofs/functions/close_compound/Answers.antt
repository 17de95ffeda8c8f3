use Rattle.std.proofs.Common.{rules, sym, ◌∙◌, ◌≡◌, ◌∷◌}
use Rattle.tree_build.specs.Loads.{below}
use Rattle.tree_build.proofs.Compounding.{reads_compound}
use Rattle.tree_build.proofs.Onto.{compound_on, finished_on}
use Rattle.tree_build.specs.Frame.{Finished}
use Rattle.tree_build.proofs.Moving.{one_for_one}
use Rattle.tree_moves.specs.Tags as tag
use Rattle.tree_build.proofs.functions.close_compound.Goals as goal

pub returns-clause-grows : goal.returns-clause-grows
returns-clause-grows c =
    let line = c.in-Some-Compound.line in
    let command = c.in-Some.command in
    let commands : c.end_body.new.commands ≡ below c.frames.inside.lists.commands = search rules in
    let redirects : c.end_body.new.redirects ≡ below c.frames.inside.redirections.redirects = search rules in
    let pushed : c.push-ready.new.self ≡ command ∷ c.end_body.new.commands = search rules in
    reads_compound c.args.moment line _ command _ _ _ _ (search rules)
    (sym c.frames.view_is ∙ compound_on c.frames.inside.opened c.pop.new.self _ line (search rules))
    (rw (pushed, commands, redirects) (finished_on c.push_after.new.self c.pop.new.self _ line (search rules)))

pub returns-clause-moves : goal.returns-clause-moves
returns-clause-moves c =
    let line = c.in-Some-Compound.line in
    let command = c.in-Some.command in
    let commands : c.end_body.new.commands ≡ below c.frames.inside.lists.commands = search rules in
    let redirects : c.end_body.new.redirects ≡ below c.frames.inside.redirections.redirects = search rules in
    let pushed : c.push-ready.new.self ≡ command ∷ c.end_body.new.commands = search rules in
    one_for_one tag.Compound tag.Finished _ (Finished line command) _ _ _ (λ p. tt)
    (sym c.frames.view_is ∙ compound_on c.frames.inside.opened c.pop.new.self _ line (search rules))
    (rw (pushed, commands, redirects) (finished_on c.push_after.new.self c.pop.new.self _ line (search rules)))
