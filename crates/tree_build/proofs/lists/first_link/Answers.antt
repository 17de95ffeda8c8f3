use Rattle.std.proofs.Common.{rules, sym, ◌∙◌, ◌≡◌, [], ◌∷◌}
use Rattle.tree_build.proofs.Onto.{piped_on, no_link_on, linked_on}
use Rattle.tree_build.proofs.Listing.{reads_first_link}
use Rattle.tree_build.specs.Frame.{Linked}
use Rattle.tree_build.proofs.Moving.{two_for_one}
use Rattle.tree_moves.specs.Tags as tag
use Rattle.ksh_ast.specs.declared.tree.Command.TheVariants as commands
use Rattle.tree_build.specs.Loads.{top}
use Rattle.tree_build.proofs.lists.first_link.Goals as goal

pub returns-clause-grows : goal.returns-clause-grows
returns-clause-grows c =
    let then_or = c.in-Some.then_or in
    let own = c.in-Some-Piped.own in
    let pushed : c.push-ready.new.self ≡ [] ∷ c.frames.inside.lists.links = search rules in
    reads_first_link c.args.sign c.args.bytes.now own _ then_or _ _ _ _ (search rules)
    (sym c.frames.view_is ∙ piped_on c.frames.inside.opened c.pop.new.self _ own (search rules))
    (no_link_on c.pop.new.self c.pop-2.new.self _ (search rules))
    (rw pushed (linked_on c.push_after.new.self c.pop-2.new.self _ own then_or (search rules)))

pub returns-clause-moves : goal.returns-clause-moves
returns-clause-moves c =
    let then_or = c.in-Some.then_or in
    let own = c.in-Some-Piped.own in
    let pushed : c.push-ready.new.self ≡ [] ∷ c.frames.inside.lists.links = search rules in
    λ k. two_for_one tag.Piped tag.NoLink tag.Linked _ _ (Linked own (top (commands.Simple [] [] []) c.frames.inside.lists.commands) [] then_or) _ _ _ _ (λ p q. tt)
    (sym c.frames.view_is ∙ piped_on c.frames.inside.opened c.pop.new.self _ own (search rules))
    (no_link_on c.pop.new.self c.pop-2.new.self _ (search rules))
    (rw pushed (linked_on c.push_after.new.self c.pop-2.new.self _ own then_or (search rules)))
