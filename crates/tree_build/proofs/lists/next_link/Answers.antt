use Rattle.std.proofs.Common.{rules, sym, ◌∙◌, ◌≡◌, [], ◌∷◌, ◌++◌}
use Rattle.tree_build.specs.Loads.{below, top}
use Rattle.tree_build.specs.Reads.{link}
use Rattle.tree_build.proofs.Onto.{piped_on, linked_on}
use Rattle.tree_build.proofs.Listing.{reads_next_link}
use Rattle.tree_build.specs.Frame.{Linked}
use Rattle.tree_build.proofs.Moving.{two_for_one}
use Rattle.tree_moves.specs.Tags as tag
use Rattle.ksh_ast.specs.declared.tree.Command.TheVariants as commands
use Rattle.tree_build.proofs.lists.next_link.Goals as goal

pub returns-clause-grows : goal.returns-clause-grows
returns-clause-grows c =
    let then_or = c.in-Some.then_or in
    let own = c.in-Some-Piped.field-0-0 in
    let line = c.in-Some-Linked.line in
    let or = c.in-Some-Linked.or in
    let command = c.in-Some-pop.command in
    let taken : c.frames.inside.lists.commands ≡ command ∷ c.pop-3.new.self = search rules in
    let added : c.add-ready.new.self ≡ (top [] c.frames.inside.lists.links ++ link or command ∷ []) ∷ below c.frames.inside.lists.links = search rules in
    reads_next_link c.args.sign c.args.bytes.now line own _ _ _ or then_or _ _ _ _ (search rules)
    (sym c.frames.view_is ∙ piped_on c.frames.inside.opened c.pop.new.self _ own (search rules))
    (linked_on c.pop.new.self c.pop-2.new.self _ line or (search rules))
    (rw (added, taken) (linked_on c.push_after.new.self c.pop-2.new.self _ line then_or (search rules)))

pub returns-clause-moves : goal.returns-clause-moves
returns-clause-moves c =
    let then_or = c.in-Some.then_or in
    let own = c.in-Some-Piped.field-0-0 in
    let line = c.in-Some-Linked.line in
    let or = c.in-Some-Linked.or in
    let command = c.in-Some-pop.command in
    let taken : c.frames.inside.lists.commands ≡ command ∷ c.pop-3.new.self = search rules in
    let added : c.add-ready.new.self ≡ (top [] c.frames.inside.lists.links ++ link or command ∷ []) ∷ below c.frames.inside.lists.links = search rules in
    λ k. two_for_one tag.Piped tag.Linked tag.Linked _ _ (Linked line (top (commands.Simple [] [] []) c.pop-3.new.self) (top [] c.add-ready.new.self) then_or) _ _ _ _ (λ p q. tt)
    (sym c.frames.view_is ∙ piped_on c.frames.inside.opened c.pop.new.self _ own (search rules))
    (linked_on c.pop.new.self c.pop-2.new.self _ line or (search rules))
    (rw (added, taken) (linked_on c.push_after.new.self c.pop-2.new.self _ line then_or (search rules)))
