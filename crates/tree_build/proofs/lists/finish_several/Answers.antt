use Rattle.std.proofs.Common.{rules, sym, ◌∙◌, ◌≡◌, [], ◌∷◌, ◌++◌}
use Rattle.ksh_ast.specs.declared.tree.Command.TheVariants as commands
use Rattle.tree_build.specs.Reads.{link}
use Rattle.tree_build.proofs.Onto.{piped_on, linked_on, chain_on}
use Rattle.tree_build.proofs.Listing.{reads_pipelines}
use Rattle.tree_build.specs.Frame.{Chain}
use Rattle.tree_build.proofs.Moving.{two_for_one}
use Rattle.tree_moves.specs.Tags as tag
use Rattle.tree_build.proofs.lists.finish_several.Goals as goal

pub returns-clause-stays : goal.returns-clause-stays
returns-clause-stays c =
    let own = c.in-Some-Piped.field-0-0 in
    let line = c.in-Some-Linked.line in
    let or = c.in-Some-Linked.or in
    let command = c.in-Some.command in
    let first = c.in-Some-pop.first in
    let rest = c.in-Some-pop-2.rest in
    let taken : c.frames.inside.lists.commands ≡ command ∷ first ∷ c.pop-4.new.self = search rules in
    let linked : c.frames.inside.lists.links ≡ rest ∷ c.pop-5.new.self = search rules in
    let pushed : c.push-ready.new.self ≡ commands.AndOr first (rest ++ link or command ∷ []) ∷ c.pop-4.new.self = search rules in
    reads_pipelines line own _ _ _ or _ _ _ _
    (sym c.frames.view_is ∙ piped_on c.frames.inside.opened c.pop.new.self _ own (search rules))
    (linked_on c.pop.new.self c.pop-2.new.self _ line or (search rules))
    (rw (pushed, taken, linked) (chain_on c.push_after.new.self c.pop-2.new.self _ line (search rules)))

pub returns-clause-moves : goal.returns-clause-moves
returns-clause-moves c =
    let own = c.in-Some-Piped.field-0-0 in
    let line = c.in-Some-Linked.line in
    let or = c.in-Some-Linked.or in
    let command = c.in-Some.command in
    let first = c.in-Some-pop.first in
    let rest = c.in-Some-pop-2.rest in
    let taken : c.frames.inside.lists.commands ≡ command ∷ first ∷ c.pop-4.new.self = search rules in
    let linked : c.frames.inside.lists.links ≡ rest ∷ c.pop-5.new.self = search rules in
    let pushed : c.push-ready.new.self ≡ commands.AndOr first (rest ++ link or command ∷ []) ∷ c.pop-4.new.self = search rules in
    two_for_one tag.Piped tag.Linked tag.Chain _ _ (Chain line (commands.AndOr first (rest ++ link or command ∷ []))) _ _ _ _ (λ p q. tt)
    (sym c.frames.view_is ∙ piped_on c.frames.inside.opened c.pop.new.self _ own (search rules))
    (linked_on c.pop.new.self c.pop-2.new.self _ line or (search rules))
    (rw (pushed, taken, linked) (chain_on c.push_after.new.self c.pop-2.new.self _ line (search rules)))
