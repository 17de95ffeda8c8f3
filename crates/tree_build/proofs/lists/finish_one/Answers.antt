use Rattle.std.proofs.Common.{rules, sym, ◌∙◌}
use Rattle.tree_build.proofs.Onto.{piped_on, no_link_on, chain_on}
use Rattle.tree_build.proofs.Listing.{reads_one_pipeline}
use Rattle.tree_build.proofs.Moving.{two_for_one}
use Rattle.tree_moves.specs.Tags as tag
use Rattle.tree_build.proofs.lists.finish_one.Goals as goal

pub returns-clause-stays : goal.returns-clause-stays
returns-clause-stays c =
    let line = c.in-Some-Piped.line in
    reads_one_pipeline line _ _ _ _ _
    (sym c.frames.view_is ∙ piped_on c.frames.inside.opened c.pop.new.self _ line (search rules))
    (no_link_on c.pop.new.self c.pop-2.new.self _ (search rules))
    (chain_on c.push_after.new.self c.pop-2.new.self _ line (search rules))

pub returns-clause-moves : goal.returns-clause-moves
returns-clause-moves c =
    let line = c.in-Some-Piped.line in
    two_for_one tag.Piped tag.NoLink tag.Chain _ _ _ _ _ _ _ (λ p q. tt)
    (sym c.frames.view_is ∙ piped_on c.frames.inside.opened c.pop.new.self _ line (search rules))
    (no_link_on c.pop.new.self c.pop-2.new.self _ (search rules))
    (chain_on c.push_after.new.self c.pop-2.new.self _ line (search rules))
