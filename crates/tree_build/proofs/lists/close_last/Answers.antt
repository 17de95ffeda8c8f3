use Rattle.std.proofs.Common.{rules, sym, ◌∙◌, ◌≡◌, [], ◌∷◌, ◌++◌}
use Rattle.tree_parts.specs.Parts.{item}
use Rattle.tree_build.proofs.Onto.{chain_on, lines_on, listed_on}
use Rattle.tree_build.proofs.Listing.{reads_list_and_one}
use Rattle.tree_build.specs.Frame.{Listed}
use Rattle.tree_build.proofs.Moving.{two_for_one}
use Rattle.tree_moves.specs.Tags as tag
use Rattle.tree_build.proofs.lists.close_last.Goals as goal

pub returns-clause-grows : goal.returns-clause-grows
returns-clause-grows c =
    let line = c.in-Some-Chain.line in
    let command = c.in-Some.command in
    let items = c.in-Some-pop.items in
    let taken : c.frames.inside.lists.commands ≡ command ∷ c.pop-3.new.self = search rules in
    let lined : c.frames.inside.lists.lines ≡ items ∷ c.pop-4.new.self = search rules in
    let pushed : c.push-ready.new.self ≡ (items ++ item line command ∷ []) ∷ c.frames.inside.lists.lists = search rules in
    reads_list_and_one c.args.moment line _ _ _ _ _ _
    (sym c.frames.view_is ∙ chain_on c.frames.inside.opened c.pop.new.self _ line (search rules))
    (lines_on c.pop.new.self c.pop-2.new.self _ (search rules))
    (rw (pushed, taken, lined) (listed_on c.push_after.new.self c.pop-2.new.self _ (search rules)))

pub returns-clause-moves : goal.returns-clause-moves
returns-clause-moves c =
    let line = c.in-Some-Chain.line in
    let command = c.in-Some.command in
    let items = c.in-Some-pop.items in
    let taken : c.frames.inside.lists.commands ≡ command ∷ c.pop-3.new.self = search rules in
    let lined : c.frames.inside.lists.lines ≡ items ∷ c.pop-4.new.self = search rules in
    let pushed : c.push-ready.new.self ≡ (items ++ item line command ∷ []) ∷ c.frames.inside.lists.lists = search rules in
    two_for_one tag.Chain tag.Lines tag.Listed _ _ (Listed (items ++ item line command ∷ [])) _ _ _ _ (λ p q. tt)
    (sym c.frames.view_is ∙ chain_on c.frames.inside.opened c.pop.new.self _ line (search rules))
    (lines_on c.pop.new.self c.pop-2.new.self _ (search rules))
    (rw (pushed, taken, lined) (listed_on c.push_after.new.self c.pop-2.new.self _ (search rules)))
