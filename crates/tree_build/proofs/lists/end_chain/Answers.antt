use Rattle.std.proofs.Common.{rules, sym, ◌∙◌, ◌≡◌, [], ◌∷◌, ◌++◌}
use Rattle.ksh_ast.specs.declared.tree.Command.TheVariants as commands
use Rattle.tree_build.specs.Loads.{below, top}
use Rattle.tree_parts.specs.Parts.{item}
use Rattle.tree_build.proofs.Onto.{chain_on, lines_on}
use Rattle.tree_build.proofs.Listing.{reads_ended_line}
use Rattle.tree_build.specs.Frame.{Lines}
use Rattle.tree_build.proofs.Moving.{two_for_one}
use Rattle.tree_moves.specs.Tags as tag
use Rattle.tree_build.proofs.lists.end_chain.Goals as goal

pub returns-clause-grows : goal.returns-clause-grows
returns-clause-grows c =
    let line = c.in-Some-Chain.line in
    let given = c.in-Some.command in
    let command = c.in-Some-ended.command in
    let taken : c.frames.inside.lists.commands ≡ given ∷ c.pop-3.new.self = search rules in
    let added : c.add-ready.new.self ≡ (top [] c.frames.inside.lists.lines ++ item line command ∷ []) ∷ below c.frames.inside.lists.lines = search rules in
    reads_ended_line c.args.sign c.args.bytes.now line (top (commands.Simple [] [] []) c.frames.inside.lists.commands) command _ _ _ _ _ (rw taken (search rules))
    (sym c.frames.view_is ∙ chain_on c.frames.inside.opened c.pop.new.self _ line (search rules))
    (lines_on c.pop.new.self c.pop-2.new.self _ (search rules))
    (rw (added, taken) (lines_on c.push_after.new.self c.pop-2.new.self _ (search rules)))

pub returns-clause-moves : goal.returns-clause-moves
returns-clause-moves c =
    let line = c.in-Some-Chain.line in
    let given = c.in-Some.command in
    let command = c.in-Some-ended.command in
    let taken : c.frames.inside.lists.commands ≡ given ∷ c.pop-3.new.self = search rules in
    let added : c.add-ready.new.self ≡ (top [] c.frames.inside.lists.lines ++ item line command ∷ []) ∷ below c.frames.inside.lists.lines = search rules in
    λ k. two_for_one tag.Chain tag.Lines tag.Lines _ _ (Lines (top [] c.add-ready.new.self)) _ _ _ _ (λ p q. tt)
    (sym c.frames.view_is ∙ chain_on c.frames.inside.opened c.pop.new.self _ line (search rules))
    (lines_on c.pop.new.self c.pop-2.new.self _ (search rules))
    (rw (added, taken) (lines_on c.push_after.new.self c.pop-2.new.self _ (search rules)))
