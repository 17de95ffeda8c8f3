use Rattle.std.proofs.Common.{rules, sym, ◌∙◌, ◌≡◌, [], ◌∷◌, ◌++◌, true}
use Rattle.tree_parts.specs.declared.entry.Entry.TheVariants as entry
use Rattle.tree_parts.specs.Parts.{item}
use Rattle.tree_build.specs.Loads.{below, top}
use Rattle.tree_build.specs.Reads.{EndsWithFunction, definition, slice}
use Rattle.tree_build.proofs.Defining.{reads_value_named_function}
use Rattle.tree_build.proofs.Onto.{compound_on, value_on}
use Rattle.tree_build.specs.Frame.{Value}
use Rattle.tree_build.proofs.Moving.{two_for_one}
use Rattle.tree_moves.specs.Tags as tag
use Rattle.tree_build.proofs.functions.close_named_member.Goals as goal

pub returns-clause-grows : goal.returns-clause-grows
returns-clause-grows c =
    let own = c.in-Some-Compound.own in
    let found = c.in-Some in
    let command = c.in-Some-end_body.command in
    let commands : c.end_body.new.commands ≡ below c.frames.inside.lists.commands = search rules in
    let redirects : c.end_body.new.redirects ≡ below c.frames.inside.redirections.redirects = search rules in
    let ends : EndsWithFunction (top [] c.frames.inside.texts.entries) (top [] c.end_named.new.entries) found._from found.name = search rules in
    let text : found.text ≡ slice c.args.script.now found._from c.args.moment.to = search rules in
    let rest : below c.end_named.new.entries ≡ below c.frames.inside.texts.entries = search rules in
    let added : c.add-ready.new.self ≡ (top [] c.end_named.new.entries ++ entry.Function (definition found.name true (item own command ∷ []) found.text) ∷ []) ∷ below c.end_named.new.entries = search rules in
    reads_value_named_function c.args.script.now c.args.moment found._from own found.name (top [] c.frames.inside.texts.entries) (top [] c.end_named.new.entries)
    _ command _ _ _ _ _ ends (search rules)
    (sym c.frames.view_is ∙ compound_on c.frames.inside.opened c.pop.new.self _ own (search rules))
    (value_on c.pop.new.self c.pop-2.new.self _ (search rules))
    (rw (added, rest, text, commands, redirects) (value_on c.push_after.new.self c.pop-2.new.self _ (search rules)))

pub returns-clause-moves : goal.returns-clause-moves
returns-clause-moves c =
    let own = c.in-Some-Compound.own in
    let found = c.in-Some in
    let command = c.in-Some-end_body.command in
    let commands : c.end_body.new.commands ≡ below c.frames.inside.lists.commands = search rules in
    let redirects : c.end_body.new.redirects ≡ below c.frames.inside.redirections.redirects = search rules in
    let rest : below c.end_named.new.entries ≡ below c.frames.inside.texts.entries = search rules in
    let added : c.add-ready.new.self ≡ (top [] c.end_named.new.entries ++ entry.Function (definition found.name true (item own command ∷ []) found.text) ∷ []) ∷ below c.end_named.new.entries = search rules in
    two_for_one tag.Compound tag.ValueBroken tag.Value _ _ (Value (top [] c.end_named.new.entries ++ entry.Function (definition found.name true (item own command ∷ []) found.text) ∷ [])) _ _ _ _ (λ p q. tt)
    (sym c.frames.view_is ∙ compound_on c.frames.inside.opened c.pop.new.self _ own (search rules))
    (value_on c.pop.new.self c.pop-2.new.self _ (search rules))
    (rw (added, rest, commands, redirects) (value_on c.push_after.new.self c.pop-2.new.self _ (search rules)))
