use Rattle.std.proofs.Common.{rules, sym, ◌∙◌, ◌≡◌, [], ◌∷◌, ◌++◌}
use Rattle.tree_parts.specs.declared.entry.Entry.TheVariants as entry
use Rattle.tree_build.specs.Loads.{below, top}
use Rattle.tree_build.proofs.Defining.{reads_value_break}
use Rattle.tree_build.proofs.Onto.{value_on}
use Rattle.tree_build.specs.Frame.{Value}
use Rattle.tree_build.proofs.Moving.{one_for_one}
use Rattle.tree_build.proofs.Names.{broken_again}
use Rattle.tree_moves.specs.Tags as tag
use Rattle.tree_build.proofs.functions.break_entries.Goals as goal

pub returns-clause-grows : goal.returns-clause-grows
returns-clause-grows c =
    let added : c.add-ready.new.self ≡ (top [] c.frames.inside.texts.entries ++ entry.Break ∷ []) ∷ below c.frames.inside.texts.entries = search rules in
    reads_value_break c.args.sign c.args.bytes.now (top [] c.frames.inside.texts.entries) _ _ _ (search rules)
    (sym c.frames.view_is ∙ value_on c.frames.inside.opened c.pop.new.self _ (search rules))
    (rw added (value_on c.push_after.new.self c.pop.new.self _ (search rules)))

pub returns-clause-moves_entry : goal.returns-clause-moves_entry
returns-clause-moves_entry c =
    let added : c.add-ready.new.self ≡ (top [] c.frames.inside.texts.entries ++ entry.Break ∷ []) ∷ below c.frames.inside.texts.entries = search rules in
    λ k. one_for_one tag.Value tag.Value (Value (top [] c.frames.inside.texts.entries)) (Value (top [] c.frames.inside.texts.entries ++ entry.Break ∷ [])) _ _ _ (λ p. tt)
    (sym c.frames.view_is ∙ value_on c.frames.inside.opened c.pop.new.self _ (search rules))
    (rw added (value_on c.push_after.new.self c.pop.new.self _ (search rules)))

pub returns-clause-moves_named : goal.returns-clause-moves_named
returns-clause-moves_named c =
    let added : c.add-ready.new.self ≡ (top [] c.frames.inside.texts.entries ++ entry.Break ∷ []) ∷ below c.frames.inside.texts.entries = search rules in
    λ k. one_for_one tag.ValueBroken tag.ValueBroken (Value (top [] c.frames.inside.texts.entries)) (Value (top [] c.frames.inside.texts.entries ++ entry.Break ∷ [])) _ _ _ (λ p. broken_again (top [] c.frames.inside.texts.entries) p)
    (sym c.frames.view_is ∙ value_on c.frames.inside.opened c.pop.new.self _ (search rules))
    (rw added (value_on c.push_after.new.self c.pop.new.self _ (search rules)))
