use Rattle.std.proofs.Common.{rules, sym, ◌∙◌, ◌≡◌, [], ◌∷◌, ◌++◌}
use Rattle.tree_parts.specs.declared.entry.Entry.TheVariants as entry
use Rattle.tree_build.specs.Loads.{below, top}
use Rattle.tree_build.proofs.Defining.{reads_value_function}
use Rattle.tree_build.proofs.Onto.{defined_on, value_on}
use Rattle.tree_build.specs.Frame.{Value}
use Rattle.tree_build.proofs.Moving.{two_for_one}
use Rattle.tree_moves.specs.Tags as tag
use Rattle.tree_build.proofs.functions.give_member.Goals as goal

pub returns-clause-stays : goal.returns-clause-stays
returns-clause-stays c =
    let line = c.in-Some-Defined.field-0-0 in
    reads_value_function line _ _ _ _ _ _
    (sym c.frames.view_is ∙ defined_on c.frames.inside.opened c.pop.new.self _ line (search rules))
    (value_on c.pop.new.self c.pop-2.new.self _ (search rules))
    (value_on c.push_after.new.self c.pop-2.new.self _ (search rules) ∙ (search rules))

pub returns-clause-moves : goal.returns-clause-moves
returns-clause-moves c =
    let line = c.in-Some-Defined.field-0-0 in
    let definition = c.in-Some.definition in
    let taken : c.frames.inside.lists.functions ≡ definition ∷ c.pop-3.new.self = search rules in
    let added : c.add-ready.new.self ≡ (top [] c.frames.inside.texts.entries ++ entry.Function definition ∷ []) ∷ below c.frames.inside.texts.entries = search rules in
    two_for_one tag.Defined tag.Value tag.Value _ _ (Value (top [] c.frames.inside.texts.entries ++ entry.Function definition ∷ [])) _ _ _ _ (λ p q. tt)
    (sym c.frames.view_is ∙ defined_on c.frames.inside.opened c.pop.new.self _ line (search rules))
    (value_on c.pop.new.self c.pop-2.new.self _ (search rules))
    (rw (added, taken) (value_on c.push_after.new.self c.pop-2.new.self _ (search rules)))
