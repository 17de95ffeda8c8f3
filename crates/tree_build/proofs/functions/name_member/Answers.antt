use Rattle.std.proofs.Common.{rules, sym, ◌∙◌, ◌≡◌, [], ◌∷◌, ap, false}
use Rattle.tree_parts.specs.Literals.{literal}
use Rattle.tree_parts.specs.Parts.{names_of}
use Rattle.tree_build.specs.Loads.{top}
use Rattle.tree_build.proofs.Giving.{names_member}
use Rattle.tree_build.proofs.Onto.{whole_on, function_name_on}
use Rattle.tree_build.specs.Frame.{FunctionName}
use Rattle.tree_build.proofs.Moving.{one_for_one}
use Rattle.tree_moves.specs.Tags as tag
use Rattle.tree_build.proofs.functions.name_member.Goals as goal

pub returns-clause-grows : goal.returns-clause-grows
returns-clause-grows c =
    let whole = c.in-Some-Whole-default-default-false in
    let text = c.in-Some-literal_text.text in
    let taken : c.frames.inside.texts.words ≡ literal text false ∷ c.pop-2.new.self = search rules in
    let pushed : c.push-ready.new.self ≡ names_of text ∷ c.frames.inside.lists.function_names = search rules in
    names_member c.args.sign c.args.bytes.now whole.from whole.field-0-1 text (top [] c.frames.inside.texts.words) _ _ _ (search rules) (ap (λ xs. top [] xs) taken)
    (sym c.frames.view_is ∙ whole_on c.frames.inside.opened c.pop.new.self _ whole.from whole.field-0-1 false (search rules))
    (rw (pushed, taken) (function_name_on c.push_after.new.self c.pop.new.self _ whole.from c.args.sign.line false (search rules)))

pub returns-clause-moves : goal.returns-clause-moves
returns-clause-moves c =
    let whole = c.in-Some-Whole-default-default-false in
    let text = c.in-Some-literal_text.text in
    let taken : c.frames.inside.texts.words ≡ literal text false ∷ c.pop-2.new.self = search rules in
    let pushed : c.push-ready.new.self ≡ names_of text ∷ c.frames.inside.lists.function_names = search rules in
    λ k. one_for_one tag.WholeName tag.FunctionName _ (FunctionName whole.from c.args.sign.line false (names_of text)) _ _ _ (λ p. tt)
    (sym c.frames.view_is ∙ whole_on c.frames.inside.opened c.pop.new.self _ whole.from whole.field-0-1 false (search rules))
    (rw (pushed, taken) (function_name_on c.push_after.new.self c.pop.new.self _ whole.from c.args.sign.line false (search rules)))
