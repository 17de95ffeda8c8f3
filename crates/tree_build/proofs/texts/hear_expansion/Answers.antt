use Rattle.std.proofs.Common.{rules, sym, ◌∙◌, ◌≡◌, [], ◌∷◌, ◌++◌}
use Rattle.ksh_ast.specs.declared.tree.ParamForm.TheVariants as made
use Rattle.tree_parts.specs.Literals.{from_place, quotes}
use Rattle.tree_parts.specs.Parts.{simple_param}
use Rattle.tree_build.specs.Loads.{below, top}
use Rattle.tree_build.specs.Reads.{expansion}
use Rattle.tree_build.proofs.Texting.{reads_simple_expansion}
use Rattle.tree_build.proofs.Onto.{text_on}
use Rattle.tree_build.proofs.texts.hear_expansion.Goals as goal

pub returns-clause-grows : goal.returns-clause-grows
returns-clause-grows c =
    let at = c.in-Expand.at in
    let s = c.args.sign in
    let added : c.add-ready.new.self ≡ (top [] c.frames.inside.texts.words ++ expansion (simple_param (from_place s at c.args.bytes.now)) made.Plain (quotes s.mode) ∷ []) ∷ below c.frames.inside.texts.words = search rules in
    reads_simple_expansion s c.args.bytes.now at (top [] c.frames.inside.texts.words) _ _ _ (search rules)
    (sym c.frames.view_is ∙ text_on c.frames.inside.opened c.pop.new.self _ (search rules))
    (rw added (text_on c.push_after.new.self c.pop.new.self _ (search rules)))
