use Rattle.std.proofs.Common.{rules, sym, ◌∙◌, ◌≡◌, [], ◌∷◌, ap}
use Rattle.ksh_ast.specs.declared.tree.ParamOf.TheVariants as of
use Rattle.tree_parts.specs.declared.asked.Asked.TheVariants as asked
use Rattle.tree_parts.specs.Parts.{prefix_of}
use Rattle.tree_build.specs.Loads.{top}
use Rattle.tree_build.proofs.Giving.{takes_prefix}
use Rattle.tree_build.proofs.Onto.{parameter_on}
use Rattle.tree_build.proofs.parameters.take_prefix.Goals as goal

pub returns-clause-grows : goal.returns-clause-grows
returns-clause-grows c =
    let quoted = c.in-Some-Parameter-default-Target.quoted in
    let path = c.in-Some-Var.path in
    let taken : c.frames.inside.texts.params ≡ of.Var path ∷ c.pop-2.new.self = search rules in
    let pushed : c.push-ready.new.self ≡ of.Prefix (prefix_of path) ∷ c.pop-2.new.self = search rules in
    takes_prefix c.args.sign c.args.bytes.now quoted path (top (of.Special []) c.frames.inside.texts.params) _ _ _ (search rules) (ap (λ xs. top (of.Special []) xs) taken)
    (sym c.frames.view_is ∙ parameter_on c.frames.inside.opened c.pop.new.self _ quoted asked.Target (search rules))
    (rw (pushed, taken) (parameter_on c.push_after.new.self c.pop.new.self _ quoted asked.Value (search rules)))
