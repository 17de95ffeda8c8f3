use Rattle.std.proofs.Common.{rules, sym, ◌∙◌, ◌≡◌, [], ◌∷◌}
use Rattle.ksh_ast.specs.declared.tree.ParamOf.TheVariants as of
use Rattle.tree_build.proofs.Bracing.{reads_named}
use Rattle.tree_build.proofs.Onto.{braces_on, parameter_on}
use Rattle.tree_build.proofs.MovingS.{names_length, names_target, names_value}
use Rattle.tree_build.proofs.parameters.name_parameter.Goals as goal

pub returns-clause-grows : goal.returns-clause-grows
returns-clause-grows c =
    let braces = c.in-Some-Opened-Braces in
    let pushed : c.push-ready.new.self ≡ of.Var (record { name = c.args.bytes.now; parts = [] }) ∷ c.frames.inside.texts.params = search rules in
    reads_named c.args.sign c.args.bytes.now braces.quoted braces.asked _ _ _ (search rules)
    (sym c.frames.view_is ∙ braces_on c.frames.inside.opened c.pop.new.self _ braces.quoted braces.asked (search rules))
    (rw pushed (parameter_on c.push_after.new.self c.pop.new.self _ braces.quoted braces.asked (search rules)))

pub returns-clause-moves_value : goal.returns-clause-moves_value
returns-clause-moves_value c =
    let braces = c.in-Some-Opened-Braces in
    let pushed : c.push-ready.new.self ≡ of.Var (record { name = c.args.bytes.now; parts = [] }) ∷ c.frames.inside.texts.params = search rules in
    λ k good. names_value braces.quoted braces.asked (record { name = c.args.bytes.now; parts = [] }) _ _ _
    (sym c.frames.view_is ∙ braces_on c.frames.inside.opened c.pop.new.self _ braces.quoted braces.asked (search rules))
    (rw pushed (parameter_on c.push_after.new.self c.pop.new.self _ braces.quoted braces.asked (search rules)))

pub returns-clause-moves_length : goal.returns-clause-moves_length
returns-clause-moves_length c =
    let braces = c.in-Some-Opened-Braces in
    let pushed : c.push-ready.new.self ≡ of.Var (record { name = c.args.bytes.now; parts = [] }) ∷ c.frames.inside.texts.params = search rules in
    λ k good. names_length braces.quoted braces.asked (record { name = c.args.bytes.now; parts = [] }) _ _ _
    (sym c.frames.view_is ∙ braces_on c.frames.inside.opened c.pop.new.self _ braces.quoted braces.asked (search rules))
    (rw pushed (parameter_on c.push_after.new.self c.pop.new.self _ braces.quoted braces.asked (search rules)))

pub returns-clause-moves_target : goal.returns-clause-moves_target
returns-clause-moves_target c =
    let braces = c.in-Some-Opened-Braces in
    let pushed : c.push-ready.new.self ≡ of.Var (record { name = c.args.bytes.now; parts = [] }) ∷ c.frames.inside.texts.params = search rules in
    λ k good. names_target braces.quoted braces.asked (record { name = c.args.bytes.now; parts = [] }) _ _ _
    (sym c.frames.view_is ∙ braces_on c.frames.inside.opened c.pop.new.self _ braces.quoted braces.asked (search rules))
    (rw pushed (parameter_on c.push_after.new.self c.pop.new.self _ braces.quoted braces.asked (search rules)))
