use Rattle.std.proofs.Common.{rules, sym, ◌∙◌, ◌≡◌, [], ◌∷◌}
use Rattle.tree_parts.specs.Parts.{item}
use Rattle.tree_build.specs.Loads.{below}
use Rattle.tree_build.specs.Reads.{definition, slice}
use Rattle.tree_build.proofs.Defining.{reads_function}
use Rattle.tree_build.proofs.Onto.{compound_on, function_name_on, defined_on}
use Rattle.tree_build.specs.Frame.{Defined}
use Rattle.tree_build.proofs.Moving.{two_for_one}
use Rattle.tree_moves.specs.Tags as tag
use Rattle.tree_build.proofs.functions.close_function.Goals as goal

pub returns-clause-grows : goal.returns-clause-grows
returns-clause-grows c =
    let own = c.in-Some-Compound.own in
    let named = c.in-Some-FunctionName in
    let command = c.in-Some.command in
    let name = c.in-Some-pop.name in
    let commands : c.end_body.new.commands ≡ below c.frames.inside.lists.commands = search rules in
    let redirects : c.end_body.new.redirects ≡ below c.frames.inside.redirections.redirects = search rules in
    let names : c.frames.inside.lists.function_names ≡ name ∷ c.pop-3.new.self = search rules in
    let pushed : c.push-ready.new.self ≡ definition name named.own_scope (item own command ∷ []) (slice c.args.script.now named.from c.args.moment.to) ∷ c.frames.inside.lists.functions = search rules in
    reads_function c.args.script.now c.args.moment named.from named.line own named.own_scope _ _ command _ _ _ _ _ (search rules)
    (sym c.frames.view_is ∙ compound_on c.frames.inside.opened c.pop.new.self _ own (search rules))
    (function_name_on c.pop.new.self c.pop-2.new.self _ named.from named.line named.own_scope (search rules))
    (rw (pushed, commands, redirects, names) (defined_on c.push_after.new.self c.pop-2.new.self _ named.line (search rules)))

pub returns-clause-moves : goal.returns-clause-moves
returns-clause-moves c =
    let own = c.in-Some-Compound.own in
    let named = c.in-Some-FunctionName in
    let command = c.in-Some.command in
    let name = c.in-Some-pop.name in
    let commands : c.end_body.new.commands ≡ below c.frames.inside.lists.commands = search rules in
    let redirects : c.end_body.new.redirects ≡ below c.frames.inside.redirections.redirects = search rules in
    let names : c.frames.inside.lists.function_names ≡ name ∷ c.pop-3.new.self = search rules in
    let pushed : c.push-ready.new.self ≡ definition name named.own_scope (item own command ∷ []) (slice c.args.script.now named.from c.args.moment.to) ∷ c.frames.inside.lists.functions = search rules in
    two_for_one tag.Compound tag.FunctionName tag.Defined _ _ (Defined named.line (definition name named.own_scope (item own command ∷ []) (slice c.args.script.now named.from c.args.moment.to))) _ _ _ _ (λ p q. tt)
    (sym c.frames.view_is ∙ compound_on c.frames.inside.opened c.pop.new.self _ own (search rules))
    (function_name_on c.pop.new.self c.pop-2.new.self _ named.from named.line named.own_scope (search rules))
    (rw (pushed, commands, redirects, names) (defined_on c.push_after.new.self c.pop-2.new.self _ named.line (search rules)))
