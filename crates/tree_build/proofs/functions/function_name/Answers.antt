use Rattle.std.proofs.Common.{rules, sym, ◌∙◌, ◌≡◌, ◌∷◌, true}
use Rattle.tree_parts.specs.Parts.{names_of}
use Rattle.tree_build.proofs.Defining.{reads_function_name}
use Rattle.tree_build.proofs.Onto.{function_on, function_name_on}
use Rattle.tree_build.specs.Frame.{Function, FunctionName}
use Rattle.tree_build.proofs.Moving.{one_for_one}
use Rattle.tree_moves.specs.Tags as tag
use Rattle.tree_build.proofs.functions.function_name.Goals as goal

pub returns-clause-grows : goal.returns-clause-grows
returns-clause-grows c =
    let begun = c.in-Some-Opened-Function in
    let pushed : c.push-ready.new.self ≡ names_of c.args.bytes.now ∷ c.frames.inside.lists.function_names = search rules in
    reads_function_name c.args.sign c.args.bytes.now begun.from begun.line _ _ _ (search rules)
    (sym c.frames.view_is ∙ function_on c.frames.inside.opened c.pop.new.self _ begun.from begun.line (search rules))
    (rw pushed (function_name_on c.push_after.new.self c.pop.new.self _ begun.from begun.line true (search rules)))

pub returns-clause-moves : goal.returns-clause-moves
returns-clause-moves c =
    let begun = c.in-Some-Opened-Function in
    let pushed : c.push-ready.new.self ≡ names_of c.args.bytes.now ∷ c.frames.inside.lists.function_names = search rules in
    λ k n. one_for_one tag.Function tag.FunctionName (Function begun.from begun.line) (FunctionName begun.from begun.line true (names_of c.args.bytes.now)) _ _ _ (λ p. tt)
    (sym c.frames.view_is ∙ function_on c.frames.inside.opened c.pop.new.self _ begun.from begun.line (search rules))
    (rw pushed (function_name_on c.push_after.new.self c.pop.new.self _ begun.from begun.line true (search rules)))
