use Rattle.std.proofs.Common.{rules, sym, ◌∙◌, ◌≡◌, [], ◌∷◌}
use Rattle.ksh_ast.specs.declared.tree.Command.TheVariants as commands
use Rattle.tree_build.proofs.Onto.{listed_on, loop_body_on, compound_on}
use Rattle.tree_build.proofs.Compounding.{reads_loop_ends}
use Rattle.tree_build.specs.Frame.{Compound}
use Rattle.tree_build.proofs.Moving.{two_for_one}
use Rattle.tree_moves.specs.Tags as tag
use Rattle.tree_build.proofs.Redirecting.{loop_redirects}
use Rattle.tree_build.proofs.compounds.end_loop.Goals as goal

pub returns-clause-grows : goal.returns-clause-grows
returns-clause-grows c =
    let line = c.in-Some-LoopBody.line in
    let until = c.in-Some-LoopBody.until in
    let body = c.in-Some.body in
    let test = c.in-Some-pop.test in
    let taken : c.frames.inside.lists.lists ≡ body ∷ test ∷ c.pop-4.new.self = search rules in
    let pushed : c.push_compound-ready.new.commands ≡ commands.Loop until test body [] ∷ c.frames.inside.lists.commands = search rules in
    let bare : c.push_compound-ready.new.redirects ≡ [] ∷ c.frames.inside.redirections.redirects = search rules in
    reads_loop_ends c.args.sign c.args.bytes.now line until _ _ _ _ _ _ (search rules)
    (sym c.frames.view_is ∙ listed_on c.frames.inside.opened c.pop.new.self _ (search rules))
    (loop_body_on c.pop.new.self c.pop-2.new.self _ line until (search rules))
    (rw (pushed, bare, taken) (compound_on c.push_after.new.self c.pop-2.new.self _ line (search rules)))

pub returns-clause-moves : goal.returns-clause-moves
returns-clause-moves c =
    let line = c.in-Some-LoopBody.line in
    let until = c.in-Some-LoopBody.until in
    let body = c.in-Some.body in
    let test = c.in-Some-pop.test in
    let taken : c.frames.inside.lists.lists ≡ body ∷ test ∷ c.pop-4.new.self = search rules in
    let pushed : c.push_compound-ready.new.commands ≡ commands.Loop until test body [] ∷ c.frames.inside.lists.commands = search rules in
    let bare : c.push_compound-ready.new.redirects ≡ [] ∷ c.frames.inside.redirections.redirects = search rules in
    λ k. two_for_one tag.Listed tag.LoopBody tag.Compound _ _ (Compound line (commands.Loop until test body []) []) _ _ _ _ (λ p q more e. loop_redirects until test body more e)
    (sym c.frames.view_is ∙ listed_on c.frames.inside.opened c.pop.new.self _ (search rules))
    (loop_body_on c.pop.new.self c.pop-2.new.self _ line until (search rules))
    (rw (pushed, bare, taken) (compound_on c.push_after.new.self c.pop-2.new.self _ line (search rules)))
