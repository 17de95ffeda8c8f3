use Rattle.std.proofs.Common.{rules, sym, ◌∙◌, ◌≡◌, [], ◌∷◌}
use Rattle.ksh_ast.specs.declared.tree.Command.TheVariants as commands
use Rattle.tree_build.proofs.Onto.{listed_on, subshell_on, compound_on}
use Rattle.tree_build.proofs.Compounding.{reads_subshell}
use Rattle.tree_build.specs.Frame.{Compound}
use Rattle.tree_build.proofs.Moving.{two_for_one}
use Rattle.tree_moves.specs.Tags as tag
use Rattle.tree_build.proofs.Redirecting.{subshell_redirects}
use Rattle.tree_build.proofs.compounds.close_subshell.Goals as goal

pub returns-clause-grows : goal.returns-clause-grows
returns-clause-grows c =
    let line = c.in-Some-Opened-Subshell.line in
    let body = c.in-Some.body in
    let taken : c.frames.inside.lists.lists ≡ body ∷ c.pop-3.new.self = search rules in
    let pushed : c.push_compound-ready.new.commands ≡ commands.Subshell body [] ∷ c.frames.inside.lists.commands = search rules in
    let bare : c.push_compound-ready.new.redirects ≡ [] ∷ c.frames.inside.redirections.redirects = search rules in
    reads_subshell c.args.sign c.args.bytes.now line _ _ _ _ _ (search rules)
    (sym c.frames.view_is ∙ listed_on c.frames.inside.opened c.pop.new.self _ (search rules))
    (subshell_on c.pop.new.self c.pop-2.new.self _ line (search rules))
    (rw (pushed, bare, taken) (compound_on c.push_after.new.self c.pop-2.new.self _ line (search rules)))

pub returns-clause-moves : goal.returns-clause-moves
returns-clause-moves c =
    let line = c.in-Some-Opened-Subshell.line in
    let body = c.in-Some.body in
    let taken : c.frames.inside.lists.lists ≡ body ∷ c.pop-3.new.self = search rules in
    let pushed : c.push_compound-ready.new.commands ≡ commands.Subshell body [] ∷ c.frames.inside.lists.commands = search rules in
    let bare : c.push_compound-ready.new.redirects ≡ [] ∷ c.frames.inside.redirections.redirects = search rules in
    λ k. two_for_one tag.Listed tag.Subshell tag.Compound _ _ (Compound line (commands.Subshell body []) []) _ _ _ _ (λ p q more e. subshell_redirects body more e)
    (sym c.frames.view_is ∙ listed_on c.frames.inside.opened c.pop.new.self _ (search rules))
    (subshell_on c.pop.new.self c.pop-2.new.self _ line (search rules))
    (rw (pushed, bare, taken) (compound_on c.push_after.new.self c.pop-2.new.self _ line (search rules)))
