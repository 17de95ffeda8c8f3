use Rattle.std.proofs.Common.{rules, sym, ◌∙◌, ◌≡◌, [], ◌∷◌}
use Rattle.tree_build.specs.Loads.{top}
use Rattle.tree_build.proofs.Giving.{ends_counted}
use Rattle.tree_build.proofs.Onto.{listed_on, for_arithmetic_body_on, compound_on}
use Rattle.tree_build.specs.Frame.{Compound}
use Rattle.tree_build.proofs.MovingR.{counted_redirects}
use Rattle.tree_build.proofs.Moving.{two_for_one}
use Rattle.tree_moves.specs.Tags as tag
use Rattle.tree_build.proofs.loops.end_for_arithmetic.Goals as goal

pub returns-clause-grows : goal.returns-clause-grows
returns-clause-grows c =
    let line = c.in-Some-ForArithmeticBody.line in
    let body = c.in-Some.body in
    let parts = c.in-Some-pop.parts in
    let command = c.in-Some-counted.command in
    let taken : c.frames.inside.lists.lists ≡ body ∷ c.pop-3.new.self = search rules in
    let parted : c.frames.inside.compounds.parts ≡ parts ∷ c.pop-4.new.self = search rules in
    let pushed : c.push_compound-ready.new.commands ≡ command ∷ c.frames.inside.lists.commands = search rules in
    let bare : c.push_compound-ready.new.redirects ≡ [] ∷ c.frames.inside.redirections.redirects = search rules in
    ends_counted c.args.sign c.args.bytes.now line (top [] c.frames.inside.compounds.parts) (top [] c.frames.inside.lists.lists) command _ _ _ _ (search rules)
    (rw (parted, taken) c.in-Some-counted.ensures.counts)
    (sym c.frames.view_is ∙ listed_on c.frames.inside.opened c.pop.new.self _ (search rules))
    (for_arithmetic_body_on c.pop.new.self c.pop-2.new.self _ line (search rules))
    (rw (pushed, bare, taken, parted) (compound_on c.push_after.new.self c.pop-2.new.self _ line (search rules)))

pub returns-clause-moves : goal.returns-clause-moves
returns-clause-moves c =
    let line = c.in-Some-ForArithmeticBody.line in
    let body = c.in-Some.body in
    let parts = c.in-Some-pop.parts in
    let command = c.in-Some-counted.command in
    let taken : c.frames.inside.lists.lists ≡ body ∷ c.pop-3.new.self = search rules in
    let parted : c.frames.inside.compounds.parts ≡ parts ∷ c.pop-4.new.self = search rules in
    let pushed : c.push_compound-ready.new.commands ≡ command ∷ c.frames.inside.lists.commands = search rules in
    let bare : c.push_compound-ready.new.redirects ≡ [] ∷ c.frames.inside.redirections.redirects = search rules in
    λ k. two_for_one tag.Listed tag.ForArithmeticBody tag.Compound _ _ (Compound line command []) _ _ _ _ (λ p q more e. counted_redirects parts body command c.in-Some-counted.ensures.counts more e)
    (sym c.frames.view_is ∙ listed_on c.frames.inside.opened c.pop.new.self _ (search rules))
    (for_arithmetic_body_on c.pop.new.self c.pop-2.new.self _ line (search rules))
    (rw (pushed, bare, taken, parted) (compound_on c.push_after.new.self c.pop-2.new.self _ line (search rules)))
