use Rattle.std.proofs.Common.{rules, sym, ◌∙◌, ◌≡◌, [], ◌∷◌, ◌++◌}
use Rattle.tree_build.specs.Loads.{below, top}
use Rattle.tree_build.specs.Reads.{arm}
use Rattle.tree_build.proofs.Onto.{listed_on, then_on, else_on}
use Rattle.tree_build.proofs.Compounding.{reads_last_arm}
use Rattle.tree_build.specs.Frame.{Else}
use Rattle.tree_build.proofs.Moving.{two_for_one}
use Rattle.tree_moves.specs.Tags as tag
use Rattle.tree_build.proofs.compounds.end_last_arm.Goals as goal

pub returns-clause-grows : goal.returns-clause-grows
returns-clause-grows c =
    let line = c.in-Some-Then.line in
    let body = c.in-Some.body in
    let test = c.in-Some-pop.test in
    let taken : c.frames.inside.lists.lists ≡ body ∷ test ∷ c.pop-4.new.self = search rules in
    let added : c.add-ready.new.self ≡ (top [] c.frames.inside.compounds.arms ++ arm test body ∷ []) ∷ below c.frames.inside.compounds.arms = search rules in
    reads_last_arm c.args.sign c.args.bytes.now line _ _ _ _ _ _ _ (search rules)
    (sym c.frames.view_is ∙ listed_on c.frames.inside.opened c.pop.new.self _ (search rules))
    (then_on c.pop.new.self c.pop-2.new.self _ line (search rules))
    (rw (added, taken) (else_on c.push_after.new.self c.pop-2.new.self _ line (search rules)))

pub returns-clause-moves : goal.returns-clause-moves
returns-clause-moves c =
    let line = c.in-Some-Then.line in
    let body = c.in-Some.body in
    let test = c.in-Some-pop.test in
    let taken : c.frames.inside.lists.lists ≡ body ∷ test ∷ c.pop-4.new.self = search rules in
    let added : c.add-ready.new.self ≡ (top [] c.frames.inside.compounds.arms ++ arm test body ∷ []) ∷ below c.frames.inside.compounds.arms = search rules in
    λ k. two_for_one tag.Listed tag.Then tag.Else _ _ (Else line (top [] c.add-ready.new.self)) _ _ _ _ (λ p q. tt)
    (sym c.frames.view_is ∙ listed_on c.frames.inside.opened c.pop.new.self _ (search rules))
    (then_on c.pop.new.self c.pop-2.new.self _ line (search rules))
    (rw (added, taken) (else_on c.push_after.new.self c.pop-2.new.self _ line (search rules)))
