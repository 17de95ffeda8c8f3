use Rattle.std.proofs.Common.{rules, sym, ◌∙◌, ◌≡◌, [], ◌∷◌}
use Rattle.tree_build.specs.Reads.{repeated}
use Rattle.tree_build.proofs.Onto.{listed_on, for_body_on, compound_on}
use Rattle.tree_build.proofs.Compounding.{reads_for_ends}
use Rattle.tree_build.specs.Frame.{Compound}
use Rattle.tree_build.proofs.Moving.{two_for_one}
use Rattle.tree_build.proofs.MovingR.{repeated_redirects}
use Rattle.tree_moves.specs.Tags as tag
use Rattle.tree_build.proofs.loops.end_for.Goals as goal

pub returns-clause-grows : goal.returns-clause-grows
returns-clause-grows c =
    let line = c.in-Some-ForBody.line in
    let select = c.in-Some-ForBody.select in
    let body = c.in-Some.body in
    let name = c.in-Some-pop.name in
    let words = c.in-Some-pop-2.words in
    let taken : c.frames.inside.lists.lists ≡ body ∷ c.pop-3.new.self = search rules in
    let named : c.frames.inside.compounds.names ≡ name ∷ c.pop-4.new.self = search rules in
    let listed : c.frames.inside.compounds.optional_words ≡ words ∷ c.pop-5.new.self = search rules in
    let pushed : c.push_compound-ready.new.commands ≡ repeated select name words body ∷ c.frames.inside.lists.commands = search rules in
    let bare : c.push_compound-ready.new.redirects ≡ [] ∷ c.frames.inside.redirections.redirects = search rules in
    reads_for_ends c.args.sign c.args.bytes.now line select _ _ _ _ _ _ _ (search rules)
    (sym c.frames.view_is ∙ listed_on c.frames.inside.opened c.pop.new.self _ (search rules))
    (for_body_on c.pop.new.self c.pop-2.new.self _ line select (search rules))
    (rw (pushed, bare, taken, named, listed) (compound_on c.push_after.new.self c.pop-2.new.self _ line (search rules)))

pub returns-clause-moves : goal.returns-clause-moves
returns-clause-moves c =
    let line = c.in-Some-ForBody.line in
    let select = c.in-Some-ForBody.select in
    let body = c.in-Some.body in
    let name = c.in-Some-pop.name in
    let words = c.in-Some-pop-2.words in
    let taken : c.frames.inside.lists.lists ≡ body ∷ c.pop-3.new.self = search rules in
    let named : c.frames.inside.compounds.names ≡ name ∷ c.pop-4.new.self = search rules in
    let listed : c.frames.inside.compounds.optional_words ≡ words ∷ c.pop-5.new.self = search rules in
    let pushed : c.push_compound-ready.new.commands ≡ repeated select name words body ∷ c.frames.inside.lists.commands = search rules in
    let bare : c.push_compound-ready.new.redirects ≡ [] ∷ c.frames.inside.redirections.redirects = search rules in
    λ k. two_for_one tag.Listed tag.ForBody tag.Compound _ _ (Compound line (repeated select name words body) []) _ _ _ _ (λ p q more e. repeated_redirects select name words body more e)
    (sym c.frames.view_is ∙ listed_on c.frames.inside.opened c.pop.new.self _ (search rules))
    (for_body_on c.pop.new.self c.pop-2.new.self _ line select (search rules))
    (rw (pushed, bare, taken, named, listed) (compound_on c.push_after.new.self c.pop-2.new.self _ line (search rules)))
