use Rattle.std.proofs.Common.{rules, sym, ◌∙◌, ◌≡◌, [], ◌∷◌, ◌++◌, refl, None, Err}
use Rattle.tree_build.specs.Loads.{below, top}
use Rattle.tree_build.specs.Reads.{case_item}
use Rattle.tree_build.specs.declared.opening.Open.TheVariants as opens
use Rattle.tree_build.proofs.Onto.{listed_on, cases_on}
use Rattle.tree_build.proofs.Compounding.{reads_case_item_ends}
use Rattle.tree_build.specs.Frame.{Cases}
use Rattle.tree_build.proofs.Moving.{fits_at, three_for_one}
use Rattle.tree_build.proofs.MovingR.{none_fit}
use Rattle.tree_moves.specs.Tags as tag
use Rattle.tree_build.proofs.loops.end_item.Goals as goal

pub returns-clause-grows : goal.returns-clause-grows
returns-clause-grows c =
    let falls = c.in-Some.falls in
    let line = c.in-Some-pop_item.line in
    let body = c.in-Some-pop.body in
    let patterns = c.in-Some-pop-2.patterns in
    let rest = c.pop_item.new.opened in
    let stood : c.frames.inside.opened ≡ opens.Listed ∷ opens.Patterns ∷ opens.Cases line ∷ rest = search rules in
    let taken : c.frames.inside.lists.lists ≡ body ∷ c.pop.new.self = search rules in
    let matched : c.frames.inside.compounds.word_lists ≡ patterns ∷ c.pop-2.new.self = search rules in
    let added : c.add-ready.new.self ≡ (top [] c.frames.inside.compounds.cases ++ case_item patterns body falls ∷ []) ∷ below c.frames.inside.compounds.cases = search rules in
    reads_case_item_ends c.args.sign c.args.bytes.now line _ _ _ _ falls _ _ _ _ _ (search rules)
    (sym c.frames.view_is ∙ listed_on c.frames.inside.opened (opens.Patterns ∷ opens.Cases line ∷ rest) _ stood)
    refl
    refl
    (rw (added, taken, matched) (cases_on c.push_after.new.self rest _ line (search rules)))

pub returns-clause-moves : goal.returns-clause-moves
returns-clause-moves c =
    let falls = c.in-Some.falls in
    let line = c.in-Some-pop_item.line in
    let body = c.in-Some-pop.body in
    let patterns = c.in-Some-pop-2.patterns in
    let rest = c.pop_item.new.opened in
    let stood : c.frames.inside.opened ≡ opens.Listed ∷ opens.Patterns ∷ opens.Cases line ∷ rest = search rules in
    let taken : c.frames.inside.lists.lists ≡ body ∷ c.pop.new.self = search rules in
    let matched : c.frames.inside.compounds.word_lists ≡ patterns ∷ c.pop-2.new.self = search rules in
    let added : c.add-ready.new.self ≡ (top [] c.frames.inside.compounds.cases ++ case_item patterns body falls ∷ []) ∷ below c.frames.inside.compounds.cases = search rules in
    λ k. three_for_one tag.Listed tag.Patterns tag.Cases tag.Cases _ _ _ (Cases line (top [] c.frames.inside.texts.words) (top [] c.frames.inside.compounds.cases ++ case_item patterns body falls ∷ [])) _ _ _ _ _ (λ p q r. tt)
    (sym c.frames.view_is ∙ listed_on c.frames.inside.opened (opens.Patterns ∷ opens.Cases line ∷ rest) _ stood)
    refl
    refl
    (rw (added, taken, matched) (cases_on c.push_after.new.self rest _ line (search rules)))

pub returns-in_default-pop_item-clause-moves : goal.returns-in_default-pop_item-clause-moves
returns-in_default-pop_item-clause-moves c =
    let none : c.pop_item.result ≡ None = search rules in
    λ k. none_fit {A = Unit {0}} (tag.Listed ∷ tag.Patterns ∷ tag.Cases ∷ [], tag.Cases ∷ []) c.args.frames.now [] (Err c.stray-in_default-pop_item.result)
    (λ rest fits. c.pop_item.ensures.none none _ rest (fits_at (tag.Listed ∷ tag.Patterns ∷ tag.Cases ∷ rest) _ _ (sym c.frames.view_is) fits))
