use Rattle.std.proofs.Common.{rules, sym, ◌∙◌, ◌≡◌, [], ◌∷◌, ◌++◌, false, refl, None, Err}
use Rattle.ksh_ast.specs.declared.tree.Command.TheVariants as commands
use Rattle.tree_build.specs.Reads.{case_item}
use Rattle.tree_build.specs.declared.opening.Open.TheVariants as opens
use Rattle.tree_build.proofs.Onto.{listed_on, compound_on}
use Rattle.tree_build.proofs.Compounding.{reads_last_item_ends}
use Rattle.tree_build.specs.Frame.{Compound}
use Rattle.tree_build.proofs.Moving.{fits_at, three_for_one}
use Rattle.tree_build.proofs.MovingR.{case_redirects, none_fit}
use Rattle.tree_moves.specs.Tags as tag
use Rattle.tree_build.proofs.loops.end_case_list.Goals as goal

pub returns-clause-grows : goal.returns-clause-grows
returns-clause-grows c =
    let line = c.in-Some.line in
    let body = c.in-Some-pop.body in
    let patterns = c.in-Some-pop-2.patterns in
    let word = c.in-Some-pop-3.word in
    let items = c.in-Some-pop-4.items in
    let rest = c.pop_item.new.opened in
    let stood : c.frames.inside.opened ≡ opens.Listed ∷ opens.Patterns ∷ opens.Cases line ∷ rest = search rules in
    let taken : c.frames.inside.lists.lists ≡ body ∷ c.pop.new.self = search rules in
    let matched : c.frames.inside.compounds.word_lists ≡ patterns ∷ c.pop-2.new.self = search rules in
    let worded : c.frames.inside.texts.words ≡ word ∷ c.pop-3.new.self = search rules in
    let cased : c.frames.inside.compounds.cases ≡ items ∷ c.pop-4.new.self = search rules in
    let pushed : c.push_compound-ready.new.commands ≡ commands.Case word (items ++ case_item patterns body false ∷ []) [] ∷ c.frames.inside.lists.commands = search rules in
    let bare : c.push_compound-ready.new.redirects ≡ [] ∷ c.frames.inside.redirections.redirects = search rules in
    reads_last_item_ends c.args.sign c.args.bytes.now line _ _ _ _ _ _ _ _ _ (search rules)
    (sym c.frames.view_is ∙ listed_on c.frames.inside.opened (opens.Patterns ∷ opens.Cases line ∷ rest) _ stood)
    refl
    refl
    (rw (pushed, bare, taken, matched, worded, cased) (compound_on c.push_after.new.self rest _ line (search rules)))

pub returns-clause-moves : goal.returns-clause-moves
returns-clause-moves c =
    let line = c.in-Some.line in
    let body = c.in-Some-pop.body in
    let patterns = c.in-Some-pop-2.patterns in
    let word = c.in-Some-pop-3.word in
    let items = c.in-Some-pop-4.items in
    let rest = c.pop_item.new.opened in
    let stood : c.frames.inside.opened ≡ opens.Listed ∷ opens.Patterns ∷ opens.Cases line ∷ rest = search rules in
    let taken : c.frames.inside.lists.lists ≡ body ∷ c.pop.new.self = search rules in
    let matched : c.frames.inside.compounds.word_lists ≡ patterns ∷ c.pop-2.new.self = search rules in
    let worded : c.frames.inside.texts.words ≡ word ∷ c.pop-3.new.self = search rules in
    let cased : c.frames.inside.compounds.cases ≡ items ∷ c.pop-4.new.self = search rules in
    let pushed : c.push_compound-ready.new.commands ≡ commands.Case word (items ++ case_item patterns body false ∷ []) [] ∷ c.frames.inside.lists.commands = search rules in
    let bare : c.push_compound-ready.new.redirects ≡ [] ∷ c.frames.inside.redirections.redirects = search rules in
    λ k. three_for_one tag.Listed tag.Patterns tag.Cases tag.Compound _ _ _ (Compound line (commands.Case word (items ++ case_item patterns body false ∷ []) []) []) _ _ _ _ _ (λ p q r more e. case_redirects word (items ++ case_item patterns body false ∷ []) more e)
    (sym c.frames.view_is ∙ listed_on c.frames.inside.opened (opens.Patterns ∷ opens.Cases line ∷ rest) _ stood)
    refl
    refl
    (rw (pushed, bare, taken, matched, worded, cased) (compound_on c.push_after.new.self rest _ line (search rules)))

pub returns-in_default-clause-moves : goal.returns-in_default-clause-moves
returns-in_default-clause-moves c =
    let none : c.pop_item.result ≡ None = search rules in
    λ k. none_fit {A = Unit {0}} (tag.Listed ∷ tag.Patterns ∷ tag.Cases ∷ [], tag.Compound ∷ []) c.args.frames.now [] (Err c.stray-in_default.result)
    (λ rest fits. c.pop_item.ensures.none none _ rest (fits_at (tag.Listed ∷ tag.Patterns ∷ tag.Cases ∷ rest) _ _ (sym c.frames.view_is) fits))
