use Rattle.std.proofs.Common.{rules, sym, ◌∙◌, ◌≡◌, [], ◌∷◌, ap, false, Err, None}
use Rattle.ksh_ast.specs.declared.tree.Argument.TheVariants as argument
use Rattle.tree_parts.specs.Literals.{literal}
use Rattle.tree_parts.specs.Parts.{names_of}
use Rattle.tree_build.specs.Loads.{top}
use Rattle.tree_build.proofs.Giving.{names_function}
use Rattle.tree_build.proofs.Onto.{simple_on, function_name_on}
use Rattle.tree_build.specs.Frame.{FunctionName}
use Rattle.tree_build.proofs.Moving.{one_for_one}
use Rattle.tree_build.proofs.MovingR.{never_simple_name, not_names}
use Rattle.tree_build.proofs.OneWord.{never_alone}
use Rattle.tree_moves.specs.Tags as tag
use Rattle.tree_build.proofs.functions.name_function.Goals as goal

pub returns-clause-grows : goal.returns-clause-grows
returns-clause-grows c =
    let simple = c.in-Some-Simple in
    let text = c.in-Some-literal_text.text in
    let given : c.frames.inside.simples.assigns ≡ [] ∷ c.pop-2.new.self = search rules in
    let words : c.frames.inside.simples.arguments ≡ (argument.Word (literal text false) ∷ []) ∷ c.pop-3.new.self = search rules in
    let redirects : c.frames.inside.redirections.redirects ≡ [] ∷ c.pop-4.new.self = search rules in
    let pushed : c.push-ready.new.self ≡ names_of text ∷ c.frames.inside.lists.function_names = search rules in
    names_function c.args.sign c.args.bytes.now simple.from simple.line text (top [] c.frames.inside.simples.assigns) (top [] c.frames.inside.simples.arguments) (top [] c.frames.inside.redirections.redirects)
    _ _ _ (search rules) (ap (λ xs. top [] xs) given) (ap (λ xs. top [] xs) words) (ap (λ xs. top [] xs) redirects)
    (sym c.frames.view_is ∙ simple_on c.frames.inside.opened c.pop.new.self _ simple.from simple.line (search rules))
    (rw (pushed, given, words, redirects) (function_name_on c.push_after.new.self c.pop.new.self _ simple.from simple.line false (search rules)))

pub returns-clause-moves : goal.returns-clause-moves
returns-clause-moves c =
    let simple = c.in-Some-Simple in
    let text = c.in-Some-literal_text.text in
    let given : c.frames.inside.simples.assigns ≡ [] ∷ c.pop-2.new.self = search rules in
    let words : c.frames.inside.simples.arguments ≡ (argument.Word (literal text false) ∷ []) ∷ c.pop-3.new.self = search rules in
    let redirects : c.frames.inside.redirections.redirects ≡ [] ∷ c.pop-4.new.self = search rules in
    let pushed : c.push-ready.new.self ≡ names_of text ∷ c.frames.inside.lists.function_names = search rules in
    λ k. one_for_one tag.SimpleName tag.FunctionName _ (FunctionName simple.from simple.line false (names_of text)) _ _ _ (λ p. tt)
    (sym c.frames.view_is ∙ simple_on c.frames.inside.opened c.pop.new.self _ simple.from simple.line (search rules))
    (rw (pushed, given, words, redirects) (function_name_on c.push_after.new.self c.pop.new.self _ simple.from simple.line false (search rules)))

pub returns-in_default-literal_text-clause-moves : goal.returns-in_default-literal_text-clause-moves
returns-in_default-literal_text-clause-moves c =
    let simple = c.in-Some-Simple in
    let word = c.in-Some-only_word.word in
    let none : c.literal_text.result ≡ None = search rules in
    λ k. never_simple_name {A = Unit {0}} (tag.FunctionName ∷ []) simple.from simple.line c.frames.inside.simples.assigns c.pop-2.new.self c.frames.inside.simples.arguments c.pop-3.new.self c.frames.inside.redirections.redirects c.pop-4.new.self
    c.in-Some.given c.in-Some-pop.words c.in-Some-pop-2.redirects c.args.frames.now _ [] (Err c.stray-in_default-literal_text.result)
    (sym c.frames.view_is ∙ simple_on c.frames.inside.opened c.pop.new.self _ simple.from simple.line (search rules)) (search rules) (search rules) (search rules)
    (never_alone c.in-Some.given c.in-Some-pop.words c.in-Some-pop-2.redirects word (search rules) (c.literal_text.ensures.none none))

pub returns-in_default-found-clause-moves : goal.returns-in_default-found-clause-moves
returns-in_default-found-clause-moves c =
    let simple = c.in-Some-Simple in
    let word = c.in-Some-only_word.word in
    λ k. never_simple_name {A = Unit {0}} (tag.FunctionName ∷ []) simple.from simple.line c.frames.inside.simples.assigns c.pop-2.new.self c.frames.inside.simples.arguments c.pop-3.new.self c.frames.inside.redirections.redirects c.pop-4.new.self
    c.in-Some.given c.in-Some-pop.words c.in-Some-pop-2.redirects c.args.frames.now _ [] (Err c.stray-in_default-found.result)
    (sym c.frames.view_is ∙ simple_on c.frames.inside.opened c.pop.new.self _ simple.from simple.line (search rules)) (search rules) (search rules) (search rules)
    (never_alone c.in-Some.given c.in-Some-pop.words c.in-Some-pop-2.redirects word (search rules) (not_names word c.in-Some-literal_text.text (search rules) (search rules)))
